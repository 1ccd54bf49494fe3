-- A turn of the search in the numbers of the last level's next value.
use Prim.Native.Nat.{ℕ, ◌+◌, ◌-◌, ◌<◌}
use mathlib.Core.Path.{◌≡◌, sym, ap, ◌∙◌}
use mathlib.Core.List.{List}
use lib.ListN.{length, get_or}
use native.Mathlib.Omega.{arith}
use Rattle.walk.specs.Cycle.{stop_at}
use Rattle.std.specs.Prelude.{Result, Err}
use Rattle.walk.specs.declared.Halt.{Halt}
use Rattle.walk.specs.declared.Halt.TheVariants as halt
use Rattle.levels.specs.Columns.{places, variables, starts, rows, nexts, lefts, LevelAt}
use Rattle.levels.specs.declared.Level.{Level}
use Rattle.levels.specs.Levels.{AttemptPre, AttemptPost}
use Rattle.levels.proofs.Columns.{columns_long}
use Rattle.levels.specs.Steps.{NextPre, NextPost, DeeperPre, DeeperPost}
use Rattle.search.proofs.Turns.{Input, Pre, Going, Ready, Passing, Tried, placed, level_asked, passed_asked, passed_further, passed_tried, need_fits, need_room, more_asked, tried_need}

module _ {i : Input} {out R A : List ℕ} {W : List Level} {depth cnt tries : ℕ}
    (ready : Ready i out R A (places W) (variables W) (starts W) (rows W) (nexts W) (lefts W) depth cnt tries) (pre : Pre i) (long : length W ≡ 256) where
  pub next_pre : (tries ≡ i.budget → ⊥) → NextPre i.L i.S i.M A W (depth - 1) i.budget tries
  next_pre more =
      let q = placed ready pre in
      record {
        inside = record { long = long; few = omega (arith, q.some, q.deep) };
        live = ready.live;
        small = q.small;
        afford = omega (arith, more, ready.going.charged);
        asked = λ limit fewer afford. (
          level_asked ready pre fewer,
          λ failed u post. passed_further (record { pre = pre; columns = columns_long W long; ready = ready; fewer = fewer; afford = afford; post = post }),
        );
      }

  -- the level has gone on to its next value
  module _ {W' : List Level} {p x s u v left failed : ℕ} (n : NextPost i.L i.S i.M A W (depth - 1) i.budget tries W' p x s u v left failed) where
    abbrev e : LevelAt W (depth - 1) p x s n.row n.next n.some
    e = n.level

    passing : Passing i out R A (places W) (variables W) (starts W) (rows W) (nexts W) (lefts W) depth cnt tries n.limit failed u
    passing = record { pre = pre; columns = columns_long W long; ready = ready; fewer = rw e.left at n.fewer; afford = n.afford; post = rw (e.place, e.row, e.left) at n.passed }

    pub charged : tries + failed < i.budget
    charged = omega (arith, n.afford, n.passed.few)

    pub attempt_pre : AttemptPre i.L i.S i.M i.tables R A p x s u v
    attempt_pre = rw (n.value, e.place, e.variable, e.start, e.next) (passed_asked passing)

    -- the value was tried
    module _ {o : Result ℕ Halt} {R' A' : List ℕ} (answered : AttemptPost i.L i.S i.M i.tables R A p x s u v o R' A') where
      pub tried : Tried i out R' A' (places W') (variables W') (starts W') (rows W') (nexts W') (lefts W') depth cnt (tries + failed + 1) u left o
      tried =
          let m = n.moved in
          rw (m.same_places, m.same_variables, m.same_starts, m.new_rows, m.new_nexts, m.new_lefts, n.value, n.rest, e.next, e.left)
          (passed_tried passing (rw (n.rest, e.place, e.left) at n.further) (rw (n.value, e.place, e.variable, e.start, e.next) at answered))

      same_place : get_or (places W') (depth - 1) 0 ≡ p
      same_place = ap (λ (c : List ℕ). get_or c (depth - 1) 0) n.moved.same_places ∙ sym e.place

      -- the walk needs a choice
      module _ {p₁ x₁ s₁ : ℕ} (needs : o ≡ Err (halt.Need (stop_at p₁ x₁ s₁))) where
        pub deeper_pre : DeeperPre i.S i.M A' W' depth p u left p₁ s₁
        deeper_pre =
            record {
              inside = record { long = n.moved.long ∙ long; few = need_fits tried needs pre };
              room = need_room tried needs pre;
              more = rw same_place at (more_asked tried needs pre);
            }

        pub entered : {W'' : List Level} → DeeperPost i.S i.M A' W' depth p u left p₁ x₁ s₁ W''
            → Going i out R' A' (places W'') (variables W'') (starts W'') (rows W'') (nexts W'') (lefts W'') (depth + 1) cnt (tries + failed + 1)
        entered d =
            let w = d.entered in
            rw (w.new_places, w.new_variables, w.new_starts, w.new_rows, w.new_nexts, w.new_lefts)
            (tried_need tried needs d.least_is (rw same_place d.many_is) pre (columns_long W' (n.moved.long ∙ long)))
