-- The search's loop: what holds at each turn, for every problem that the lists mean.
use Prim.Native.Nat.{ℕ, suc, ◌+◌, ◌-◌, ◌*◌, ◌<◌, ◌≤◌}
use mathlib.Core.Path.{◌≡◌, refl, ap, ◌∙◌, subst}
use mathlib.Core.List.{List, []}
use lib.ListN.{length, get_or, take, set}
use lib.Seq.{paste, set-set, get_or-set_same}
use native.Mathlib.Omega.{arith}
use native.Mathlib.Numerals.{add-one}
use Rattle.meaning.specs.Forest.{Term, size, rows}
use Rattle.meaning.specs.Pattern.{Pattern, Kind}
use Rattle.meaning.specs.Record.{Entry, numbers}
use Rattle.meaning.proofs.Walk.{ok, walk}
use Rattle.meaning.proofs.Tame.{count, tame_need}
use Rattle.tree.specs.Rows.{GoodTree}
use Rattle.tree.proofs.Unique.{good_lengths}
use Rattle.expression.specs.Expression.{Expression}
use Rattle.constraint.specs.Obeys.{Constraint, Allowed}
use Rattle.constraint.proofs.Allowed.{allowed?}
use Rattle.walk.specs.Cycle.{stop_at}
use Rattle.walk.specs.Taken.{Answers}
use Rattle.std.specs.Prelude.{Result, Ok, Err}
use Rattle.walk.specs.declared.Halt.{Halt}
use Rattle.meaning.specs.declared.endings.Ending.TheVariants.{All, Room, Budget}
use Rattle.walk.specs.declared.Halt.TheVariants as halt
use Rattle.walk.proofs.Answered.{failed, matched}
use Rattle.choice.specs.Stops.{many, StopAt, LeastPost, FurtherPre, FurtherPost, Before, MorePre, MorePost}
use Rattle.choice.specs.Runs.{LevelPre, SkipPost}
use Rattle.choice.proofs.Stops.{at_room}
use Rattle.catalogue.proofs.Events as events
use Rattle.catalogue.proofs.Back.{BackTo}
use Rattle.catalogue.proofs.Fill.{Filled, fill, rest, ahead}
use Rattle.catalogue.proofs.Levels.{levels_back}
use Rattle.catalogue.proofs.Loop.{Fixed, At, at_rest, at_back, all_done, at_spent, at_skip, at_next, at_fail, at_need, at_match, no_room, room_left, need_deep}
use Rattle.catalogue.proofs.Whole.{outcome}
use Rattle.levels.specs.Levels.{AttemptPre, AttemptPost}
use Rattle.search.specs.Search.{GoAsked, GoPre, GoPost}
use Rattle.search.specs.declared.Found.{Found}
use Rattle.levels.proofs.Going.{few, Walked, is_fixed, Leveled, Paused, Asks, asks_stop, asks_values, asks_level, skip_asked, skip_fails, skip_levels, try_kind, try_taken, try_answered, further_asked}
use Rattle.levels.proofs.Columns.{ColumnsLong, columns_moved}
use Rattle.levels.proofs.Pauses.{pauses_back}
use Rattle.levels.proofs.Tried.{try_long}
use Rattle.letters.specs.declared.Tables.{Tables}

pub tree_small : {L S : List ℕ} {T : Term} → GoodTree L S T → size T ≤ 2048
unfolding rows
tree_small t = omega (arith, t.few, good_lengths t)

-- what the search is given, in the order of its parameters: the tree, the packed pattern, the tables, the limits, and then
-- the record and the levels as they stand, with the list that is to be filled
pub record Input : Type 0 where
  pub L : List ℕ
  pub S : List ℕ
  pub M : List ℕ
  pub tables : Tables
  pub budget : ℕ
  pub room : ℕ
  pub width : ℕ
  pub R : List ℕ
  pub A : List ℕ
  pub G : List ℕ
  pub X : List ℕ
  pub St : List ℕ
  pub U : List ℕ
  pub N : List ℕ
  pub F : List ℕ
  pub start : ℕ
  pub before : List ℕ

abbrev pub given :
    (L S M : List ℕ) (tables : Tables) (budget room width : ℕ)
    (R A G X St U N F : List ℕ) (start : ℕ) (before : List ℕ) → Input
given L S M tables budget room width R A G X St U N F start before =
    record {
      L = L;
      S = S;
      M = M;
      tables = tables;
      budget = budget;
      room = room;
      width = width;
      R = R;
      A = A;
      G = G;
      X = X;
      St = St;
      U = U;
      N = N;
      F = F;
      start = start;
      before = before;
    }

-- the last level has its place and a value left, and its values are small
pub record Placed (N F : List ℕ) (depth : ℕ) : Type 0 where
  pub some : 0 < depth
  pub deep : depth ≤ 256
  pub live : 0 < get_or F (depth - 1) 0
  pub small : get_or N (depth - 1) 0 + get_or F (depth - 1) 0 ≤ 2049

module _ (i : Input) where
  abbrev Asked : Term → Pattern → List Kind → List Expression → List Constraint → List ℕ → Type 0
  Asked T P Q es cs vals =
      GoAsked i.L i.S i.M i.tables i.room i.width
      i.R i.A i.G i.X i.St i.U i.N i.F i.start i.before T P Q es cs vals

  abbrev Post : Found → List ℕ → Type 0
  Post r after =
      GoPost i.L i.S i.M i.tables i.budget i.room i.width
      i.R i.A i.G i.X i.St i.U i.N i.F i.start i.before r after

  abbrev pub Pre : Type 0
  Pre =
      GoPre i.L i.S i.M i.tables i.room i.width
      i.R i.A i.G i.X i.St i.U i.N i.F i.start i.before

  module _ {T : Term} {P : Pattern} {Q : List Kind} {es : List Expression} {cs : List Constraint} {vals₀ : List ℕ} (a : Asked T P Q es cs vals₀) where
    -- all that the search comes to, by its events
    abbrev total : Filled
    total = fill i.budget i.room i.width 0 0 i.before (rest (Walked a.search) (count Q) vals₀ i.N i.F i.start)

    fixed : Fixed (Walked a.search) (count Q) (size T) i.width i.room i.before
    fixed = is_fixed a.search a.wide a.fits

    -- the loop goes on from here with the events that are left
    abbrev Stand : List ℕ → List events.Event → List ℕ → List ℕ → List ℕ → ℕ → ℕ → ℕ → Type 0
    Stand out left vals N F depth cnt tries =
        At (Walked a.search) (count Q) (size T) i.width i.budget i.room i.before total left out vals N F depth cnt tries

    level_small : {vals X St N F : List ℕ} {depth : ℕ} → Leveled a.search vals X St N F depth → (k : ℕ) → k < depth → get_or N k 0 + get_or F k 0 ≤ size T
    level_small lv k l =
        let v = lv.each k l in
        omega (arith, v.high, tame_need (Allowed cs) (allowed? cs) T _ a.search.pattern.numbered v.asked)

  -- at the loop's head
  pub record Going (out R A G X St U N F : List ℕ) (depth cnt tries : ℕ) : Type 0 where
    pub long : length R ≡ 32
    pub charged : tries ≤ i.budget
    pub each : {T : Term} {P : Pattern} {Q : List Kind} {es : List Expression} {cs : List Constraint} {vals₀ : List ℕ} (a : Asked T P Q es cs vals₀)
        → (vals : List ℕ) × Stand a out (rest (Walked a.search) (count Q) vals N F depth) vals N F depth cnt tries × Leveled a.search vals X St N F depth
        × Paused a.search R A vals G X St U N F depth

  -- at a level that has a value left
  pub record Ready (out R A G X St U N F : List ℕ) (depth cnt tries : ℕ) : Type 0 where
    pub going : Going out R A G X St U N F depth cnt tries
    pub some : 0 < depth
    pub live : 0 < get_or F (depth - 1) 0

  -- a turn that has passed over values that fail: the next one's row is u
  pub record Passing (out R A G X St U N F : List ℕ) (depth cnt tries limit failed u : ℕ) : Type 0 where
    pub pre : Pre
    pub columns : ColumnsLong G X St U N F
    pub ready : Ready out R A G X St U N F depth cnt tries
    pub fewer : limit < get_or F (depth - 1) 0
    pub afford : tries + limit < i.budget
    pub post : SkipPost i.L i.S i.M A (get_or G (depth - 1) 0) (get_or U (depth - 1) 0) (get_or F (depth - 1) 0) limit failed u

  -- a try was made, with which the walk went on at the row u, and left values come after it: the answer o, and the record R
  pub record Tried (out R A G X St U N F : List ℕ) (depth cnt tries u left : ℕ) (o : Result ℕ Halt) : Type 0 where
    pub long : length R ≡ 32
    pub charged : tries ≤ i.budget
    pub each : {T : Term} {P : Pattern} {Q : List Kind} {es : List Expression} {cs : List Constraint} {vals₀ : List ℕ} (a : Asked T P Q es cs vals₀)
        → (vals : List ℕ) × Stand a out (ahead (Walked a.search) (count Q) vals N F depth) vals N F depth cnt tries
        × Answers R o (walk (Allowed cs) (allowed? cs) P T (take depth vals)) × Leveled a.search vals X St N F depth × Paused a.search R A vals G X St U N F depth
        × Before i.L i.S A (get_or G (depth - 1) 0) u left a.search.K a.search.N a.search.Z Q
        × ((p x s : ℕ) → o ≡ Err (halt.Need (stop_at p x s)) → Asks a.search R A vals G depth p x s)

module _ {i : Input} where
  pub going_start : ColumnsLong i.G i.X i.St i.U i.N i.F → Pre i → Going i i.before i.R i.A i.G i.X i.St i.U i.N i.F i.start 0 0
  going_start k p =
      record {
        long = p.record_long;
        charged = omega arith;
        each = λ {T} {P} {Q} {es} {cs} {vals₀} a. (
          vals₀,
          at_rest (fixed i a) vals₀ i.N i.F i.start refl
              (record { deep = a.deep; vals_long = a.vals_long; nexts_long = k.nexts_long; lefts_long = k.lefts_long; small = level_small i a a.levels }),
          a.levels,
          a.pauses,
        );
      }

  module _ {out R A G X St U N F : List ℕ} {depth cnt tries : ℕ} (g : Going i out R A G X St U N F depth cnt tries) where
    pub going_depth : Pre i → depth ≤ 256
    going_depth p =
        let a = p.some.6 in
        let h = g.each a in
        omega (arith, h.1.deep, few p.some.2, a.search.allowing.few)

    pub going_back : {d : ℕ} → BackTo F depth d → Going i out R A G X St U N F d cnt tries
    going_back b =
        record {
          long = g.long;
          charged = g.charged;
          each = λ {T} {P} {Q} {es} {cs} {vals₀} a.
              let h = g.each a in
              (h.0, at_back (fixed i a) h.1 _ b, levels_back (Allowed cs) (allowed? cs) a.search.pattern.numbered T b.low h.2, pauses_back b.low h.3);
        }

    pub going_end : depth ≡ 0 → Post i (record { ending = All; records = cnt; tries = tries }) out
    going_end e = record { all = λ T P Q es cs vals a. all_done (fixed i a) (g.each a).1 e }

    pub going_ready : {d : ℕ} → BackTo F depth d → (d ≡ 0 → ⊥) → Ready i out R A G X St U N F d cnt tries
    going_ready {d} b n =
        let z : 0 < d = omega arith in
        record { going = going_back b; some = z; live = b.live z }

  module _ {out R A G X St U N F : List ℕ} {depth cnt tries : ℕ} (r : Ready i out R A G X St U N F depth cnt tries) where
    abbrev g : Going i out R A G X St U N F depth cnt tries
    g = r.going

    pub going_spent : tries ≡ i.budget → Post i (record { ending = Budget; records = cnt; tries = tries }) out
    going_spent e = record { all = λ T P Q es cs vals a. at_spent (fixed i a) (g.each a).1 r.some r.live e }

    below : {T : Term} {P : Pattern} {Q : List Kind} {es : List Expression} {cs : List Constraint} {vals₀ : List ℕ} (a : Asked i T P Q es cs vals₀)
        → Leveled a.search (g.each a).0 X St N F (suc (depth - 1)) × Paused a.search R A (g.each a).0 G X St U N F (suc (depth - 1))
    below a =
        let e : depth ≡ suc (depth - 1) = omega (arith, r.some) in (
          subst (λ (n : ℕ). Leveled a.search (g.each a).0 X St N F n) e (g.each a).2,
          subst (λ (n : ℕ). Paused a.search R A (g.each a).0 G X St U N F n) e (g.each a).3,
        )

    pub level_asked : {limit : ℕ} → Pre i → limit < get_or F (depth - 1) 0 → LevelPre i.L i.S i.M A (get_or G (depth - 1) 0) (get_or U (depth - 1) 0) (get_or F (depth - 1) 0) limit
    level_asked p fewer =
        let a = p.some.6 in
        let b = below a in
        skip_asked a.search b.0 b.1 r.live fewer

    -- values that fail are passed over, fewer than are left and than the budget allows
    pub going_skip : {limit failed u : ℕ} → Pre i → ColumnsLong G X St U N F → limit < get_or F (depth - 1) 0 → tries + limit < i.budget
        → SkipPost i.L i.S i.M A (get_or G (depth - 1) 0) (get_or U (depth - 1) 0) (get_or F (depth - 1) 0) limit failed u
        → Ready i out R A G X St (set U (depth - 1) u) (set N (depth - 1) (get_or N (depth - 1) 0 + failed)) (set F (depth - 1) (get_or F (depth - 1) 0 - failed)) depth cnt (tries + failed)
    going_skip {limit} {failed} {u} p k fewer afford post =
        record {
          going =
              record {
                long = g.long;
                charged = omega (arith, post.few);
                each = λ {T} {P} {Q} {es} {cs} {vals₀} a.
                    let h = g.each a in
                    let e : suc (depth - 1) ≡ depth = omega (arith, r.some) in
                    let deep = going_depth g p in
                    let l = below a in
                    let s = skip_levels a.search l.0 l.1 r.live fewer post (omega (arith, k.rows_long)) (omega (arith, k.nexts_long)) (omega (arith, k.lefts_long)) in (
                      h.0,
                      at_skip (fixed i a) h.1 r.some r.live failed (omega (arith, post.few)) (omega (arith, post.few))
                          (λ j o. ap outcome (skip_fails a.search l.0 l.1 r.live fewer post j o))
                          (set N (depth - 1) (get_or N (depth - 1) 0 + failed)) (set F (depth - 1) (get_or F (depth - 1) 0 - failed)) refl refl,
                      subst (λ (n : ℕ). Leveled a.search h.0 X St (set N (depth - 1) (get_or N (depth - 1) 0 + failed)) (set F (depth - 1) (get_or F (depth - 1) 0 - failed)) n) e s.0,
                      subst (λ (n : ℕ). Paused a.search R A h.0 G X St (set U (depth - 1) u) (set N (depth - 1) (get_or N (depth - 1) 0 + failed)) (set F (depth - 1) (get_or F (depth - 1) 0 - failed)) n) e s.1,
                    );
              };
          some = r.some;
          live =
              let deep = going_depth g p in
              rw (get_or-set_same F (depth - 1) (get_or F (depth - 1) 0 - failed) 0 (omega (arith, k.lefts_long, r.some))) (omega (arith, post.few));
        }

    pub attempt_asked : Pre i
        → AttemptPre i.L i.S i.M i.tables R A
        (get_or G (depth - 1) 0) (get_or X (depth - 1) 0) (get_or St (depth - 1) 0) (get_or U (depth - 1) 0) (get_or N (depth - 1) 0)
    attempt_asked p =
        let h = p.some in
        let a = h.6 in
        let b = below a in
        let k = try_kind a.search b.0 b.1 r.live in
        let t = try_taken a.search b.0 b.1 r.live g.long in
        record {
          long = g.long;
          some = (h.0, h.1, h.2, h.3, h.4, k.0, t.0, t.1, t.2, a.search, k.1, k.2, t.3);
        }

    pub further_pre : Pre i → FurtherPre i.S i.M (get_or G (depth - 1) 0) (get_or U (depth - 1) 0) (get_or F (depth - 1) 0 - 1)
    further_pre p =
        let a = p.some.6 in
        let b = below a in
        further_asked a.search b.0 b.1 r.live

    pub placed : Pre i → Placed N F depth
    placed p =
        let a = p.some.6 in
        let t = a.search.allowing.tree in
        record {
          some = r.some;
          deep = going_depth g p;
          live = r.live;
          small = omega (arith, level_small i a (g.each a).2 (depth - 1) (omega (arith, r.some)), tree_small t);
        }

    -- the levels' lists once the last level's next value is taken
    abbrev N' : List ℕ
    N' = set N (depth - 1) (get_or N (depth - 1) 0 + 1)

    abbrev F' : List ℕ
    F' = set F (depth - 1) (get_or F (depth - 1) 0 - 1)

    pub going_try : {o : Result ℕ Halt} {R' A' : List ℕ} {u : ℕ} → Pre i → ColumnsLong G X St U N F → (tries ≡ i.budget → ⊥)
        → FurtherPost i.S i.M (get_or G (depth - 1) 0) (get_or U (depth - 1) 0) (get_or F (depth - 1) 0 - 1) u
        → AttemptPost i.L i.S i.M i.tables R A
        (get_or G (depth - 1) 0) (get_or X (depth - 1) 0) (get_or St (depth - 1) 0) (get_or U (depth - 1) 0) (get_or N (depth - 1) 0) o R' A'
        → Tried i out R' A' G X St (set U (depth - 1) u) N' F' depth cnt (tries + 1) (get_or U (depth - 1) 0) (get_or F (depth - 1) 0 - 1) o
    going_try {o} {R'} {A'} {u} p k b further post =
        record {
          long = try_long (attempt_asked p) post ∙ g.long;
          charged = omega (arith, g.charged);
          each = λ {T} {P} {Q} {es} {cs} {vals₀} a.
              let h = g.each a in
              let vals : List ℕ = set h.0 (depth - 1) (get_or N (depth - 1) 0) in
              let e : suc (depth - 1) ≡ depth = omega (arith, r.some) in
              let deep = going_depth g p in
              let l = below a in
              let t = try_answered a.search l.0 l.1 r.live g.long (omega (arith, k.rows_long)) (omega (arith, k.nexts_long)) (omega (arith, k.lefts_long)) further post in
              let t' : Answered a vals depth = subst (λ (n : ℕ). Answered a vals n) e t in
              (vals, at_next (fixed i a) h.1 r.some r.live b vals N' F' refl refl refl, t'.0, t'.1, t'.2, t'.3, t'.4);
        }
      where
        -- what a try comes to, with depth levels
        Answered : {T : Term} {P : Pattern} {Q : List Kind} {es : List Expression} {cs : List Constraint} {vals₀ : List ℕ} (a : Asked i T P Q es cs vals₀) → List ℕ → ℕ → Type 0
        Answered {T} {P} {Q} {es} {cs} a vals n =
            Answers R' o (walk (Allowed cs) (allowed? cs) P T (take n vals)) × Leveled a.search vals X St N' F' n × Paused a.search R' A' vals G X St (set U (depth - 1) u) N' F' n
            × Before i.L i.S A' (get_or G (depth - 1) 0) (get_or U (depth - 1) 0) (get_or F (depth - 1) 0 - 1) a.search.K a.search.N a.search.Z Q
            × ((p x s : ℕ) → o ≡ Err (halt.Need (stop_at p x s)) → Asks a.search R' A' vals G n p x s)

  module _ {out R A G X St U N F : List ℕ} {depth cnt tries limit failed u : ℕ} (g : Passing i out R A G X St U N F depth cnt tries limit failed u) where
    ready : Ready i out R A G X St (set U (depth - 1) u) (set N (depth - 1) (get_or N (depth - 1) 0 + failed)) (set F (depth - 1) (get_or F (depth - 1) 0 - failed)) depth cnt (tries + failed)
    ready = going_skip g.ready g.pre g.columns g.fewer g.afford g.post

    inside : depth - 1 < 256
    inside = omega (arith, going_depth g.ready.going g.pre, g.ready.some)

    row_is : get_or (set U (depth - 1) u) (depth - 1) 0 ≡ u
    row_is = get_or-set_same U (depth - 1) u 0 (omega (arith, inside, g.columns.rows_long))

    next_is : get_or (set N (depth - 1) (get_or N (depth - 1) 0 + failed)) (depth - 1) 0 ≡ get_or N (depth - 1) 0 + failed
    next_is = get_or-set_same N (depth - 1) (get_or N (depth - 1) 0 + failed) 0 (omega (arith, inside, g.columns.nexts_long))

    left_is : get_or (set F (depth - 1) (get_or F (depth - 1) 0 - failed)) (depth - 1) 0 ≡ get_or F (depth - 1) 0 - failed
    left_is = get_or-set_same F (depth - 1) (get_or F (depth - 1) 0 - failed) 0 (omega (arith, inside, g.columns.lefts_long))

    pub passed_asked : AttemptPre i.L i.S i.M i.tables R A
        (get_or G (depth - 1) 0) (get_or X (depth - 1) 0) (get_or St (depth - 1) 0) u (get_or N (depth - 1) 0 + failed)
    passed_asked = rw (row_is, next_is) at (attempt_asked ready g.pre)

    pub passed_further : FurtherPre i.S i.M (get_or G (depth - 1) 0) u (get_or F (depth - 1) 0 - failed - 1)
    passed_further = rw (row_is, left_is) at (further_pre ready g.pre)

    pub passed_tried : {o : Result ℕ Halt} {R' A' : List ℕ} {r : ℕ}
        → FurtherPost i.S i.M (get_or G (depth - 1) 0) u (get_or F (depth - 1) 0 - failed - 1) r
        → AttemptPost i.L i.S i.M i.tables R A
        (get_or G (depth - 1) 0) (get_or X (depth - 1) 0) (get_or St (depth - 1) 0) u (get_or N (depth - 1) 0 + failed) o R' A'
        → Tried i out R' A' G X St (set U (depth - 1) r) (set N (depth - 1) (get_or N (depth - 1) 0 + failed + 1)) (set F (depth - 1) (get_or F (depth - 1) 0 - failed - 1)) depth cnt (tries + failed + 1) u (get_or F (depth - 1) 0 - failed - 1) o
    passed_tried {o} {R'} {A'} {r} further post =
        let n = get_or N (depth - 1) 0 + failed in
        let l = get_or F (depth - 1) 0 - failed in
        rw (row_is, next_is, left_is, set-set U (depth - 1) u r, set-set N (depth - 1) n (n + 1), set-set F (depth - 1) l (l - 1)) at
        (going_try ready {o = o} {R' = R'} {A' = A'} {u = r} g.pre (columns_moved (depth - 1) u n l g.columns) (λ e. omega (arith, g.afford, g.post.few)) (rw (row_is, left_is) further) (rw (row_is, next_is) post))

  module _ {out R A G X St U N F : List ℕ} {depth cnt tries u left : ℕ} {o : Result ℕ Halt} (t : Tried i out R A G X St U N F depth cnt tries u left o) where
    pub tried_fail : o ≡ (Err halt.Fail) → Going i out R A G X St U N F depth cnt tries
    tried_fail e =
        record {
          long = t.long;
          charged = t.charged;
          each = λ a. let h = t.each a in (h.0, at_fail (fixed i a) h.1 (ap outcome (failed (rw e at h.2))), h.3, h.4);
        }

    module _ {p₁ x s : ℕ} (e : o ≡ Err (halt.Need (stop_at p₁ x s))) where
      asks : {T : Term} {P : Pattern} {Q : List Kind} {es : List Expression} {cs : List Constraint} {vals₀ : List ℕ} (a : Asked i T P Q es cs vals₀)
          → Asks a.search R A (t.each a).0 G depth p₁ x s
      asks a = (t.each a).6 p₁ x s e

      need_few : {T : Term} {P : Pattern} {Q : List Kind} {es : List Expression} {cs : List Constraint} {vals₀ : List ℕ} (a : Asked i T P Q es cs vals₀) → depth < count Q
      need_few a = let n = asks a in (need_deep (fixed i a) (t.each a).1 n.lo (suc n.hi - n.lo) (ap outcome n.asked)).0

      pub need_fits : Pre i → depth < 256
      need_fits p =
          let a = p.some.6 in
          omega (arith, need_few a, few p.some.2, a.search.allowing.few)

      -- where the walk stopped
      need_stops : {T : Term} {P : Pattern} {Q : List Kind} {es : List Expression} {cs : List Constraint} {vals₀ : List ℕ} (a : Asked i T P Q es cs vals₀)
          → StopAt i.L i.S i.M A p₁ s a.search.K a.search.N a.search.Z Q x (asks a).needs.stop (asks a).needs.frames
      need_stops a = asks_stop a.search (asks a) (t.each a).4.marks

      pub need_room : Pre i → 6 * p₁ + 5 < length i.M
      need_room p = (at_room (need_stops p.some.6)).1

      pub more_asked : Pre i → MorePre i.S i.M A (get_or G (depth - 1) 0) u left p₁ s
      more_asked p =
          let h = p.some in
          let a = h.6 in
          record { some = (i.L, a.search.K, a.search.N, a.search.Z, h.2, x, (asks a).needs.stop, (asks a).needs.frames, need_stops a, (t.each a).5) }

      module _ {lo n : ℕ} (low : LeastPost i.M p₁ s lo) (more : MorePost i.S i.M A (get_or G (depth - 1) 0) u left p₁ s n) where
        -- they are the values that the walk asked for
        need_many : {T : Term} {P : Pattern} {Q : List Kind} {es : List Expression} {cs : List Constraint} {vals₀ : List ℕ} (a : Asked i T P Q es cs vals₀) → n ≡ many (asks a).needs.stop
        need_many a =
            let w = (asks a).needs in
            more.is i.L a.search.K a.search.N a.search.Z _ x w.stop w.frames (need_stops a) (t.each a).5

        pub tried_need : Pre i → ColumnsLong G X St U N F → Going i out R A (set G depth p₁) (set X depth x) (set St depth s) (set U depth s) (set N depth lo) (set F depth n) (depth + 1) cnt tries
        tried_need p k =
            let q = need_fits p in
            record {
              long = t.long;
              charged = t.charged;
              each = λ a.
                  let h = t.each a in
                  let b = asks a in
                  let v = asks_values a.search b h.4.marks low (need_many a) in
                  let c =
                  asks_level a.search b h.4.marks low (need_many a) h.3 h.4 (omega (arith, h.1.vals_long)) (omega (arith, k.places_long)) (omega (arith, k.variables_long))
                  (omega (arith, k.starts_long)) (omega (arith, k.rows_long)) (omega (arith, k.nexts_long)) (omega (arith, k.lefts_long)) in
                  let d = at_need (fixed i a) h.1 b.lo (suc b.hi - b.lo) (ap outcome b.asked) in
                  (h.0, rw (v.0, v.1) at d, rw (← (add-one depth)) at c.0, rw (← (add-one depth)) at c.1);
            }

    module _ {n : ℕ} (e : o ≡ Ok n) where
      done_said : {T : Term} {P : Pattern} {Q : List Kind} {es : List Expression} {cs : List Constraint} {vals₀ : List ℕ} (a : Asked i T P Q es cs vals₀)
          → (B : List Entry) × (walk (Allowed cs) (allowed? cs) P T (take depth (t.each a).0) ≡ ok B []) × (take (length (numbers B)) R ≡ numbers B)
      done_said a = matched (rw e at (t.each a).2)

      pub tried_full : cnt ≡ i.room → Post i (record { ending = Room; records = cnt; tries = tries }) out
      tried_full f = record { all = λ T P Q es cs vals a. let d = done_said a in no_room (fixed i a) (t.each a).1 (numbers d.0) (ap outcome d.1) f }

      pub put_asked : Pre i → (cnt ≡ i.room → ⊥) → (i.width ≤ 32) × (cnt * i.width + i.width ≤ length out)
      put_asked p f =
          let a = p.some.6 in
          (omega (arith, a.wide, a.search.allowing.few), room_left (fixed i a) (t.each a).1 f)

      pub tried_match : (cnt ≡ i.room → ⊥) → Going i (paste out (cnt * i.width) R i.width) R A G X St U N F depth (cnt + 1) tries
      tried_match f =
          record {
            long = t.long;
            charged = t.charged;
            each = λ a.
                let h = t.each a in
                let d = done_said a in
                (h.0, at_match (fixed i a) h.1 (numbers d.0) R (ap outcome d.1) d.2 f, h.3, h.4);
          }

    pub tried_counted : Pre i → cnt ≤ i.room
    tried_counted p = (t.each p.some.6).1.counted

  pub going_long : {out R A G X St U N F : List ℕ} {depth cnt tries : ℕ} → Going i out R A G X St U N F depth cnt tries → Pre i → length out ≡ length i.before
  going_long g p = (g.each p.some.6).1.out_long
