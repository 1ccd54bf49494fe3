-- The places that are kept of a path.
use Prim.Native.Nat.{ℕ, ◌+◌, ◌<◌, ◌≤◌}
use mathlib.Core.Path.{◌≡◌, ap, ◌∙◌}
use mathlib.Core.Logic.{◌≢◌}
use mathlib.Core.Bool.{false}
use mathlib.Core.List.{List}
use lib.ListN.{length, set, length-set}
use lib.Seq.{get_or-set_same, get_or-set_other}
use native.Mathlib.Omega.{arith}
use native.Mathlib.Decide.{ℕ_discrete}
use Rattle.paths.specs.declared.Place.{Place}
use Rattle.paths.specs.declared.Path.{Path}
use Rattle.paths.specs.Paths.{From, Entry, Places, place_in}
use Rattle.letters.specs.declared.Tables.{Tables}

-- the place i is replaced
abbrev pub put : Path → ℕ → Place → Path
put P i p = record { choice = P.choice; start = P.start; depth = P.depth; places = set P.places i p }

-- the place i has another child to look from
abbrev pub put_child : Path → (i u : ℕ) → Path
put_child P i u = put P i (record { row = (place_in P i).row; state = (place_in P i).state; child = u })

-- the last place is noted
abbrev pub noted : Path → ℕ → Path
noted P m = record { choice = P.choice; start = P.start; depth = m; places = P.places }

none : Place
none = record { row = 0; state = record { next = 0; end = false }; child = 0 }

pub put_same : (P : Path) (i : ℕ) (p : Place) → i < length P.places → place_in (put P i p) i ≡ p
unfolding none
put_same P i p h = get_or-set_same P.places i p none h

pub put_other : (P : Path) (i : ℕ) (p : Place) (j : ℕ) → j ≢ i → place_in (put P i p) j ≡ place_in P j
unfolding none
put_other P i p j n = get_or-set_other P.places i j p none n

module _ {L S : List ℕ} {tables : Tables} {root a : ℕ} where
  -- one place more
  pub places_more : {P : Path} {i : ℕ} (p : Place) → Places L S tables root a P i → i + 1 < 64 → Entry L S tables root a p
      → Places L S tables root a (put P (i + 1) p) (i + 1)
  places_more {P} {i} p s few e =
      record {
        long = length-set P.places (i + 1) p ∙ s.long;
        few = few;
        starts = ap (λ (q : Place). q.row) (put_other P (i + 1) p 0 (λ z. omega arith)) ∙ s.starts;
        each = λ j h. elim (ℕ_discrete j (i + 1)) [
          | yes k ↦ rw (k, put_same P (i + 1) p (omega (arith, s.long))) e
          | no k ↦ rw (put_other P (i + 1) p j k) (s.each j (omega arith))
        ];
      }

  -- the first place
  pub places_first : (P : Path) (p : Place) → length P.places ≡ 64 → p.row ≡ a → Entry L S tables root a p → Places L S tables root a (put P 0 p) 0
  places_first P p long r e =
      let o = put_same P 0 p (omega (arith, long)) in
      record {
        long = length-set P.places 0 p ∙ long;
        few = omega arith;
        starts = ap (λ (q : Place). q.row) o ∙ r;
        each = λ j h. let z : j ≡ 0 = omega arith in rw (z, o) e;
      }

  pub places_fewer : {P : Path} {m i : ℕ} → Places L S tables root a P m → i ≤ m → Places L S tables root a P i
  places_fewer p h = record { long = p.long; few = omega (arith, p.few); starts = p.starts; each = λ j l. p.each j (omega arith) }

  pub places_noted : {P : Path} {i : ℕ} (v : ℕ) → Places L S tables root a P i → Places L S tables root a (noted P v) i
  places_noted v p = record { long = p.long; few = p.few; starts = p.starts; each = p.each }

  -- another child to look from
  pub places_child : {P : Path} {i u : ℕ} → Places L S tables root a P i → From S (place_in P i).row u → Places L S tables root a (put_child P i u) i
  places_child {P} {i} {u} s f =
      let p : Place = record { row = (place_in P i).row; state = (place_in P i).state; child = u } in
      let o = put_same P i p (omega (arith, s.long, s.few)) in
      let rows : (j : ℕ) → (place_in (put P i p) j).row ≡ (place_in P j).row =
      λ j. elim (ℕ_discrete j i) [
        | yes k ↦ rw k (ap (λ (q : Place). q.row) o)
        | no k ↦ ap (λ (q : Place). q.row) (put_other P i p j k)
      ]
      in
      let e = s.each i (omega arith) in
      let z : Entry L S tables root a p = record { word = e.word; through = e.through; after = e.after; from = f; inside = e.inside } in
      record {
        long = length-set P.places i p ∙ s.long;
        few = s.few;
        starts = rows 0 ∙ s.starts;
        each = λ j h. elim (ℕ_discrete j i) [
          | yes k ↦ rw (k, o) z
          | no k ↦ rw (put_other P i p j k) (s.each j h)
        ];
      }
