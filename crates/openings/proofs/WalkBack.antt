-- Walking back past whole elements, to the start tag of the innermost open one.
use mathlib.Core.Path.{◌≡◌, refl}
use mathlib.Core.List.{List, [], ◌∷◌, ◌++◌}
use Prim.Native.Nat.{ℕ, ◌+◌, ◌-◌, ◌≤◌, ◌<◌}
use native.Mathlib.Omega.{arith}
use lib.ListN.{length}
use Rattle.grammar.specs.Machine.{Open}
use Rattle.openings.specs.declared.back.Back.TheVariants.{Start, Empty, End}
use Rattle.openings.specs.OpenNames.{OpenAt, SomeOpen, TagAt, TagBefore, starts, empty, ends}

-- before q, where the elements o are open, as many more are open as have ended since
pub record PassingBack (w : List ℕ) (q : ℕ) (o : List Open) (at inside : ℕ) : Type 0 where
  pub ended : List Open
  pub many : length ended ≡ inside
  pub here : OpenAt w at (ended ++ o)
  pub room : at + inside ≤ q

pub pass_begins : {w : List ℕ} {q : ℕ} {o : List Open} → OpenAt w q o → PassingBack w q o q 0
pass_begins h = record { ended = []; many = refl; here = h; room = omega arith }

-- what a tag's kind tells
pub before_end : {w : List ℕ} {q less : ℕ} {o : List Open} → TagBefore w q o (End less) → (x : Open) × (less < q) × OpenAt w less (x ∷ o)
before_end (ends x before k) = (x, before, k)

pub before_empty : {w : List ℕ} {q less : ℕ} {o : List Open} → TagBefore w q o (Empty less) → (less < q) × OpenAt w less o
before_empty (empty before k) = (before, k)

pub before_start : {w : List ℕ} {q less : ℕ} {o : List Open} → TagBefore w q o (Start less) → less < q
before_start (starts before k) = before

module _ {w : List ℕ} {q at inside : ℕ} {p : Open} {o : List Open} (h : PassingBack w q (p ∷ o) at inside) where
  pub pass_some : SomeOpen w at
  pass_some = go h.ended h.here
    where
      go : (x : List Open) → OpenAt w at (x ++ (p ∷ o)) → SomeOpen w at
      go [] k = (p, o, k)
      go (e ∷ x) k = (e, x ++ (p ∷ o), k)

  module _ {less : ℕ} where
    pub pass_end : TagBefore w at (h.ended ++ (p ∷ o)) (End less) → PassingBack w q (p ∷ o) less (inside + 1)
    pass_end t =
        let e = before_end t in
        record { ended = e.0 ∷ h.ended; many = omega (arith, h.many); here = e.2; room = omega (arith, h.room, e.1) }

    pub pass_empty : TagBefore w at (h.ended ++ (p ∷ o)) (Empty less) → PassingBack w q (p ∷ o) less inside
    pass_empty t =
        let e = before_empty t in
        record { ended = h.ended; many = h.many; here = e.1; room = omega (arith, h.room, e.0) }

    pub pass_start : (inside ≡ 0 → ⊥) → TagBefore w at (h.ended ++ (p ∷ o)) (Start less) → PassingBack w q (p ∷ o) less (inside - 1)
    pass_start n t = go h.ended h.many t
      where
        go : (x : List Open) → length x ≡ inside → TagBefore w at (x ++ (p ∷ o)) (Start less) → PassingBack w q (p ∷ o) less (inside - 1)
        go [] e k = absurd (n (omega (arith, e)))
        go (y ∷ x) e (starts before k) = record { ended = x; many = omega (arith, e); here = (y.before, y.run, k); room = omega (arith, h.room) }

    pub pass_found : inside ≡ 0 → TagBefore w at (h.ended ++ (p ∷ o)) (Start less) → (less < q) × TagAt w less p o
    pass_found z t = go h.ended h.many t
      where
        go : (x : List Open) → length x ≡ inside → TagBefore w at (x ++ (p ∷ o)) (Start less) → (less < q) × TagAt w less p o
        go [] e (starts before k) = (omega (arith, h.room), k)
        go (y ∷ x) e k = absurd (omega (arith, e, z))
