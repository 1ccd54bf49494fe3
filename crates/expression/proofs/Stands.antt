-- A list as the values of a function from a place on: how lists that stand one after another are taken apart.
use mathlib.Core.Path.{◌≡◌, sym, ap, ◌∙◌}
use mathlib.Core.List.{List, [], ◌∷◌, ◌++◌}
use Prim.Native.Nat.{ℕ, zero, suc, ◌+◌, ◌<◌}
use native.Mathlib.Omega.{arith}
use native.Mathlib.Nat.{add-zero, zero-add, add-suc, suc-add}
use lib.ListN.{length, get_or}
use lib.Seq.{ext_get_or}
use Rattle.expression.specs.Rule.{number_at}

module _ (f : ℕ → ℕ) where
  -- the list l stands at s
  abbrev pub Stands : ℕ → List ℕ → Type 0
  Stands s [] = Unit {0}
  Stands s (x ∷ l) = (f s ≡ x) × Stands (suc s) l

  pub stands_apart : (a b : List ℕ) (s : ℕ) → Stands s (a ++ b) → Stands s a × Stands (s + length a) b
  stands_apart [] b s h = (tt, rw add-zero h)
  stands_apart (x ∷ a) b s h =
      let r = stands_apart a b (suc s) h.1 in
      ((h.0, r.0), rw (add-suc, ← suc-add) r.1)

  pub stands_together : (a b : List ℕ) (s : ℕ) → Stands s a → Stands (s + length a) b → Stands s (a ++ b)
  stands_together [] b s g h = rw add-zero at h
  stands_together (x ∷ a) b s g h = (g.0, stands_together a b (suc s) g.1 (rw (add-suc, ← suc-add) at h))

  stands_of : (l : List ℕ) (s : ℕ) → ((i : ℕ) → i < length l → f (s + i) ≡ get_or l i 0) → Stands s l
  stands_of [] s h = tt
  stands_of (x ∷ l) s h = (
    ap f (sym (add-zero s)) ∙ h 0 (omega arith),
    stands_of l (suc s) (λ i g. ap f (suc-add s i ∙ sym (add-suc s i)) ∙ h (suc i) (omega arith)),
  )

  stands_at : (l : List ℕ) (s : ℕ) → Stands s l → (i : ℕ) → i < length l → f (s + i) ≡ get_or l i 0
  stands_at [] s h i g = absurd (omega arith)
  stands_at (x ∷ l) s h zero g = ap f (add-zero s) ∙ h.0
  stands_at (x ∷ l) s h (suc i) g = ap f (add-suc s i ∙ sym (suc-add s i)) ∙ stands_at l (suc s) h.1 i (omega arith)

-- a list stands in itself, and no other of its length does
pub stands_self : (l : List ℕ) → Stands (number_at l) 0 l
stands_self l = stands_of (number_at l) l 0 (λ i h. ap (λ (j : ℕ). get_or l j 0) (zero-add i))

pub stands_alone : (l m : List ℕ) → length l ≡ length m → Stands (number_at l) 0 m → l ≡ m
stands_alone l m e h =
    ext_get_or 0 l m e
    (λ i g. ap (λ (j : ℕ). get_or l j 0) (sym (zero-add i)) ∙ stands_at (number_at l) m 0 h i (omega arith))
