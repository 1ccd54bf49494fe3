-- Whether a value is allowed can be decided: what the theorems of `meaning` ask of the constraints.
use Prim.Native.Nat.{ℕ}
use mathlib.Core.Path.{◌≡◌, refl}
use mathlib.Core.List.{List, [], ◌∷◌}
use native.Mathlib.Decide.{ℕ_discrete}
use native.Mathlib.Omega.{arith}
use lib.ListN.{get_or}
use Rattle.meaning.specs.Matcher.{Value}
use Rattle.constraint.specs.Obeys.{word, Constraint, free, bound, Obeys, Allowed}
use Rattle.constraint.proofs.Decide.{when?}
use Rattle.constraint.proofs.Language.{in?}

unfoldable pub flagged? : (flag : ℕ) (w : List ℕ) → Dec (flag ≡ 1 → w ≡ [] → ⊥)
flagged? flag (c ∷ w) = yes (λ _ e. let z : ◌≡◌ {A = ℕ} 0 1 = cc in omega arith)
flagged? flag [] = go (ℕ_discrete flag 1)
  where
    go : Dec (flag ≡ 1) → Dec (flag ≡ 1 → ◌≡◌ {A = List ℕ} [] [] → ⊥)
    go (yes e) = no (λ f. f e refl)
    go (no n) = yes (λ e _. n e)

unfoldable pub obeys? : (c : Constraint) (v : Value) → Dec (Obeys c v)
obeys? free v = yes tt
obeys? (bound e flag) v = when? (in? e (word v)) (λ _. flagged? flag (word v))

unfoldable pub allowed? : (cs : List Constraint) (x : ℕ) (v : Value) → Dec (Allowed cs x v)
allowed? cs x v = obeys? (get_or cs x free) v
