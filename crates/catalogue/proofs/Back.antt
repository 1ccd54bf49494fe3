-- Taking off the levels that have nothing left, and how many records fit.
use Prim.Native.Nat.{ℕ, zero, suc, ◌-◌, ◌/◌, ◌≤◌, ◌<◌}
use mathlib.Core.Path.{◌≡◌, refl}
use mathlib.Core.List.{List}
use lib.ListN.{get_or}
use native.Mathlib.Omega.{arith}

-- levels d, d + 1, .. up to depth have nothing left, and the level below d has
pub record BackTo (lefts : List ℕ) (depth d : ℕ) : Type 0 where
  pub low : d ≤ depth
  pub gone : (k : ℕ) → d ≤ k → k < depth → get_or lefts k 0 ≡ 0
  pub live : 0 < d → 0 < get_or lefts (d - 1) 0

-- how many records of a width fit; where they have no numbers there is at most one, and it does
abbrev pub fitting : ℕ → ℕ → ℕ
fitting n zero = 1
fitting n (suc w) = n / suc w

pub fitting_none : (n width : ℕ) → width ≡ 0 → 1 ≡ fitting n width
fitting_none n zero e = refl
fitting_none n (suc w) e = absurd (omega arith)

pub fitting_some : (n width : ℕ) → (width ≡ 0 → ⊥) → n / width ≡ fitting n width
fitting_some n zero e = absurd (e refl)
fitting_some n (suc w) e = refl
