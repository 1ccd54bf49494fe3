-- By where a row stands.
use mathlib.Core.Path.{◌≡◌}
use mathlib.Core.Logic.{⊎_elim}
use Prim.Native.Nat.{ℕ, suc, ◌+◌, ◌≤◌, ◌<◌}
use native.Mathlib.Decide.{dec_lt}
use native.Mathlib.Nat.{eq-or-lt_of_le}
use native.Mathlib.Omega.{arith}

-- before r, or not
pub two_ways : {P : Type 0} (i r : ℕ) → (i < r → P) → (r ≤ i → P) → P
two_ways {P} i r y z = go (dec_lt i r)
  where
    go : Dec (i < r) → P
    go (yes h) = y h
    go (no h) = z (omega arith)

-- at the row, or among the first r rows below it, or further on
pub three_ways : {P : Type 0} (s r i : ℕ) → s ≤ i → (s ≡ i → P) → (s < i → i < suc s + r → P) → (suc s + r ≤ i → P) → P
three_ways s r i g x y z = ⊎_elim x (λ l. two_ways i (suc s + r) (y l) z) (eq-or-lt_of_le g)
