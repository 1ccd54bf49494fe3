-- A list that ends complete is the same with more room or budget.
use Prim.Native.Nat.{ℕ, zero, suc, ◌≤◌}
use mathlib.Core.Path.{◌≡◌, refl, ap}
use mathlib.Core.List.{List, [], ◌∷◌}
use native.Mathlib.Omega.{arith}
use native.Mathlib.Nat.{mul-le-mul_right}
use lib.Ieee.Nearest.{div_mono}
use Rattle.catalogue.proofs.Back.{fitting}
use Rattle.catalogue.proofs.Events.{Event, tried, matched}
use Rattle.catalogue.proofs.Run.{run, one_try, one_match}

pub run_stays : (es : List Event) (b c r q : ℕ) → b ≤ c → r ≤ q → (run es b r).ending ≡ 0 → run es c q ≡ run es b r
run_stays [] b c r q h k e = refl
run_stays (tried v ∷ es) zero c r q h k e = absurd (omega (arith, e))
run_stays (tried v ∷ es) (suc b) zero r q h k e = absurd (omega arith)
run_stays (tried v ∷ es) (suc b) (suc c) r q h k e = ap one_try (run_stays es b c r q (omega arith) k e)
run_stays (matched v x ∷ es) b c zero q h k e = absurd (omega (arith, e))
run_stays (matched v x ∷ es) b c (suc r) zero h k e = absurd (omega arith)
run_stays (matched v x ∷ es) b c (suc r) (suc q) h k e = ap (one_match x) (run_stays es b c r q h (omega arith) e)

-- a longer list has room for no fewer records
pub fitting_more : (m n width : ℕ) → m ≤ n → fitting m width ≤ fitting n width
fitting_more m n zero h = omega arith
fitting_more m n (suc w) h = div_mono m (suc w) n (suc w) (omega arith) (omega arith) (mul-le-mul_right (suc w) h)
