-- Not needed to believe the promise: how many rows end where, for the functions that check the sizes.
use Rattle.std.specs.Prelude.{ℕ, zero, suc, ◌+◌, ◌<◌, ◌≤◌, ◌≡◌, ◌≢◌, Bool, true, List, length, get_or}
use Rattle.std.proofs.Math.Decide.{ℕ_discrete}
use Rattle.meaning.specs.Calls.{Says}

-- one, if it is so
unfoldable pub one : {A : Type 0} → Dec A → ℕ
one (yes a) = 1
one (no n) = 0

-- how many of the first n rows end at e
unfoldable pub endings : List ℕ → ℕ → ℕ → ℕ
endings S zero e = 0
endings S (suc n) e = one (ℕ_discrete (n + get_or S n 0) e) + endings S n e

-- every row has a size, and ends within the rows
pub record Within (S : List ℕ) : Type 0 where
  pub each : (i : ℕ) → i < length S → (get_or S i 0 ≢ 0) × (i + get_or S i 0 ≤ length S)

-- there is a place for each row and one behind the last, and at each stands how many of the first n rows end there
pub record Told (S C : List ℕ) (n : ℕ) : Type 0 where
  pub few : length S ≤ 2048
  pub long : length C ≡ 2049
  pub each : (e : ℕ) → e ≤ length S → get_or C e 0 ≡ endings S n e

-- ending: it is told of no row before; if the answer is yes, of all
pub record EndingPost (S C : List ℕ) (r : Bool) : Type 0 where
  pub within : Says r (Within S)
  pub told : r ≡ true → Told S C (length S)

-- nested: it is told of all rows, and the root's size is the length
pub record NestedPre (S C : List ℕ) : Type 0 where
  pub root : get_or S 0 0 ≡ length S
  pub some : length S ≢ 0
  pub within : Within S
  pub told : Told S C (length S)
