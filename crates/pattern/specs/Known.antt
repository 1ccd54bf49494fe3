-- Not needed to believe the promise: what the pattern's check tells of the variables, for the functions of our own crates that are
-- called with it.
use Rattle.std.specs.Prelude.{ℕ, ◌≤◌, ◌≡◌, List, length}
use Rattle.meaning.specs.Pattern.{Kind}
use Rattle.pattern.specs.Answer.{listed}

-- the variables' number and kinds, as the check answers them
pub record KindsAre (Q : List Kind) (variables : ℕ) (kinds : List ℕ) : Type 0 where
  pub many : variables ≡ length Q
  pub few : length Q ≤ 16
  pub are : kinds ≡ listed Q
