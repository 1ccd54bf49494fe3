-- Not needed to believe the promise: a record that was found is the one that was lent.
use Rattle.std.specs.Prelude.{◌≡◌, List, ℕ, length, take}

-- the first numbers of a list are those of another
pub record Copied (list found : List ℕ) : Type 0 where
  pub long : length found ≡ 32
  pub same : take (length list) found ≡ list
