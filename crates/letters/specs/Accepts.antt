-- Not needed to believe the promise: 01, "Patterns and constraints": "A set of its letters fits one 64-bit number, visited from the lowest set bit up."
use Rattle.std.specs.Prelude.{◌≡◌, Bool, true, List, [], ◌∷◌, ℕ, zero, suc, ◌/◌, ◌%◌}

-- q is in the set s: its bit q is set
abbrev pub Has : ℕ → ℕ → Type 0
Has s zero = s % 2 ≡ 1
Has s (suc q) = Has (s / 2) q

-- The words that are read from a set on: each letter by a row of the set; cont has the set of rows that may read next after a row,
-- ends says whether the word may end there. Which letters a row reads is left open.
module _ {Letter : Type 0} (Reads : ℕ → Letter → Type 0) (cont : ℕ → ℕ) (ends : ℕ → Bool) where
  abbrev pub Accepts : ℕ → Bool → List Letter → Type 0
  Accepts next end [] = end ≡ true
  Accepts next end (c ∷ word) = (q : ℕ) × Has next q × Reads q c × Accepts (cont q) (ends q) word
