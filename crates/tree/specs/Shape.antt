-- 01, "Numbers and order of checks": "depth at most 64, .. the root's size is the length, every row's arguments end exactly where
-- it ends": what the sizes alone say of a tree, and of a pattern.
use Rattle.std.specs.Prelude.{ℕ, ◌≤◌, ◌≡◌, List}
use Rattle.meaning.specs.Forest.{none, Term, ◌◂◌}
use Rattle.tree.specs.Rows.{sizes, depth}

-- they are the sizes of some term that is at most 64 deep
abbrev pub Shape : List ℕ → Type 0
Shape size = (T : Term) × (size ≡ sizes (T ◂ none)) × (depth (T ◂ none) ≤ 64)
