-- Not needed to believe the promise: short names for the trees and the three lists of a pattern.
use Rattle.std.specs.Prelude.{List, ℕ}
use Rattle.meaning.specs.Forest.{Forest, none, ◌◂◌}
use Rattle.meaning.specs.Pattern.{Pattern}
use Rattle.tree.specs.Rows.{labels, sizes}
use Rattle.pattern.specs.Rows.{tree_t, the_kind, the_name}

-- the pattern with its kinds, and with its names, as sequences of one term
abbrev pub kind_tree : Pattern → Forest
kind_tree P = tree_t the_kind P ◂ none

abbrev pub name_tree : Pattern → Forest
name_tree P = tree_t the_name P ◂ none

-- the three lists
abbrev pub kind_rows : Pattern → List ℕ
kind_rows P = labels (kind_tree P)

abbrev pub name_rows : Pattern → List ℕ
name_rows P = labels (name_tree P)

abbrev pub size_rows : Pattern → List ℕ
size_rows P = sizes (name_tree P)
