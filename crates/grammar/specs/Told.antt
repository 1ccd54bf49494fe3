-- Not needed to believe the promise: what a row is of can be told from the document.
use Rattle.std.specs.Prelude.{◌≡◌, List, ℕ, ◌-◌, ◌<◌, get_or}
use Rattle.grammar.specs.Grammar.{less, greater}
use Rattle.grammar.specs.Rows.{Sort, of_element, of_text}

-- the byte before a row's spelling: the < of an element's tag, or the > of the tag before a text
abbrev pub before : Sort → ℕ
before of_element = less
before of_text = greater

-- the byte before start is that before a spelling of this sort
pub record Tells (w : List ℕ) (start : ℕ) (sort : Sort) : Type 0 where
  pub some : 0 < start
  pub is : get_or w (start - 1) 0 ≡ before sort
