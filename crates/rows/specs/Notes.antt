-- Not needed to believe the promise: what the pass over a document notes of its rows.
use Rattle.std.specs.Prelude.{◌≡◌, List, ℕ, ◌≤◌, Result, Ok, Err}
use Rattle.meaning.specs.Forest.{rows}
use Rattle.tree.specs.Rows.{depth, sizes}
use Rattle.grammar.specs.Grammar.{Bytes, Content, Document, OutsideAt}
use Rattle.grammar.specs.Rows.{shape, starts, lengths}
use Rattle.labels.specs.Lists.{Holds, Long}
use Rattle.rows.specs.declared.note.Unread.{Unread}
use Rattle.rows.specs.declared.note.Unread.TheVariants.{Outside, Beyond}

-- the n rows of a document within the limits
pub record RowsNoted (w s l z : List ℕ) (n : ℕ) : Type 0 where
  pub long : Long s l z
  pub f : Content
  pub t : Bytes
  pub document : Document w f t
  pub shallow : depth (shape f) ≤ 64
  pub rows_are : rows (shape f) ≡ n
  pub few : n ≤ 2048
  pub starts_are : Holds (starts f) s
  pub lengths_are : Holds (lengths f) l
  pub sizes_are : Holds (sizes (shape f)) z

-- w is no document within the limits
abbrev pub TooLarge : List ℕ → Type 0
TooLarge w = (f : Content) (t : Bytes) → Document w f t → depth (shape f) ≤ 64 → rows (shape f) ≤ 2048 → ⊥

abbrev pub Notes : (w s l z : List ℕ) → Result ℕ Unread → Type 0
Notes w s l z (Ok n) = RowsNoted w s l z n
Notes w s l z (Err (Outside p)) = OutsideAt w p
Notes w s l z (Err Beyond) = TooLarge w
