-- Not needed to believe the promise: an expression table with what may come first and next, row by row.
use Rattle.std.specs.Prelude.{Bool, false, ℕ, get_or}
use Rattle.letters.specs.declared.Row.{Row}
use Rattle.letters.specs.declared.Tables.{Tables}

-- a row of the tables; beyond them nothing is there
abbrev pub row_in : Tables → ℕ → Row
row_in tables row = get_or tables.rows row (record { name = 0; head = record { first = 0; null = false }; after = record { next = 0; end = false } })

module _ (tables : Tables) (row : ℕ) where
  abbrev pub name_of : ℕ
  name_of = (row_in tables row).name

  -- the rows that may read first in the row's words, and whether the empty word is one
  abbrev pub first_of : ℕ
  first_of = (row_in tables row).head.first

  abbrev pub null_of : Bool
  null_of = (row_in tables row).head.null

  -- the rows that may read next after the row's words, and whether the word may end there
  abbrev pub cont_of : ℕ
  cont_of = (row_in tables row).after.next

  abbrev pub ends_of : Bool
  ends_of = (row_in tables row).after.end
