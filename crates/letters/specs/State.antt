-- Not needed to believe the promise: 01, "Patterns and constraints": "Languages are those of 000", decided one letter after another.
use Rattle.std.specs.Prelude.{Bool, List, [], ◌++◌, ℕ}
use Rattle.expression.specs.Expression.{Expression, Same, In}
use Rattle.expression.specs.Rows.{StartsAt}
use Rattle.letters.specs.Accepts.{Accepts}
use Rattle.letters.specs.declared.Tables.{Tables}
use Rattle.letters.specs.Tables.{name_of, first_of, null_of, cont_of, ends_of}

-- next and end are the state after word: more is read from there on if and only if word with more behind it is in the language.
-- Which letters a row of the table reads is left open.
pub record StateIn {Letter : Type 0} (Reads : ℕ → Letter → Type 0) (language : List Letter → Type 0) (tables : Tables) (word : List Letter) (next : ℕ) (end : Bool) : Type 0 where
  pub sound : (more : List Letter) → Accepts Reads (cont_of tables) (ends_of tables) next end more → language (word ++ more)
  pub complete : (more : List Letter) → language (word ++ more) → Accepts Reads (cont_of tables) (ends_of tables) next end more

-- here a word is of labels, and a row reads the label that is its name
abbrev pub RowReads : Tables → ℕ → ℕ → Type 0
RowReads tables row label = Same (name_of tables row) label

-- the state after word, for e's words. With nothing behind it: end says whether word is one (`decides`, in proofs/Decide).
abbrev pub StateOf : Tables → Expression → List ℕ → ℕ → Bool → Type 0
StateOf tables e word next end = StateIn (RowReads tables) (In e) tables word next end

-- the tables of the expressions es: where one starts, its state before the first letter stands
pub record TablesOf (es : List Expression) (tables : Tables) : Type 0 where
  pub starts : {e : Expression} {row : ℕ} → StartsAt es e row → StateOf tables e [] (first_of tables row) (null_of tables row)
