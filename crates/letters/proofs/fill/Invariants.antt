use Rattle.std.proofs.Common.{ℕ, ◌≡◌, List, length}
use Rattle.expression.specs.Expression.{Expression}
use Rattle.expression.specs.Rows.{GoodTable}
use Rattle.letters.specs.Tables.{first_of, null_of, cont_of, ends_of}
use Rattle.letters.specs.Following.{ContsOf, SameHeads}
use Rattle.letters.proofs.fill.Given as goal

abbrev pub invariant-loop-row : goal.invariant-loop-row
invariant-loop-row l = (length l.tables.rows ≡ 64) × SameHeads l.fn.tables l.tables
    × ((name : List ℕ) (es : List Expression) → GoodTable l.kind name l.size es
    → ContsOf (first_of l.tables) (null_of l.tables) (cont_of l.tables) (ends_of l.tables) es l.row)
