use Rattle.std.proofs.Common.{◌≡◌, ◌≤◌, ◌-◌, List, length}
use Rattle.expression.specs.Expression.{Expression}
use Rattle.expression.specs.Rows.{StartsAt}
use Rattle.expression.specs.Columns.{size_rows}
use Rattle.expression.proofs.Places.{Walked}
use Rattle.expression.proofs.starts.Given as goal

-- the walk stands at a first row, and no first row that it passed is the one asked for
abbrev pub invariant-loop-at : goal.invariant-loop-at
invariant-loop-at l = (es : List Expression) → l.size ≡ size_rows es → Walked es l.at × ((e : Expression) → StartsAt es e l.row → l.at ≤ l.row)

abbrev pub decreases-loop-at : goal.decreases-loop-at
decreases-loop-at l = length l.size - l.at
