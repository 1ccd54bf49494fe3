use Rattle.std.proofs.Common.{ℕ, ◌<◌}
use Rattle.expression.proofs.Tables.{RowOf}
use Rattle.expression.proofs.good.Given as goal

-- The rule holds of the rows passed.
abbrev pub invariant-loop-i : goal.invariant-loop-i
invariant-loop-i l = (s : ℕ) → s < l.i → RowOf l.table.kind.now l.table.name.now l.table.size.now s
