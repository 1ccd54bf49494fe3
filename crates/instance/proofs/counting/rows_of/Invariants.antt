use Rattle.instance.proofs.Sums.{Summed}
use Rattle.instance.proofs.counting.rows_of.Given as goal

abbrev pub invariant-loop-row : goal.invariant-loop-row
invariant-loop-row l = Summed l.size l.pattern.kind.now l.pattern.name.now l.«record» l.row l.rows
