use Rattle.tree.proofs.Endings.{Ending}
use Rattle.tree.proofs.ending.Given as goal

abbrev pub invariant-loop-row : goal.invariant-loop-row
invariant-loop-row l = Ending l.size l.closing l.row
