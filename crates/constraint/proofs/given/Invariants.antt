use Rattle.constraint.proofs.Passed.{Passed}
use Rattle.constraint.proofs.given.Given as goal

abbrev pub invariant-loop-x : goal.invariant-loop-x
invariant-loop-x l = Passed l.variables l.kinds l.size l.constraint l.x
