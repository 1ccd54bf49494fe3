use Rattle.record.proofs.Each.{Passed}
use Rattle.record.proofs.fits.Given as goal

abbrev pub invariant-loop-x : goal.invariant-loop-x
invariant-loop-x l = Passed l.size l.kinds l.variables l.«record» l.x
