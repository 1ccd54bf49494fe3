use Rattle.labels.proofs.Upto.{Upto}
use Rattle.labels.proofs.fill.copy.Given as goal

abbrev pub invariant-loop-i : goal.invariant-loop-i
invariant-loop-i l = Upto l.from l.initial.to l.i l.to
