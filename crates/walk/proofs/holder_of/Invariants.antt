use Rattle.walk.specs.Packed.{Past}
use Rattle.walk.proofs.holder_of.Given as goal

abbrev pub invariant-loop-h : goal.invariant-loop-h
invariant-loop-h l = Past l.size l.h l.row

abbrev pub decreases-loop-h : goal.decreases-loop-h
decreases-loop-h l = l.h
