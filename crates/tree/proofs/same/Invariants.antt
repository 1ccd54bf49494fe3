use Rattle.tree.specs.Places.{SameRows}
use Rattle.tree.proofs.same.Given as goal

abbrev pub invariant-loop-i : goal.invariant-loop-i
invariant-loop-i l = SameRows l.tree.label.now l.tree.size.now l.a l.t l.i
