use Rattle.walk.specs.Packed.{numbers_of}
use Rattle.test.proofs.Following.{Following, left_over}
use Rattle.test.proofs.follow.Given as goal

abbrev pub invariant-loop-o : goal.invariant-loop-o
invariant-loop-o l = Following l.tree.label.now l.tree.size.now (numbers_of l.pattern) l.list l.found l.at l.o

abbrev pub decreases-loop-o : goal.decreases-loop-o
decreases-loop-o l = left_over l.o
