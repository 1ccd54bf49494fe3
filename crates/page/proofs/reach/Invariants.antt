use Prim.Native.Nat.{◌-◌}
use Rattle.memory.specs.Memory.{Both}
use Rattle.walk.specs.Packed.{numbers_of, root_of}
use Rattle.page.proofs.Reaching.{OnTheWay}
use Rattle.page.proofs.reach.Given as goal

abbrev pub invariant-loop-o : goal.invariant-loop-o
invariant-loop-o l = OnTheWay l.tree.label.now l.tree.size.now (numbers_of l.pattern) l.tables l.list l.«record» l.at l.levels l.o l.depth × Both l.tree.label.now l.tree.size.now l.tables (root_of (numbers_of l.pattern)) l.memory l.path

abbrev pub decreases-loop-o : goal.decreases-loop-o
decreases-loop-o l = 256 - l.depth
