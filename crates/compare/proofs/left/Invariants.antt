use Prim.Native.Nat.{◌-◌}
use Rattle.compare.proofs.Lefts.{Beside}
use Rattle.compare.proofs.left.Given as goal

abbrev pub invariant-loop-a : goal.invariant-loop-a
invariant-loop-a l = Beside l.tree.label.now l.tree.size.now l.a l.b l.t l.e l.u l.v

abbrev pub decreases-loop-a : goal.decreases-loop-a
decreases-loop-a l = l.b - l.u
