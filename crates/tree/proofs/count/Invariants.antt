use Prim.Native.Nat.{◌-◌}
use Rattle.tree.proofs.Counts.{Counted}
use Rattle.tree.proofs.count.Given as goal

abbrev pub invariant-loop-u : goal.invariant-loop-u
invariant-loop-u l = Counted l.size l.t l.e l.n l.u

abbrev pub decreases-loop-u : goal.decreases-loop-u
decreases-loop-u l = l.e - l.u
