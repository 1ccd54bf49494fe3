use Prim.Native.Nat.{◌-◌}
use Rattle.choice.proofs.Counts.{Leaving}
use Rattle.choice.proofs.fewer.Given as goal

abbrev pub invariant-loop-row : goal.invariant-loop-row
invariant-loop-row l = Leaving l.size l.u l.left l.row l.n

abbrev pub decreases-loop-row : goal.decreases-loop-row
decreases-loop-row l = l.s - l.row
