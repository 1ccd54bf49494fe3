use Prim.Native.Nat.{◌-◌}
use Rattle.compare.proofs.Contexts.{Fitted}
use Rattle.compare.proofs.fits.Given as goal

abbrev pub invariant-loop-from : goal.invariant-loop-from
invariant-loop-from l = Fitted l.tree.label.now l.tree.size.now l.a l.b l.t l.from l.row

abbrev pub decreases-loop-from : goal.decreases-loop-from
decreases-loop-from l = l.b - l.from
