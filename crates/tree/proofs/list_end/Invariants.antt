use Prim.Native.Nat.{◌-◌}
use lib.ListN.{length}
use Rattle.tree.proofs.Ways.{Down}
use Rattle.tree.proofs.list_end.Given as goal

abbrev pub invariant-loop-u : goal.invariant-loop-u
invariant-loop-u l = Down l.size l.row l.u l.e

abbrev pub decreases-loop-u : goal.decreases-loop-u
decreases-loop-u l = length l.size - l.u
