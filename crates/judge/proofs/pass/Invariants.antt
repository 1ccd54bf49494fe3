use Prim.Native.Nat.{◌-◌}
use lib.ListN.{length}
use Rattle.judge.proofs.Judging.{Scanned}
use Rattle.judge.proofs.pass.Given as goal

-- `pass` meets its contract. The measure is what is left of the document.
abbrev pub invariant-loop-names : goal.invariant-loop-names
invariant-loop-names l = Scanned l.document l.names.names l.names.levels l.i l.names.kept l.depth l.seen.rows l.seen.deep

abbrev pub decreases-loop-names : goal.decreases-loop-names
decreases-loop-names l = length l.document - l.i
