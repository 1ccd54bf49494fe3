use Rattle.openings.proofs.LastTag.{Scanning}
use Rattle.openings.proofs.back.last_markup.Given as goal

abbrev pub invariant-loop-from : goal.invariant-loop-from
invariant-loop-from l = Scanning l.document l.from l.at l.shut

abbrev pub decreases-loop-from : goal.decreases-loop-from
decreases-loop-from l = l.at
