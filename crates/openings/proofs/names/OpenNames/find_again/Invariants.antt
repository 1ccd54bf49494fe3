use Rattle.openings.proofs.OpenNames.{FindingAgain}
use Rattle.openings.proofs.names.OpenNames.find_again.Given as goal

abbrev pub invariant-loop-k : goal.invariant-loop-k
invariant-loop-k l =
    FindingAgain l.document l.initial.self.names l.initial.self.levels l.self.names l.self.levels l.from l.depth l.initial.self.kept l.top l.at l.level l.k
