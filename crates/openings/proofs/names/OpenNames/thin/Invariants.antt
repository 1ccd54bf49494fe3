use Rattle.openings.proofs.OpenNames.{Thinning}
use Rattle.openings.proofs.names.OpenNames.thin.Given as goal

abbrev pub invariant-loop-j : goal.invariant-loop-j
invariant-loop-j l = Thinning l.initial.self.names l.initial.self.levels l.self.names l.self.levels l.count l.block l.j
