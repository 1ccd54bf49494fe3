use Rattle.choice.specs.Runs.{HolesPost}
use Rattle.choice.proofs.holes.Given as goal

abbrev pub invariant-loop-count : goal.invariant-loop-count
invariant-loop-count l = HolesPost l.label l.symbol l.row l.limit l.count
