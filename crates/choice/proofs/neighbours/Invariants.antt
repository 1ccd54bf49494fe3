use Rattle.choice.specs.Runs.{NeighboursPost}
use Rattle.choice.proofs.neighbours.Given as goal

abbrev pub invariant-loop-count : goal.invariant-loop-count
invariant-loop-count l = NeighboursPost l.tree.label.now l.tree.size.now l.symbol l.row l.limit l.count l.u
