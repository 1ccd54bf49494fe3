use Rattle.tree.proofs.Counts.{Passed}
use Rattle.tree.proofs.past.Given as goal

abbrev pub invariant-loop : goal.invariant-loop
invariant-loop l = Passed l.size l.t l.c l.counter l.u
