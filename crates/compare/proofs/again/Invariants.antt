use Rattle.compare.proofs.Sequences.{Compared}
use Rattle.compare.proofs.again.Given as goal

abbrev pub invariant-loop : goal.invariant-loop
invariant-loop l = Compared l.tree.label.now l.tree.size.now l.a l.c l.t l.e l.here l.counter l.there
