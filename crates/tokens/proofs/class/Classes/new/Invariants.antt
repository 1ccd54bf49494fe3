use Rattle.tokens.proofs.Classing.{Stopping}
use Rattle.tokens.proofs.class.Classes.new.Given as goal

abbrev pub invariant-loop-k : goal.invariant-loop-k
invariant-loop-k l = Stopping l.k l.class
