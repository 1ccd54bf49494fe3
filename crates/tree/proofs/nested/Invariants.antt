use Rattle.tree.proofs.Turns.{Seen}
use Rattle.tree.proofs.nested.Given as goal

abbrev pub invariant-loop-row : goal.invariant-loop-row
invariant-loop-row l = Seen l.size l.ends l.opened l.row
