use Rattle.constraint.proofs.Readings.{Reading}
use Rattle.constraint.proofs.read_on.Given as goal

abbrev pub invariant-loop : goal.invariant-loop
invariant-loop l = Reading l.tree.label.now l.tree.size.now l.tables l.fn.from.row l.fn.from.state.next l.fn.from.state.end l.more l.counter l.row l.state.next l.state.end
