use Rattle.std.proofs.Common.{rules}
use Rattle.paths.proofs.Read.{recall_again, recall_new}
use Rattle.paths.proofs.recall.Goals as goal

pub returns-then-path-a : goal.returns-then-path-a
returns-then-path-a c = recall_again (search rules) c.if-path-a.true c.holding.ensures

pub returns : goal.returns
returns c = rw c.new.ensures (recall_new c.requires.some.4.long c.begin-state.ensures)
