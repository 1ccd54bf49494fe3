use Rattle.std.proofs.Common.{arith}
use Rattle.panel.proofs.Going.{begins, budget_there, next_asked, answer_there, one_asked, again, panel_ends}
use Rattle.panel.proofs.panel.Goals as goal

pub loop-i-init : goal.loop-i-init
loop-i-init c = begins (c.agree.ensures.0 c.if-not-agree.false) c.whole-all.ensures (c.fill.ensures.0 c.if-not-fill.false) c.good-tree.ensures

pub with_next-to-requires : goal.with_next-to-requires
with_next-to-requires c = next_asked c.loop-i.invariant (omega arith)

pub bounds-asked-i : goal.bounds-asked-i
bounds-asked-i c = budget_there c.loop-i.invariant (omega arith)

pub list-listing-requires : goal.list-listing-requires
list-listing-requires c = one_asked c.loop-i.invariant (omega arith) c.with_next-to.ensures

pub put-requires : goal.put-requires
put-requires c = answer_there c.loop-i.invariant (omega arith)

pub loop-i-preserved : goal.loop-i-preserved
loop-i-preserved c = rw c.put.ensures (again c.loop-i.invariant (omega arith) c.with_next-to.ensures c.list-listing.ensures)

pub returns : goal.returns
returns c = panel_ends c.loop-i.invariant (omega arith)
