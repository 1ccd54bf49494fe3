use Rattle.tree.proofs.Counts.{passed_none, passed_next, passed_more, passed_all}
use Rattle.tree.proofs.past.Goals as goal

pub loop-init : goal.loop-init
loop-init c = passed_none _ _ _

pub next-u-requires : goal.next-u-requires
next-u-requires c = passed_next c.loop.invariant c.requires c.loop-test.true

pub loop-preserved : goal.loop-preserved
loop-preserved c = passed_more c.loop.invariant c.loop-test.true c.next-u.ensures

pub returns : goal.returns
returns c = passed_all c.loop.invariant c.loop.auto.counter-end c.loop-test.false
