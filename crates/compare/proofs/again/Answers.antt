use borrow.Author.Rules.{rules}
use Rattle.compare.proofs.Sequences.{compared_first, compared_all, compared_end, compared_rows, compared_alike_pre, compared_more}
use Rattle.compare.proofs.again.Goals as goal

pub loop-init : goal.loop-init
loop-init c = compared_first

pub returns-then-there-e : goal.returns-then-there-e
returns-then-there-e c = compared_end c.loop.invariant c.loop-test.true c.if-there-e.true

pub next-behind-requires : goal.next-behind-requires
next-behind-requires c = (compared_rows c.loop.invariant c.loop-test.true c.if-there-e.false c.requires).0

pub next-after-requires : goal.next-after-requires
next-after-requires c = (compared_rows c.loop.invariant c.loop-test.true c.if-there-e.false c.requires).1

pub alike-requires : goal.alike-requires
alike-requires c = compared_alike_pre c.loop.invariant c.loop-test.true c.if-there-e.false c.next-behind.ensures c.next-after.ensures c.requires

pub loop-preserved : goal.loop-preserved
loop-preserved c = compared_more c.loop.invariant c.loop-test.true c.if-there-e.false c.next-behind.ensures c.next-after.ensures c.alike.ensures (search rules)

pub returns : goal.returns
returns c = compared_all c.loop.invariant c.loop-test.false
