use Rattle.std.proofs.Common.{arith}
use Rattle.tree.proofs.Endings.{ending_fits, ending_more}
use Rattle.tree.proofs.ending.Goals as goal

pub overflow_add-closing : goal.overflow_add-closing
overflow_add-closing c = omega (arith, ending_fits c.loop-row.invariant c.loop-row-test.true c.next-after.ensures c.if-after-row.false c.if-rows-after.false)

pub loop-row-preserved : goal.loop-row-preserved
loop-row-preserved c = ending_more c.loop-row.invariant c.loop-row-test.true c.next-after.ensures c.if-after-row.false c.if-rows-after.false
