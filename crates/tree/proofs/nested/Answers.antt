use Rattle.std.proofs.Common.{refl, arith}
use Rattle.meaning.proofs.Answers.{says_yes, says_no}
use Rattle.tree.proofs.Turns.{seen_root, all_closed, fewer, beyond_end, seen_open}
use Rattle.tree.proofs.nested.Goals as goal

pub loop-row-init : goal.loop-row-init
loop-row-init c = seen_root (omega arith) refl c.requires.root c.requires.some

pub overflow_sub-depth : goal.overflow_sub-depth
overflow_sub-depth c = omega (arith, fewer c.loop-row.invariant c.requires c.loop-row-test.true c.from.ensures refl)

pub overflow_sub-depth-in-loop-row : goal.overflow_sub-depth-in-loop-row
overflow_sub-depth-in-loop-row c = omega (arith, fewer c.loop-row.invariant c.requires c.loop-row-test.true c.from.ensures refl)

pub returns-then-ends-depth : goal.returns-then-ends-depth
returns-then-ends-depth c = says_no (beyond_end c.loop-row.invariant c.requires c.loop-row-test.true c.from.ensures refl c.next-after.ensures (omega (arith, c.next-after.ensures)))

pub loop-row-preserved : goal.loop-row-preserved
loop-row-preserved c = seen_open c.loop-row.invariant c.requires c.loop-row-test.true c.from.ensures refl c.next-after.ensures c.if-ends-depth.false (omega (arith, c.loop-row.invariant.low))

pub returns : goal.returns
returns c = says_yes (all_closed c.loop-row.invariant c.loop-row-test.false)
