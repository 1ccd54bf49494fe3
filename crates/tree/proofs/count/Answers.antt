use native.Mathlib.Omega.{arith}
use Rattle.tree.proofs.Counts.{counted_none, counted_next, counted_more, counted_all}
use Rattle.tree.proofs.count.Goals as goal

pub loop-u-init : goal.loop-u-init
loop-u-init c = counted_none _ _ _

pub next-u-requires : goal.next-u-requires
next-u-requires c = (counted_next c.loop-u.invariant c.requires c.loop-u-test.true).0

pub overflow_add-n : goal.overflow_add-n
overflow_add-n c = omega (arith, c.next-u.ensures, c.loop-u.invariant.few, counted_next c.loop-u.invariant c.requires c.loop-u-test.true)

pub loop-u-smaller : goal.loop-u-smaller
loop-u-smaller c = omega (arith, c.next-u.ensures, counted_next c.loop-u.invariant c.requires c.loop-u-test.true)

pub loop-u-preserved : goal.loop-u-preserved
loop-u-preserved c = counted_more c.loop-u.invariant c.requires c.loop-u-test.true c.next-u.ensures

pub returns : goal.returns
returns c = counted_all c.loop-u.invariant c.loop-u-test.false
