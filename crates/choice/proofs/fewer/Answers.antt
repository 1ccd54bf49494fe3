use native.Mathlib.Omega.{arith}
use Rattle.choice.specs.Stops.{elsewhere}
use Rattle.choice.proofs.Counts.{leaving_all, leaving_next, leaving_more, leaving_there}
use Rattle.choice.proofs.fewer.Goals as goal

pub loop-row-init : goal.loop-row-init
loop-row-init c = leaving_all

pub next-row-requires : goal.next-row-requires
next-row-requires c = (leaving_next c.loop-row.invariant c.requires c.loop-row-test.true).0

pub overflow_sub-n : goal.overflow_sub-n
overflow_sub-n c = omega (arith, leaving_next c.loop-row.invariant c.requires c.loop-row-test.true)

pub loop-row-smaller : goal.loop-row-smaller
loop-row-smaller c = omega (arith, leaving_next c.loop-row.invariant c.requires c.loop-row-test.true, c.next-row.ensures, c.loop-row-test.true)

pub loop-row-preserved : goal.loop-row-preserved
loop-row-preserved c = leaving_more c.loop-row.invariant c.requires c.loop-row-test.true c.next-row.ensures

pub returns-then-row-s : goal.returns-then-row-s
returns-then-row-s c = leaving_there c.loop-row.invariant c.if-row-s.true

pub returns : goal.returns
returns c = elsewhere
