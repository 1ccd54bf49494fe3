use native.Mathlib.Omega.{arith}
use Rattle.tree.proofs.Ways.{down_first, down_next, down_found, down_inside, down_behind}
use Rattle.tree.proofs.list_end.Goals as goal

pub loop-u-init : goal.loop-u-init
loop-u-init c = down_first c.requires

pub next-a-requires : goal.next-a-requires
next-a-requires c = (down_next c.loop-u.invariant c.requires).0

pub overflow_add-u : goal.overflow_add-u
overflow_add-u c = omega (arith, down_next c.loop-u.invariant c.requires)

pub loop-u-smaller-then-row-a : goal.loop-u-smaller-then-row-a
loop-u-smaller-then-row-a c = omega (arith, down_next c.loop-u.invariant c.requires)

pub loop-u-preserved-then-row-a : goal.loop-u-preserved-then-row-a
loop-u-preserved-then-row-a c = down_inside c.loop-u.invariant c.loop-u-test.true c.next-a.ensures (omega (arith, c.if-row-a.true))

pub loop-u-smaller : goal.loop-u-smaller
loop-u-smaller c = omega (arith, c.next-a.ensures, down_next c.loop-u.invariant c.requires)

pub loop-u-preserved : goal.loop-u-preserved
loop-u-preserved c = down_behind c.loop-u.invariant c.loop-u-test.true c.next-a.ensures (omega (arith, c.if-row-a.false))

pub returns : goal.returns
returns c = down_found c.loop-u.invariant c.loop-u-test.false
