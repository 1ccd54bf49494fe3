use mathlib.Core.Path.{sym}
use Rattle.walk.proofs.Rows.{numbers_long, row_at}
use Rattle.walk.proofs.Packs.{climb_first, climb_row, climb_room, climb_more, climb_ends}
use native.Mathlib.Omega.{arith}
use Rattle.walk.proofs.holder_of.Goals as goal

pub returns-then-row-eq0 : goal.returns-then-row-eq0
returns-then-row-eq0 c = record { least = omega arith; holds = λ z. absurd (omega (arith, c.if-row-eq0.true)) }

pub overflow_sub-h : goal.overflow_sub-h
overflow_sub-h c = omega (arith, c.if-row-eq0.false)

pub loop-h-init : goal.loop-h-init
loop-h-init c = climb_first c.requires c.if-row-eq0.false

pub next-requires : goal.next-requires
next-requires c = climb_row c.requires c.loop-h.invariant

pub bounds-packed-h : goal.bounds-packed-h
bounds-packed-h c = omega (arith, climb_room c.requires c.loop-h.invariant (omega (arith, c.next.ensures, c.loop-h-test.true)), numbers_long c.args.packed.now)

pub loop-h-smaller : goal.loop-h-smaller
loop-h-smaller c = omega (arith, (climb_more c.requires c.loop-h.invariant (omega (arith, c.next.ensures, c.loop-h-test.true))).1, row_at c.args.packed.now c.loop-h.h)

pub loop-h-preserved : goal.loop-h-preserved
loop-h-preserved c = rw (sym (row_at c.args.packed.now c.loop-h.h).holder) (climb_more c.requires c.loop-h.invariant (omega (arith, c.next.ensures, c.loop-h-test.true))).0

pub returns : goal.returns
returns c = climb_ends c.requires c.loop-h.invariant (omega (arith, c.next.ensures, c.loop-h-test.false))
