use native.Mathlib.Omega.{arith}
use Rattle.compare.proofs.Levels.{level_rows, level_left_pre, level_differ, level_none, level_places, level_alike_pre, level_right}
use borrow.Author.Rules.{rules}
use Rattle.compare.proofs.level.Goals as goal

pub next-e-requires : goal.next-e-requires
next-e-requires c = (level_rows c.requires).1.sized

pub overflow_add-a : goal.overflow_add-a
overflow_add-a c = omega (arith, level_rows c.requires, c.well_formed)

pub overflow_add-t : goal.overflow_add-t
overflow_add-t c = omega (arith, level_rows c.requires, c.well_formed)

pub left-requires : goal.left-requires
left-requires c = level_left_pre c.next-e.ensures c.requires

pub returns-then-v-e : goal.returns-then-v-e
returns-then-v-e c = level_none c.next-e.ensures c.in_ok-v.ensures c.if-v-e.true

pub overflow_sub-v : goal.overflow_sub-v
overflow_sub-v c = omega (arith, level_places c.next-e.ensures c.in_ok-v.ensures c.if-v-e.false c.requires)

pub overflow_add-a-2 : goal.overflow_add-a-2
overflow_add-a-2 c = omega (arith, level_places c.next-e.ensures c.in_ok-v.ensures c.if-v-e.false c.requires, c.well_formed)

pub next-right-requires : goal.next-right-requires
next-right-requires c = (level_places c.next-e.ensures c.in_ok-v.ensures c.if-v-e.false c.requires).1

pub next-end-requires : goal.next-end-requires
next-end-requires c = (level_rows c.requires).0.sized

pub next-there-requires : goal.next-there-requires
next-there-requires c = (level_places c.next-e.ensures c.in_ok-v.ensures c.if-v-e.false c.requires).2

pub alike-requires : goal.alike-requires
alike-requires c = level_alike_pre c.next-e.ensures c.in_ok-v.ensures c.if-v-e.false c.next-right.ensures c.next-end.ensures c.next-there.ensures c.requires

pub returns-in_err-v : goal.returns-in_err-v
returns-in_err-v c = rw c.from_residual.ensures (level_differ c.next-e.ensures c.in_err-v.ensures)

pub returns : goal.returns
returns c = level_right c.next-e.ensures c.in_ok-v.ensures c.if-v-e.false c.next-right.ensures c.next-end.ensures c.next-there.ensures c.alike.ensures (search rules)
