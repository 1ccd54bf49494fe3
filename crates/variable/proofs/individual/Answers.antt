use native.Mathlib.Omega.{arith}
use Rattle.variable.proofs.Singles.{individual_room, individual_first, individual_next, individual_alike_pre}
use Rattle.tree.proofs.Terms.{term_next}
use Rattle.variable.proofs.individual.Goals as goal

pub put-requires : goal.put-requires
put-requires c = omega (arith, individual_room c.requires, c.if-x-n.true)

pub overflow_add-result : goal.overflow_add-result
overflow_add-result c = omega (arith, individual_room c.requires, c.if-x-n.true, c.well_formed)

pub returns-then-x-n : goal.returns-then-x-n
returns-then-x-n c = individual_first c.if-x-n.true c.put.ensures

pub overflow_add-x : goal.overflow_add-x
overflow_add-x c = omega (arith, individual_room c.requires, c.well_formed)

pub at-a-requires : goal.at-a-requires
at-a-requires c = omega (arith, individual_room c.requires)

pub next-behind-requires : goal.next-behind-requires
next-behind-requires c = (individual_next c.if-x-n.false c.at-a.ensures.0 c.requires).sized

pub next-after-requires : goal.next-after-requires
next-after-requires c = (term_next c.requires.tree.2).sized

pub alike-requires : goal.alike-requires
alike-requires c = individual_alike_pre c.if-x-n.false c.at-a.ensures.0 c.next-behind.ensures c.next-after.ensures c.requires
