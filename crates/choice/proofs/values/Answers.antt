use native.Mathlib.Omega.{arith}
use Rattle.choice.proofs.Counts.{values_room, values_row, values_holes, values_holder, values_counted, values_small, values_terms}
use Rattle.choice.proofs.values.Goals as goal

pub kind-requires : goal.kind-requires
kind-requires c = (values_room c.requires).1

pub at-requires : goal.at-requires
at-requires c = values_row c.kind.ensures c.if-kind-ne-SEQUENCE.true c.requires

pub returns-then-kind-ne-SEQUENCE : goal.returns-then-kind-ne-SEQUENCE
returns-then-kind-ne-SEQUENCE c = values_holes c.kind.ensures c.if-kind-ne-SEQUENCE.true c.at.ensures.0

pub holder-h-requires : goal.holder-h-requires
holder-h-requires c = (values_room c.requires).1

pub row-g-requires : goal.row-g-requires
row-g-requires c = (values_holder c.kind.ensures c.if-kind-ne-SEQUENCE.false c.holder-h.ensures c.requires).0

pub next-requires : goal.next-requires
next-requires c = rw c.row-g.ensures (values_holder c.kind.ensures c.if-kind-ne-SEQUENCE.false c.holder-h.ensures c.requires).1

pub count-requires : goal.count-requires
count-requires c = values_counted c.kind.ensures c.if-kind-ne-SEQUENCE.false c.holder-h.ensures c.row-g.ensures c.next.ensures c.requires

pub overflow_add-result : goal.overflow_add-result
overflow_add-result c = omega (arith, values_small c.kind.ensures c.if-kind-ne-SEQUENCE.false c.holder-h.ensures c.row-g.ensures c.next.ensures c.count.ensures c.requires, c.well_formed)

pub returns : goal.returns
returns c = values_terms c.kind.ensures c.if-kind-ne-SEQUENCE.false c.holder-h.ensures c.row-g.ensures c.next.ensures c.count.ensures
