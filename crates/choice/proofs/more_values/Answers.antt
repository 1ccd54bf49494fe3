use native.Mathlib.Omega.{arith}
use Rattle.choice.proofs.Counts.{more_at, more_room, more_fewer, more_terms, more_fewer_small, values_room}
use Rattle.choice.proofs.more_values.Goals as goal

pub kind-requires : goal.kind-requires
kind-requires c = (more_room c.requires).1

pub kind-requires-then-kind-eq-SEQUENCE : goal.kind-requires-then-kind-eq-SEQUENCE
kind-requires-then-kind-eq-SEQUENCE c = (values_room (more_at c.requires)).1

pub holder-requires : goal.holder-requires
holder-requires c = (more_room c.requires).1

pub holder-requires-then-kind-eq-SEQUENCE-2 : goal.holder-requires-then-kind-eq-SEQUENCE-2
holder-requires-then-kind-eq-SEQUENCE-2 c = (values_room (more_at c.requires)).1

pub fewer-requires : goal.fewer-requires
fewer-requires c = more_fewer c.kind.ensures c.if-kind-eq-SEQUENCE.true c.kind-then-kind-eq-SEQUENCE.ensures c.if-kind-eq-SEQUENCE-2.true c.holder.ensures c.holder-then-kind-eq-SEQUENCE-2.ensures c.if-holder.true c.requires

pub overflow_add-result : goal.overflow_add-result
overflow_add-result c = omega (arith, more_fewer_small c.kind.ensures c.if-kind-eq-SEQUENCE.true c.kind-then-kind-eq-SEQUENCE.ensures c.if-kind-eq-SEQUENCE-2.true c.holder.ensures c.holder-then-kind-eq-SEQUENCE-2.ensures c.if-holder.true c.in-Some.ensures c.requires, c.well_formed)

pub returns-in-Some : goal.returns-in-Some
returns-in-Some c = more_terms c.kind.ensures c.if-kind-eq-SEQUENCE.true c.kind-then-kind-eq-SEQUENCE.ensures c.if-kind-eq-SEQUENCE-2.true c.holder.ensures c.holder-then-kind-eq-SEQUENCE-2.ensures c.if-holder.true c.in-Some.ensures
