use native.Mathlib.Omega.{arith}
use Rattle.variable.proofs.Sequences.{sequence_needs, sequence_room, sequence_again_pre, sequence_differs, sequence_again}
use Rattle.variable.proofs.sequence.Goals as goal

pub returns-then-x-n : goal.returns-then-x-n
returns-then-x-n c = sequence_needs c.if-x-n.true

pub overflow_add-x : goal.overflow_add-x
overflow_add-x c = omega (arith, sequence_room c.requires, c.well_formed)

pub at-a-requires : goal.at-a-requires
at-a-requires c = omega (arith, sequence_room c.requires)

pub overflow_add-x-2 : goal.overflow_add-x-2
overflow_add-x-2 c = omega (arith, sequence_room c.requires, c.well_formed)

pub overflow_add-x-3 : goal.overflow_add-x-3
overflow_add-x-3 c = omega (arith, sequence_room c.requires, c.well_formed)

pub at-c-requires : goal.at-c-requires
at-c-requires c = sequence_room c.requires

pub again-requires : goal.again-requires
again-requires c = sequence_again_pre c.if-x-n.false c.at-a.ensures.0 c.at-c.ensures.0 c.requires

pub returns-in-None : goal.returns-in-None
returns-in-None c = sequence_differs c.if-x-n.false c.at-a.ensures.0 c.at-c.ensures.0 c.again.ensures c.in-None.is

pub returns-in-Some : goal.returns-in-Some
returns-in-Some c = sequence_again c.if-x-n.false c.at-a.ensures.0 c.at-c.ensures.0 c.again.ensures c.in-Some.is
