use native.Mathlib.Omega.{arith}
use Rattle.variable.proofs.Contexts.{context_needs, context_room, context_fits_pre, context_differs, context_again}
use Rattle.variable.proofs.context.Goals as goal

pub returns-then-x-n : goal.returns-then-x-n
returns-then-x-n c = context_needs c.if-x-n.true

pub overflow_add-x : goal.overflow_add-x
overflow_add-x c = omega (arith, context_room c.requires, c.well_formed)

pub at-a-requires : goal.at-a-requires
at-a-requires c = omega (arith, context_room c.requires, c.well_formed)

pub overflow_add-x-2 : goal.overflow_add-x-2
overflow_add-x-2 c = omega (arith, context_room c.requires, c.well_formed)

pub overflow_add-x-3 : goal.overflow_add-x-3
overflow_add-x-3 c = omega (arith, context_room c.requires, c.well_formed)

pub at-b-requires : goal.at-b-requires
at-b-requires c = omega (arith, context_room c.requires, c.well_formed)

pub fits-requires : goal.fits-requires
fits-requires c = context_fits_pre c.if-x-n.false c.at-a.ensures.0 c.at-b.ensures.0 c.requires

pub returns-in-None : goal.returns-in-None
returns-in-None c = context_differs c.if-x-n.false c.at-a.ensures.0 c.at-b.ensures.0 c.fits.ensures c.in-None.is

pub returns-in-Some : goal.returns-in-Some
returns-in-Some c = context_again c.if-x-n.false c.at-a.ensures.0 c.at-b.ensures.0 c.fits.ensures c.in-Some.is
