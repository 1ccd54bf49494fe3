use native.Mathlib.Omega.{arith}
use Rattle.problem.proofs.Allows.{asked_within, allowed_asks, allowed_by}
use Rattle.problem.proofs.allowed.Goals as goal

pub overflow_add-start : goal.overflow_add-start
overflow_add-start c = omega (arith, asked_within c.requires)

pub offset_bounds-constraint-x : goal.offset_bounds-constraint-x
offset_bounds-constraint-x c = omega (arith, asked_within c.requires)

pub bounds-constraint-x : goal.bounds-constraint-x
bounds-constraint-x c = omega (arith, asked_within c.requires)

pub overflow_add-flag : goal.overflow_add-flag
overflow_add-flag c = omega (arith, asked_within c.requires)

pub overflow_add-flag-2 : goal.overflow_add-flag-2
overflow_add-flag-2 c = omega (arith, asked_within c.requires)

pub offset_bounds-constraint-x-2 : goal.offset_bounds-constraint-x-2
offset_bounds-constraint-x-2 c = omega (arith, asked_within c.requires)

pub bounds-constraint-x-2 : goal.bounds-constraint-x-2
bounds-constraint-x-2 c = omega (arith, asked_within c.requires)

pub offset_bounds-kinds-x : goal.offset_bounds-kinds-x
offset_bounds-kinds-x c = omega (arith, asked_within c.requires)

pub bounds-kinds-x : goal.bounds-kinds-x
bounds-kinds-x c = omega (arith, asked_within c.requires)

pub obeys-requires : goal.obeys-requires
obeys-requires c = allowed_asks c.requires

pub returns : goal.returns
returns c = allowed_by _ _ _ c.obeys.ensures
