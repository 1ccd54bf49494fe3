use native.Mathlib.Omega.{arith}
use Rattle.compare.proofs.Contexts.{fitted_first, fitted_rows, fitted_labels, fitted_done, fitted_level_pre, fitted_less, fitted_fails, fitted_more}
use Rattle.compare.proofs.fits.Goals as goal

pub loop-from-init : goal.loop-from-init
loop-from-init c = fitted_first

pub at-requires : goal.at-requires
at-requires c = (fitted_rows c.loop-from.invariant c.requires).0

pub at-requires-in-loop-from : goal.at-requires-in-loop-from
at-requires-in-loop-from c = (fitted_rows c.loop-from.invariant c.requires).1

pub returns-then-at : goal.returns-then-at
returns-then-at c = fitted_labels c.loop-from.invariant c.loop-from-test.true c.at.ensures.0 c.at-in-loop-from.ensures.0 c.if-at.true

pub level-requires : goal.level-requires
level-requires c = fitted_level_pre c.loop-from.invariant c.loop-from-test.true c.at.ensures.0 c.at-in-loop-from.ensures.0 c.if-at.false c.requires

pub returns-in_err-v : goal.returns-in_err-v
returns-in_err-v c = rw c.from_residual.ensures (fitted_fails c.loop-from.invariant c.loop-from-test.true c.in_err-v.ensures)

pub overflow_sub-from : goal.overflow_sub-from
overflow_sub-from c = omega (arith, fitted_less c.loop-from.invariant c.loop-from-test.true c.in_ok-v.ensures c.requires)

pub overflow_add-from : goal.overflow_add-from
overflow_add-from c = omega (arith, fitted_less c.loop-from.invariant c.loop-from-test.true c.in_ok-v.ensures c.requires, c.well_formed)

pub loop-from-smaller : goal.loop-from-smaller
loop-from-smaller c = omega (arith, fitted_less c.loop-from.invariant c.loop-from-test.true c.in_ok-v.ensures c.requires)

pub loop-from-preserved : goal.loop-from-preserved
loop-from-preserved c = fitted_more c.loop-from.invariant c.loop-from-test.true c.in_ok-v.ensures

pub returns : goal.returns
returns c = fitted_done c.loop-from.invariant c.loop-from-test.false
