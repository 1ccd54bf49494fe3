use Rattle.std.proofs.Common.{arith, refl, ap, length-take}
use Rattle.meaning.specs.Ending.{number}
use Rattle.client.proofs.Whole.{few_variables, is_yes, is_open, is_no}
use Rattle.client.proofs.solvable.Goals as goal

pub returns-then-found-ne-NONE : goal.returns-then-found-ne-NONE
returns-then-found-ne-NONE c = is_yes c.in_ok-found.ensures refl c.if-found-ne-NONE.true

pub returns-in-Budget : goal.returns-in-Budget
returns-in-Budget c = is_open c.in_ok-found.ensures refl c.if-found-ne-NONE.false (ap number c.in-Budget.is)

pub returns-in-All : goal.returns-in-All
returns-in-All c = is_no c.in_ok-found.ensures refl c.check-variables.ensures (simp length-take (omega (arith, few_variables c.check-variables.ensures))) c.if-found-ne-NONE.false
    (λ e. omega (arith, e, ap number c.in-All.is))

pub returns-in-Room : goal.returns-in-Room
returns-in-Room c = is_no c.in_ok-found.ensures refl c.check-variables.ensures (simp length-take (omega (arith, few_variables c.check-variables.ensures))) c.if-found-ne-NONE.false
    (λ e. omega (arith, e, ap number c.in-Room.is))
