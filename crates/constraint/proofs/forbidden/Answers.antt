use native.Mathlib.Omega.{arith}
use Rattle.constraint.proofs.Obeyed.{not_flagged, sequence_flagged, context_flagged}
use Rattle.constraint.proofs.forbidden.Goals as goal

pub returns-then-flag-ne1 : goal.returns-then-flag-ne1
returns-then-flag-ne1 c = not_flagged _ _ _ _ (λ e. omega (arith, c.if-flag-ne1.true))

pub returns-then-kind-eq-SEQUENCE : goal.returns-then-kind-eq-SEQUENCE
returns-then-kind-eq-SEQUENCE c = sequence_flagged _ _ _ _ (omega (arith, c.if-flag-ne1.false)) (omega (arith, c.if-kind-eq-SEQUENCE.true))

pub returns : goal.returns
returns c = context_flagged _ _ _ _ (omega (arith, c.if-flag-ne1.false)) (λ e. omega (arith, c.if-kind-eq-SEQUENCE.false))
