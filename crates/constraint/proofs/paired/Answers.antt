use native.Mathlib.Omega.{arith}
use Rattle.meaning.proofs.Answers.{says_no}
use Rattle.constraint.proofs.Pairs.{without_expression, flag_above, kind_without, with_expression, may_not, may}
use Rattle.constraint.proofs.paired.Goals as goal

pub returns-then-first-eq0 : goal.returns-then-first-eq0
returns-then-first-eq0 c = λ es k p q. without_expression es k _ _ c.if-first-eq0.true

pub returns-then-flag-gt1 : goal.returns-then-flag-gt1
returns-then-flag-gt1 c = λ es k p q. says_no (flag_above es k _ _ (omega (arith, c.if-flag-gt1.true)))

pub returns-then-kind-eq-FUNCTION : goal.returns-then-kind-eq-FUNCTION
returns-then-kind-eq-FUNCTION c = λ es k p q. says_no (kind_without es k _ _ c.if-first-eq0.false (may_not k (λ e. omega (arith, q)) (λ e. omega (arith, q))))

pub returns : goal.returns
returns c = λ es k p q.
    with_expression es k _ _ c.if-first-eq0.false (omega (arith, c.if-flag-gt1.false))
    (may k (λ e. omega (arith, q)) (λ e. omega (arith, q)))
    (c.starts.ensures es p)
