use Rattle.std.proofs.Common.{refl}
use Rattle.meaning.proofs.Answers.{says_no}
use Rattle.constraint.proofs.Passed.{passed_one, passed_not, passed_all, other_length}
use Rattle.constraint.proofs.given.Goals as goal

pub returns-then-constraint-variables : goal.returns-then-constraint-variables
returns-then-constraint-variables c es Q q p = says_no (other_length _ _ _ c.if-constraint-variables.true es Q q)

pub returns-then-not-paired : goal.returns-then-not-paired
returns-then-not-paired c es Q q p = says_no (passed_not _ _ _ _ c.loop-x-test.true c.paired.ensures c.if-not-paired.true es Q q p)

pub loop-x-preserved : goal.loop-x-preserved
loop-x-preserved c = passed_one _ _ _ _ c.loop-x.invariant c.paired.ensures c.if-not-paired.false

pub returns : goal.returns
returns c es Q q p = (λ _. passed_all _ _ _ _ c.loop-x.invariant c.loop-x-test.false c.if-constraint-variables.false es Q q p, λ _. refl)
