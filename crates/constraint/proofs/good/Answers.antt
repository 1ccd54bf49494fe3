use Rattle.meaning.proofs.Answers.{says_no}
use Rattle.constraint.proofs.Meant.{pattern_bad, table_bad, list_asked, list_judged}
use Rattle.constraint.proofs.good.Goals as goal

pub returns-then-not-checked : goal.returns-then-not-checked
returns-then-not-checked c = says_no (pattern_bad _ _ _ _ _ _ _ c.check-checked.ensures c.if-not-checked.true)

pub returns-then-not-good : goal.returns-then-not-good
returns-then-not-good c = says_no (table_bad _ _ _ _ _ _ _ c.good.ensures c.if-not-good.true)

pub given-requires : goal.given-requires
given-requires c = list_asked c.check-checked.ensures c.good.ensures c.if-not-checked.false
    c.if-not-good.false

pub returns : goal.returns
returns c = list_judged _ _ _ _ _ _ _ c.check-checked.ensures c.good.ensures c.if-not-checked.false
    c.if-not-good.false c.given.ensures
