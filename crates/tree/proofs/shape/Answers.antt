use native.Mathlib.Omega.{arith}
use mathlib.Core.Path.{refl, sym, ◌∙◌}
use Rattle.meaning.proofs.Answers.{says_no, said_no}
use Rattle.tree.proofs.Endings.{zeros_tell}
use Rattle.tree.proofs.Open.{no_rows, root_forth, shape_within}
use Rattle.tree.proofs.shape.Goals as goal

pub returns-then-rows-eq0 : goal.returns-then-rows-eq0
returns-then-rows-eq0 c = says_no (λ s. no_rows c.if-rows-eq0.true s.0)

pub returns-then-at-rows : goal.returns-then-at-rows
returns-then-at-rows c = says_no (λ s. c.if-at-rows.true (c.at.ensures.0 ∙ (root_forth s.0).0))

pub ending-requires : goal.ending-requires
ending-requires c = zeros_tell 2049 refl (omega arith)

pub nested-requires : goal.nested-requires
nested-requires c = record {
  root = sym c.at.ensures.0 ∙ c.if-at-rows.false;
  some = c.if-rows-eq0.false;
  within = c.ending.ensures.within.0 c.if-ending.true;
  told = c.ending.ensures.told c.if-ending.true;
}

pub returns-then-ending : goal.returns-then-ending
returns-then-ending c = (λ e. (c.nested.ensures.0 e, omega arith), λ s. c.nested.ensures.1 s.0)

pub returns : goal.returns
returns c = says_no (λ s. said_no c.ending.ensures.within c.if-ending.false (shape_within s.0))
