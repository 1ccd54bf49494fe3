use native.Mathlib.Omega.{arith}
use mathlib.Core.Path.{sym}
use Rattle.meaning.proofs.Answers.{says_no, said_no}
use Rattle.tree.proofs.Unique.{good_lengths, shape_good, good_shape}
use Rattle.tree.proofs.good.Goals as goal

pub returns-then-tree : goal.returns-then-tree
returns-then-tree c = says_no (λ g. c.if-tree.true (sym (good_lengths g.1).1))

pub returns-then-below : goal.returns-then-below
returns-then-below c = (
  λ h.
      let s = c.shape.ensures.0 h in
      shape_good c.if-tree.false (omega (arith, c.if-tree.false, s.1)) (c.below.ensures.0 c.if-below.true) s.0,
  λ g. c.shape.ensures.1 (good_shape g, omega (arith, good_lengths g.1, g.1.few)),
)

pub returns-else-below : goal.returns-else-below
returns-else-below c = rw c.if-below.false (says_no (λ g. said_no c.below.ensures c.if-below.false g.1.small))
