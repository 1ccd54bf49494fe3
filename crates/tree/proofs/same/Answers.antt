use Rattle.std.proofs.Common.{arith, below_more, below_none}
use Rattle.meaning.proofs.Answers.{says_yes, says_no}
use Rattle.tree.proofs.same.Goals as goal

pub loop-i-init : goal.loop-i-init
loop-i-init c = record { each = below_none _ }

pub returns-then-label-a : goal.returns-then-label-a
returns-then-label-a c = says_no (λ h. c.if-label-a.true (grind (arith, h.each)))

pub returns-then-size-a : goal.returns-then-size-a
returns-then-size-a c = says_no (λ h. c.if-size-a.true (h.each c.loop-i.i c.loop-i-test.true).1)

pub loop-i-preserved : goal.loop-i-preserved
loop-i-preserved c = record { each = below_more _ _ c.loop-i.invariant.each (c.if-label-a.false, c.if-size-a.false) }

pub returns : goal.returns
returns c = says_yes (record { each = λ i h. c.loop-i.invariant.each i (omega arith) })
