use Rattle.std.proofs.Common.{refl, arith}
use Rattle.tokens.proofs.Spans.{name_yes, name_not, passed_none, passed_more, stops, through, same_yes, same_ended, same_differs}
use Rattle.tokens.proofs.same_end.Goals as goal
use Rattle.tokens.proofs.same_end.Goals.{then-class_of-lt-IN_NAME-via-then-class_of-lt-IN_NAME, then-class_of-lt-IN_NAME-via-else-class_of-lt-IN_NAME+then-document-i}

pub returns-then-class_of-lt-IN_NAME : goal.returns-then-class_of-lt-IN_NAME
returns-then-class_of-lt-IN_NAME c =
    elim c.then-class_of-lt-IN_NAME.branch [
      | then-class_of-lt-IN_NAME-via-then-class_of-lt-IN_NAME w ↦ stops c.loop-i.invariant (same_ended _ _ _ _ _ _ refl c.byte_at-expected.ensures (name_not _ _ c.class_of.ensures (omega arith)))
      | then-class_of-lt-IN_NAME-via-else-class_of-lt-IN_NAME+then-document-i w ↦ stops c.loop-i.invariant (same_differs _ _ _ _ _ _ refl c.byte_at-expected.ensures (name_yes _ _ c.class_of.ensures (omega arith)) w.if-document-i.true)
    ]

pub loop-i-preserved : goal.loop-i-preserved
loop-i-preserved c = passed_more c.loop-i.invariant (omega arith) (same_yes _ _ _ _ _ _ refl c.byte_at-expected.ensures (name_yes _ _ c.class_of.ensures (omega arith)) c.if-document-i.false)

pub returns : goal.returns
returns c = through c.loop-i.invariant c.loop-i-test.false
