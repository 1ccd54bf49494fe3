use Rattle.std.proofs.Common.{arith}
use Rattle.tokens.proofs.Spans.{white_yes, white_not, passed_none, passed_more, stops_to, at_limit}
use Rattle.tokens.proofs.white_to.Goals as goal

pub loop-i-init : goal.loop-i-init
loop-i-init c = passed_none _ _ _ (omega arith)

pub returns-then-class_of-ne-WHITE : goal.returns-then-class_of-ne-WHITE
returns-then-class_of-ne-WHITE c = stops_to c.loop-i.invariant (omega arith) (white_not _ _ c.class_of.ensures c.if-class_of-ne-WHITE.true)

pub loop-i-preserved : goal.loop-i-preserved
loop-i-preserved c = passed_more c.loop-i.invariant (omega arith) (white_yes _ _ c.class_of.ensures c.if-class_of-ne-WHITE.false)

pub returns : goal.returns
returns c = at_limit c.loop-i.invariant (omega arith) c.loop-i-test.false
