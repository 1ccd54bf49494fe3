use Rattle.std.proofs.Common.{arith}
use Rattle.tokens.proofs.Spans.{name_yes, name_not, passed_none, passed_more, stops, through}
use Rattle.tokens.proofs.name_end.Goals as goal

pub loop-i-init : goal.loop-i-init
loop-i-init c = passed_none _ _ _ c.requires

pub returns-then-class_of-lt-IN_NAME : goal.returns-then-class_of-lt-IN_NAME
returns-then-class_of-lt-IN_NAME c = stops c.loop-i.invariant (name_not _ _ c.class_of.ensures (omega arith))

pub loop-i-preserved : goal.loop-i-preserved
loop-i-preserved c = passed_more c.loop-i.invariant (omega arith) (name_yes _ _ c.class_of.ensures (omega arith))

pub returns : goal.returns
returns c = through c.loop-i.invariant c.loop-i-test.false
