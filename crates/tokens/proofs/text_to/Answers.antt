use Rattle.std.proofs.Common.{sym, ◌∙◌, arith}
use Rattle.tokens.proofs.Spans.{passed_more, stops_to, at_limit}
use Rattle.tokens.proofs.text_to.Goals as goal

pub returns-then-not-text_at : goal.returns-then-not-text_at
returns-then-not-text_at c = stops_to c.loop-i.invariant (omega arith) (sym c.text_at.ensures ∙ c.if-not-text_at.true)

pub loop-i-preserved : goal.loop-i-preserved
loop-i-preserved c = passed_more c.loop-i.invariant (omega arith) (sym c.text_at.ensures ∙ c.if-not-text_at.false)

pub returns : goal.returns
returns c = at_limit c.loop-i.invariant (omega arith) c.loop-i-test.false
