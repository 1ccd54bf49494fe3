use Rattle.tokens.proofs.Spans.{passed_then, span_then, stopped_early}
use borrow.Author.Rules.{rules}
use Rattle.tokens.proofs.long_white_end.Goals as goal

pub returns-then-end-near : goal.returns-then-end-near
returns-then-end-near c = stopped_early c.white_to-end.ensures c.if-end-near.true

pub returns : goal.returns
returns c = span_then (passed_then c.white_to-end.ensures.passed c.blocks_end.ensures (λ k e. e)) c.white_end.ensures
