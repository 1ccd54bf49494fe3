use Rattle.std.proofs.Common.{sym, ◌∙◌, arith}
use Rattle.tokens.proofs.Spans.{passed_then, plain_text, less_stops, stops, stopped_early, at_end}
use Rattle.tokens.proofs.long_text_end.Goals as goal

pub returns-then-byte_at-eq60 : goal.returns-then-byte_at-eq60
returns-then-byte_at-eq60 c = stops (passed_then c.loop-i.invariant c.plain_end-plain.ensures (plain_text _ _)) (less_stops _ _ _ (sym c.byte_at.ensures ∙ c.if-byte_at-eq60.true))

pub text_to-end-requires : goal.text_to-end-requires
text_to-end-requires c = (passed_then c.loop-i.invariant c.plain_end-plain.ensures (plain_text _ _), omega arith, omega arith)
