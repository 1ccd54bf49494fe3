use Rattle.tokens.specs.Tokens.{Passed, is_text_at}
use Rattle.tokens.proofs.text_to.Given as goal

abbrev pub invariant-loop-i : goal.invariant-loop-i
invariant-loop-i l = Passed (is_text_at l.document l.start) l.document l.start l.i
