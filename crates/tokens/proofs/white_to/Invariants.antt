use Rattle.tokens.specs.Tokens.{Passed, white_at}
use Rattle.tokens.proofs.white_to.Given as goal

abbrev pub invariant-loop-i : goal.invariant-loop-i
invariant-loop-i l = Passed (white_at l.document) l.document l.from l.i
