use Rattle.tokens.specs.Tokens.{Passed, same_at}
use Rattle.tokens.proofs.same_end.Given as goal

abbrev pub invariant-loop-i : goal.invariant-loop-i
invariant-loop-i l = Passed (same_at l.document l.name l.from) l.document l.from l.i
