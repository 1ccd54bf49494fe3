use Rattle.tokens.specs.Tokens.{Passed, name_at}
use Rattle.tokens.proofs.name_end.Given as goal

abbrev pub invariant-loop-i : goal.invariant-loop-i
invariant-loop-i l = Passed (name_at l.document) l.document l.from l.i
