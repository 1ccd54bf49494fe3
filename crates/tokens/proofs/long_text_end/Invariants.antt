use Rattle.std.proofs.Common.{◌-◌, length}
use Rattle.tokens.specs.Tokens.{Passed, is_text_at}
use Rattle.tokens.proofs.long_text_end.Given as goal

abbrev pub invariant-loop-i : goal.invariant-loop-i
invariant-loop-i l = Passed (is_text_at l.document l.start) l.document l.start l.i

abbrev pub decreases-loop-i : goal.decreases-loop-i
decreases-loop-i l = length l.document - l.i
