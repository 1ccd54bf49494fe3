use Rattle.std.proofs.Common.{◌-◌, length}
use Rattle.tokens.specs.Tokens.{Passed, name_at}
use Rattle.tokens.proofs.long_name_end.Given as goal

abbrev pub invariant-loop-i : goal.invariant-loop-i
invariant-loop-i l = Passed (name_at l.document) l.document l.from l.i

abbrev pub decreases-loop-i : goal.decreases-loop-i
decreases-loop-i l = length l.document - l.i
