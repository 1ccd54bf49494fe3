use Rattle.std.proofs.Common.{◌-◌, length, get_or}
use Rattle.tokens.specs.Tokens.{Passed}
use Rattle.tokens.proofs.blocks_end.Given as goal

abbrev pub invariant-loop-i : goal.invariant-loop-i
invariant-loop-i g l = Passed (λ k. g.M.Many.among (get_or l.document k 0)) l.document l.from l.i

abbrev pub decreases-loop-i : goal.decreases-loop-i
decreases-loop-i g l = length l.document - l.i
