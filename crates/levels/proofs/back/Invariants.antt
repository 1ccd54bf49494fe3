use Rattle.std.proofs.Common.{◌≡◌, ℕ, ◌<◌, ◌≤◌, get_or}
use Rattle.levels.specs.Columns.{lefts}
use Rattle.levels.proofs.back.Given as goal

abbrev pub invariant-loop-d : goal.invariant-loop-d
invariant-loop-d l = (k : ℕ) → l.d ≤ k → k < l.depth → get_or (lefts l.levels) k 0 ≡ 0
