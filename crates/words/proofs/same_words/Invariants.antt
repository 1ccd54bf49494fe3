use Prim.Native.Nat.{◌-◌, ◌≤◌}
use Rattle.words.specs.Words.{Again}
use Rattle.words.proofs.same_words.Given as goal

abbrev pub invariant-loop-k : goal.invariant-loop-k
invariant-loop-k l = Again l.left l.at l.right l.from l.k × (l.k ≤ l.length)

abbrev pub decreases-loop-k : goal.decreases-loop-k
decreases-loop-k l = l.length - l.k
