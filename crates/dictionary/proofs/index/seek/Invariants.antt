use mathlib.Core.List.{List}
use Prim.Native.Nat.{ℕ}
use Rattle.dictionary.specs.Scan.{range}
use Rattle.dictionary.specs.Index.{MayNumber}
use Rattle.dictionary.proofs.Chains.{Sought}
use Rattle.dictionary.proofs.index.seek.Given as goal

-- `seek` meets its contract. The invariant: a place with the spelling is below `next`. The measure is `next`: chains go down.
abbrev pub invariant-loop-next : goal.invariant-loop-next
invariant-loop-next l =
    (known : List (List ℕ)) → MayNumber l.dictionary l.document l.names l.index l.count l.start l.end known → Sought known (range l.document l.start l.end) l.next

abbrev pub decreases-loop-next : goal.decreases-loop-next
decreases-loop-next l = l.next
