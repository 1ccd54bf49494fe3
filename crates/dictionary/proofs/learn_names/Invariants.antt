use Prim.Native.Nat.{◌-◌}
use lib.ListN.{length}
use Rattle.dictionary.proofs.Learning.{Learning}
use Rattle.dictionary.proofs.learn_names.Given as goal

-- `learn_names` meets its contract. The invariant: the names before `start` are good, different and in the index. The measure is what is left of the bytes.
abbrev pub invariant-loop-start : goal.invariant-loop-start
invariant-loop-start l = Learning l.dictionary l.initial.index l.index l.start l.names

abbrev pub decreases-loop-start : goal.decreases-loop-start
decreases-loop-start l = length l.dictionary - l.start
