use mathlib.Core.Path.{◌≡◌}
use Prim.Native.Nat.{◌+◌}
use lib.ListN.{drop}
use Rattle.dictionary.specs.Scan.{upto}
use Rattle.dictionary.proofs.name_end.Given as goal

-- `name_end` meets its contract. The invariant: the next byte 10 from `end` on is the next from `start` on.
abbrev pub invariant-loop-end : goal.invariant-loop-end
invariant-loop-end l = l.end + upto (drop l.end l.dictionary) ≡ l.start + upto (drop l.start l.dictionary)
