use Rattle.std.proofs.Common.{◌≡◌, ◌≤◌}
use lib.Count.{ones}
use lib.Dec.{eqb}
use Rattle.letters.specs.Tables.{name_of, cont_of, ends_of}
use Rattle.letters.proofs.OneLetter.{add_set, add_end, step_set, step_end}
use Rattle.letters.proofs.Visit.{visit}
use Rattle.letters.proofs.step.Given as goal

-- the walk over what is left goes on to what the walk over the whole set gives
abbrev pub invariant-loop-left : goal.invariant-loop-left
invariant-loop-left l = (l.left ≤ l.next)
    × (visit (add_set (λ p. eqb (name_of l.tables p) l.label) (cont_of l.tables)) l.left l.set ≡ step_set (λ p. eqb (name_of l.tables p) l.label) (cont_of l.tables) l.next)
    × (visit (add_end (λ p. eqb (name_of l.tables p) l.label) (ends_of l.tables)) l.left l.end ≡ step_end (λ p. eqb (name_of l.tables p) l.label) (ends_of l.tables) l.next)

-- the count of ones falls
abbrev pub decreases-loop-left : goal.decreases-loop-left
decreases-loop-left l = ones l.left
