use mathlib.Core.List.{List, ◌∷◌}
use Rattle.grammar.specs.Machine.{Open}
use Rattle.openings.specs.OpenNames.{OpenAt}
use Rattle.openings.proofs.WalkBack.{PassingBack}
use Rattle.openings.proofs.back.innermost_before.Given as goal

abbrev pub invariant-loop-less : goal.invariant-loop-less
invariant-loop-less l = (p : Open) (o : List Open) → OpenAt l.document l.from (p ∷ o) → PassingBack l.document l.from (p ∷ o) l.at l.inside

abbrev pub decreases-loop-less : goal.decreases-loop-less
decreases-loop-less l = l.at
