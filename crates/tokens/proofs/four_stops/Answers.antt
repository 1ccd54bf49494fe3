use native.Mathlib.Omega.{arith}
use Rattle.tokens.proofs.Counting.{four_are}
use borrow.Author.Rules.{rules}
use Rattle.tokens.proofs.four_stops.Goals as goal

pub returns : goal.returns
returns c = (four_are _ _ _ _ _ _ c.stops-a.ensures.0 c.stops-b.ensures.0 c.stops-c.ensures.0 c.stops-d.ensures.0, omega (arith, c.stops-a.ensures.1, c.stops-b.ensures.1, c.stops-c.ensures.1, c.stops-d.ensures.1))
