use native.Mathlib.Omega.{arith}
use Rattle.tokens.proofs.Counting.{counted}
use borrow.Author.Rules.{rules}
use Rattle.tokens.proofs.plain_count.Goals as goal

pub overflow_cast-result : goal.overflow_cast-result
overflow_cast-result c = omega (arith, (counted _ c.args.i _ _ c.four_stops-near.ensures.0 c.four_stops-far.ensures.0).0)

pub returns : goal.returns
returns c = counted _ _ _ _ c.four_stops-near.ensures.0 c.four_stops-far.ensures.0
