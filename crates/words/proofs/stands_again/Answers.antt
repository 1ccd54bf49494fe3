use mathlib.Core.Path.{sym}
use mathlib.Core.Bool.{true≢false}
use native.Mathlib.Omega.{arith}
use Rattle.words.proofs.stands_again.Goals as goal

pub returns-then-text-from : goal.returns-then-text-from
returns-then-text-from c = λ e. absurd (true≢false (sym e))

pub returns : goal.returns
returns c = λ e. (omega (arith, c.if-text-from.false, c.requires.1), c.same.ensures.0 e)
