use borrow.Author.Tests.{lt-ltb, le-ltb}
use Rattle.tokens.specs.Tokens.{stop_number}
use Rattle.tokens.proofs.class.stop_of.Goals as goal

pub returns-then-c-gt-GREATER : goal.returns-then-c-gt-GREATER
unfolding stop_number
returns-then-c-gt-GREATER c = simp (lt-ltb _ _ c.if-c-gt-GREATER.true)

pub returns-else-c-gt-GREATER : goal.returns-else-c-gt-GREATER
unfolding stop_number
returns-else-c-gt-GREATER c = simp (le-ltb _ _ c.if-c-gt-GREATER.false)
