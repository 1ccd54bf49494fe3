use Rattle.pattern.specs.Answer.{codes, listed}
use borrow.Author.Rules.{rules}
use Rattle.pattern.proofs.refused.Goals as goal

pub returns : goal.returns
unfolding listed codes
returns c = search rules
