use borrow.Author.Rules.{rules}
use Rattle.words.specs.Words.{few_of}
use Rattle.words.proofs.few.Goals as goal

pub returns : goal.returns
unfolding few_of
returns c = search rules
