use borrow.Author.Rules.{rules}
use Rattle.words.specs.Words.{mixed_of}
use Rattle.words.proofs.Bytes.{mixed_fits}
use Rattle.words.proofs.mixed.Goals as goal

pub overflow_add-result-2 : goal.overflow_add-result-2
overflow_add-result-2 c = record { fits = mixed_fits c.args.a c.args.b c.ranges.a.fits c.ranges.b.fits }

pub returns : goal.returns
unfolding mixed_of
returns c = search rules
