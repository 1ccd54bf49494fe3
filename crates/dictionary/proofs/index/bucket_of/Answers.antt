use Rattle.dictionary.proofs.Buckets.{bucket_is}
use Rattle.dictionary.proofs.index.bucket_of.Goals as goal

pub returns : goal.returns
returns c = bucket_is c.args.text.now c.args.start c.args.end _ c.requires.1 c.hash.ensures
