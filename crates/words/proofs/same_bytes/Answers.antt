use Rattle.words.proofs.Bytes.{says_equal}
use Rattle.words.proofs.same_bytes.Goals as goal

pub returns : goal.returns
returns c = says_equal c.eq.result c.requires.0 c.requires.1 c.eq.ensures
