use Rattle.words.proofs.Bytes.{word_is}
use Rattle.words.proofs.word.Goals as goal

pub returns : goal.returns
returns c = word_is _ _ _ _ c.half.ensures.0 c.half-2.ensures.0
