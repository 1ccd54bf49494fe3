use Rattle.memory.proofs.Growing.{more_there, grown_read}
use Rattle.memory.proofs.grown.Goals as goal

pub read_on-mark-requires : goal.read_on-mark-requires
read_on-mark-requires c = more_there c.requires c.recall-was.ensures

pub returns : goal.returns
returns c = rw c.keep.ensures (grown_read c.requires c.recall-was.ensures c.read_on-mark.ensures)
