use Rattle.walk.proofs.Ups.{root_pre, root_is}
use Rattle.walk.proofs.begin.Goals as goal

pub term-requires : goal.term-requires
term-requires c = root_pre c.requires

pub returns : goal.returns
returns c = root_is c.term.ensures
