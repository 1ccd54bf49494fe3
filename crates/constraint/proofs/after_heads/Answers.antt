use Rattle.constraint.proofs.Readings.{from_first}
use Rattle.constraint.proofs.after_heads.Goals as goal

pub returns : goal.returns
returns c = from_first c.begin.ensures c.read_on.ensures
