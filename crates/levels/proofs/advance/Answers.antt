use Rattle.levels.proofs.Columns.{moved}
use Rattle.levels.proofs.advance.Goals as goal

pub returns : goal.returns
returns c = moved _ _ _ _ _
