use Rattle.levels.proofs.Columns.{entered}
use Rattle.levels.proofs.enter.Goals as goal

pub returns : goal.returns
returns c = entered _ _ _ _ _ _ _
