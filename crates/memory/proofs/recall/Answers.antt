use Rattle.memory.proofs.Growing.{begun}
use Rattle.memory.proofs.recall.Goals as goal

pub returns : goal.returns
returns c = begun _ _ _ _ _ _ c.begin-state.ensures
