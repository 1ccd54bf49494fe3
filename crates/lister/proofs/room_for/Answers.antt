use Rattle.catalogue.proofs.Back.{fitting_none, fitting_some}
use Rattle.lister.proofs.room_for.Goals as goal

pub returns-then-width-eq0 : goal.returns-then-width-eq0
returns-then-width-eq0 c = fitting_none _ _ c.if-width-eq0.true

pub returns-else-width-eq0 : goal.returns-else-width-eq0
returns-else-width-eq0 c = fitting_some _ _ c.if-width-eq0.false
