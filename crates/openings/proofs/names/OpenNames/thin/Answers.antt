use Rattle.openings.proofs.OpenNames.{thin_begins, thin_on, thinned}
use Rattle.openings.proofs.names.OpenNames.thin.Goals as goal

pub loop-j-init : goal.loop-j-init
loop-j-init c = thin_begins c.requires.1 c.requires.2

pub loop-j-preserved : goal.loop-j-preserved
loop-j-preserved c = thin_on c.loop-j.invariant c.loop-j-test.true c.stays-stay.ensures

pub returns : goal.returns
returns c = thinned c.loop-j.invariant c.loop-j-test.false
