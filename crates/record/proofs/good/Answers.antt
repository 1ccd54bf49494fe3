use Rattle.record.proofs.Whole.{no_tree, no_pattern, record_pre, record_judged}
use Rattle.record.proofs.good.Goals as goal

pub returns-then-not-good : goal.returns-then-not-good
returns-then-not-good c = no_tree c.good.ensures c.if-not-good.true

pub returns-then-not-checked : goal.returns-then-not-checked
returns-then-not-checked c = no_pattern c.check-checked.ensures c.if-not-checked.true

pub fits-requires : goal.fits-requires
fits-requires c = record_pre (c.good.ensures.0 c.if-not-good.false) c.check-checked.ensures c.if-not-checked.false

pub returns : goal.returns
returns c = record_judged (c.good.ensures.0 c.if-not-good.false) c.check-checked.ensures c.if-not-checked.false c.fits.ensures
