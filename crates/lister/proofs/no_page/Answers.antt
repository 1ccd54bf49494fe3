use Rattle.lister.specs.Inside.{bad, of_none}
use Rattle.lister.proofs.no_page.Goals as goal

pub returns-then-fits : goal.returns-then-fits
returns-then-fits c = of_none (rw c.if-fits.true at c.fits.ensures)

pub returns-else-fits : goal.returns-else-fits
returns-else-fits c = bad (rw c.if-fits.false at c.fits.ensures)
