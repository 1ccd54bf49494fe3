use Rattle.problem.specs.Problem.{lists}
use Rattle.test.proofs.Whole.{record_asked, test_bad_record, fitted_in, placed_asked, test_elsewhere, obeyed_asked, test_there}
use Rattle.test.proofs.test.Goals as goal

pub fits-requires : goal.fits-requires
fits-requires c = record_asked (lists c.args.problem.now) c.in_ok-variables.ensures

pub returns-then-not-fits : goal.returns-then-not-fits
returns-then-not-fits c = test_bad_record (lists c.args.problem.now) c.in_ok-variables.ensures _ c.fits.ensures c.if-not-fits.true

pub placed-requires : goal.placed-requires
placed-requires c = placed_asked (fitted_in (lists c.args.problem.now) c.args.«record».now c.in_ok-variables.ensures c.fits.ensures c.if-not-fits.false)

pub returns-else-placed : goal.returns-else-placed
returns-else-placed c =
    let f = fitted_in (lists c.args.problem.now) c.args.«record».now c.in_ok-variables.ensures c.fits.ensures c.if-not-fits.false in
    rw c.if-placed.false (test_elsewhere f c.placed.ensures c.if-placed.false)

pub obeyed-requires : goal.obeyed-requires
obeyed-requires c = obeyed_asked (fitted_in (lists c.args.problem.now) c.args.«record».now c.in_ok-variables.ensures c.fits.ensures c.if-not-fits.false)

pub returns-then-placed : goal.returns-then-placed
returns-then-placed c =
    let f = fitted_in (lists c.args.problem.now) c.args.«record».now c.in_ok-variables.ensures c.fits.ensures c.if-not-fits.false in
    test_there f c.placed.ensures c.if-placed.true c.obeyed.ensures
