use Rattle.std.proofs.Common.{refl}
use Rattle.record.proofs.Each.{read_pair, wrong_length, passed_none, passed_bad, passed_more, passed_all}
use Rattle.record.proofs.fits.Goals as goal

pub returns-then-record-variables : goal.returns-then-record-variables
returns-then-record-variables c = wrong_length c.if-record-variables.true

pub loop-x-init : goal.loop-x-init
loop-x-init c = passed_none c.if-record-variables.false

pub returns-then-not-pair_fits : goal.returns-then-not-pair_fits
returns-then-not-pair_fits c = passed_bad c.loop-x.invariant c.loop-x-test.true (read_pair c.loop-x.invariant c.loop-x-test.true refl c.at-a.ensures.0 c.at-b.ensures.0 c.pair_fits.ensures c.if-not-pair_fits.true)

pub loop-x-preserved : goal.loop-x-preserved
loop-x-preserved c = passed_more c.loop-x.invariant c.loop-x-test.true (read_pair c.loop-x.invariant c.loop-x-test.true refl c.at-a.ensures.0 c.at-b.ensures.0 c.pair_fits.ensures c.if-not-pair_fits.false)

pub returns : goal.returns
returns c = passed_all c.loop-x.invariant c.loop-x-test.false
