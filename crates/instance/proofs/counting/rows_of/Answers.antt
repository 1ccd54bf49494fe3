use Rattle.instance.proofs.Sums.{summed_none, row_pre, summed_more, summed_all}
use Rattle.instance.proofs.counting.rows_of.Goals as goal

pub loop-row-init : goal.loop-row-init
loop-row-init c = summed_none

pub row_adds-rows-requires : goal.row_adds-rows-requires
row_adds-rows-requires c = row_pre c.requires c.loop-row-test.true

pub loop-row-preserved : goal.loop-row-preserved
loop-row-preserved c = summed_more c.loop-row.invariant c.loop-row-test.true c.row_adds-rows.ensures

pub returns : goal.returns
returns c = summed_all c.loop-row.invariant c.loop-row-test.false
