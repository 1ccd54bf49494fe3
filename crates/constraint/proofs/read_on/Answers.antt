use Rattle.std.proofs.Common.{arith}
use Rattle.constraint.proofs.Readings.{reading_begins, reading_row, reading_on, reading_done}
use Rattle.constraint.proofs.read_on.Goals as goal

pub loop-init : goal.loop-init
loop-init c = reading_begins _ _ _ _ _ _ _ c.requires

pub bounds-label-row : goal.bounds-label-row
bounds-label-row c = (reading_row _ _ _ _ _ _ _ c.loop.invariant c.loop-test.true).0

pub next-row-requires : goal.next-row-requires
next-row-requires c = (reading_row _ _ _ _ _ _ _ c.loop.invariant c.loop-test.true).1

pub loop-preserved : goal.loop-preserved
loop-preserved c = reading_on _ _ _ _ _ _ _ c.loop.invariant c.loop-test.true c.step-state.ensures c.next-row.ensures

pub returns : goal.returns
returns c = reading_done _ _ _ _ _ _ _ c.loop.invariant (omega arith) c.loop-test.false
