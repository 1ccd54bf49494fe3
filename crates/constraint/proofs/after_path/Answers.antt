use Rattle.std.proofs.Common.{arith}
use Rattle.constraint.proofs.Readings.{no_label, label_row, label_child, one_label, label_below, all_labels}
use Rattle.constraint.proofs.after_path.Goals as goal

pub loop-down-init : goal.loop-down-init
loop-down-init c =
    let read = no_label _ _ _ _ _ c.begin-state.ensures in
    let rows = label_row _ _ _ _ _ read c.requires in
    record { read = read; inside = rows.0; hole_inside = rows.3 }

pub child-down-requires : goal.child-down-requires
child-down-requires c = label_child _ _ _ _ _ c.loop-down.invariant.read c.requires c.loop-down-test.true

pub loop-down-smaller : goal.loop-down-smaller
loop-down-smaller c =
    let read = c.loop-down.invariant.read in
    omega (arith, label_row _ _ _ _ _ read c.requires, label_below _ _ _ _ _ read c.requires c.loop-down-test.true c.child-down.ensures)

pub loop-down-preserved : goal.loop-down-preserved
loop-down-preserved c =
    let read = one_label _ _ _ _ _ c.loop-down.invariant.read c.requires c.loop-down-test.true c.step-state.ensures c.child-down.ensures in
    record { read = read; inside = (label_row _ _ _ _ _ read c.requires).0; hole_inside = c.loop-down.invariant.hole_inside }

pub returns : goal.returns
returns c = all_labels _ _ _ _ _ c.loop-down.invariant.read c.loop-down-test.false
