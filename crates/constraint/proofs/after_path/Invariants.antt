use Rattle.std.proofs.Common.{◌-◌, ◌<◌, length}
use Rattle.constraint.proofs.Readings.{PathRead}
use Rattle.constraint.proofs.after_path.Given as goal

abbrev pub invariant-loop-down : goal.invariant-loop-down
invariant-loop-down l = record {
  read : PathRead l.tree.label.now l.tree.size.now l.tables l.root l.a l.b l.down l.state.next l.state.end;
  inside : l.down < length l.tree.label.now;
  hole_inside : l.b < length l.tree.label.now;
}

abbrev pub decreases-loop-down : goal.decreases-loop-down
decreases-loop-down l = l.b - l.down
