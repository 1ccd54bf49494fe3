use Rattle.std.proofs.Common.{◌≤◌, length}
use Rattle.lines.proofs.lists.read_list.Given as goal

abbrev pub invariant-loop-item : goal.invariant-loop-item
invariant-loop-item l = l.many ≤ length l.room
