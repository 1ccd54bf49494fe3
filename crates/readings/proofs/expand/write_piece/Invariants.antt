use Rattle.std.proofs.Common.{◌≤◌, length}
use Rattle.readings.proofs.expand.write_piece.Given as goal

abbrev pub invariant-loop-byte : goal.invariant-loop-byte
invariant-loop-byte l = l.many ≤ length l.room
