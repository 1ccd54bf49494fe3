use Rattle.std.proofs.Common.{◌≤◌, length}
use Rattle.readings.proofs.expand.write_repeated.Given as goal

abbrev pub invariant-loop-pass : goal.invariant-loop-pass
invariant-loop-pass l = l.end ≤ length l.room
