use Rattle.std.proofs.Common.{ℕ, ◌+◌, ◌<◌, ◌≤◌, length, slice_index}
use Rattle.lines.proofs.lists.read_lists.Given as goal

-- The lists so far end in order, and none behind the last.
abbrev pub invariant-loop-list : goal.invariant-loop-list
invariant-loop-list l = record {
  room : l.end ≤ length l.numbers;
  below : (k : ℕ) → k < l.list → slice_index l.ends k ≤ l.end;
  order : (k : ℕ) → k + 1 < l.list → slice_index l.ends k ≤ slice_index l.ends (k + 1);
}
