use Prim.Native.Nat.{◌-◌, ◌≤◌}
use native.Mathlib.Omega.{arith}
use lib.ListN.{length}
use Rattle.tokens.specs.Tokens.{Passed, plain_at}
use Rattle.tokens.proofs.Spans.{passed_none, passed_block, passed_then}
use borrow.Author.Rules.{rules}
use Rattle.tokens.proofs.plain_end.Given as goal

abbrev pub invariant-loop-i : goal.invariant-loop-i
invariant-loop-i l = (l.near ≤ length l.document) × Passed (plain_at l.document) l.document l.from l.i

abbrev pub decreases-loop-i : goal.decreases-loop-i
decreases-loop-i l = length l.document - l.i
