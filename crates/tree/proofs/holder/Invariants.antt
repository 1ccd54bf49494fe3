use Rattle.std.proofs.Common.{◌≡◌, ◌≤◌, ℕ, ◌+◌, ◌-◌, get_or}
use Rattle.tree.specs.Helpers.{Ahead}
use Rattle.tree.proofs.holder.Given as goal

abbrev pub invariant-loop-e : goal.invariant-loop-e
invariant-loop-e l = record {
  later : l.from ≤ l.u;
  low : l.u ≤ l.b;
  end : l.e ≡ l.u + get_or l.size l.u 0;
  passed : (a c : ℕ) → l.u ≤ c → Ahead l.size a c l.from → Ahead l.size a c l.u;
}

abbrev pub decreases-loop-e : goal.decreases-loop-e
decreases-loop-e l = l.b - l.u
