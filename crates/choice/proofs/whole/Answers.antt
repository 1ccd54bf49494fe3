use native.Mathlib.Omega.{arith}
use Rattle.choice.proofs.Runs.{whole_end, whole_pre, whole_past}
use Rattle.choice.proofs.whole.Goals as goal

pub next-row-requires : goal.next-row-requires
next-row-requires c = rw c.row.ensures c.requires.row

pub returns-then-limit-left : goal.returns-then-limit-left
returns-then-limit-left c = whole_end c.if-limit-left.true c.row.ensures c.next-row.ensures

pub past-row-requires : goal.past-row-requires
past-row-requires c = whole_pre c.requires

pub returns : goal.returns
returns c = whole_past c.requires.fewer c.past-row.ensures
