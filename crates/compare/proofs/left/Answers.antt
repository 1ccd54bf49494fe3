use borrow.Author.Rules.{rules}
use native.Mathlib.Omega.{arith}
use Rattle.compare.proofs.Lefts.{beside_first, beside_row, beside_all, beside_end, beside_there, beside_alike_pre, beside_differs, beside_more}
use Rattle.compare.proofs.left.Goals as goal

pub loop-a-init : goal.loop-a-init
loop-a-init c = beside_first

pub next-behind-requires : goal.next-behind-requires
next-behind-requires c = (beside_row c.loop-a.invariant c.requires).sized

pub returns-then-b-behind : goal.returns-then-b-behind
returns-then-b-behind c = beside_all c.loop-a.invariant c.next-behind.ensures c.if-b-behind.true

pub returns-then-v-e : goal.returns-then-v-e
returns-then-v-e c = beside_end c.loop-a.invariant c.next-behind.ensures c.if-b-behind.false c.if-v-e.true

pub next-after-requires : goal.next-after-requires
next-after-requires c = beside_there c.loop-a.invariant c.next-behind.ensures c.if-b-behind.false c.if-v-e.false c.requires

pub alike-requires : goal.alike-requires
alike-requires c = beside_alike_pre c.loop-a.invariant c.next-behind.ensures c.if-b-behind.false c.if-v-e.false c.next-after.ensures c.requires

pub loop-a-smaller : goal.loop-a-smaller
loop-a-smaller c = omega (arith, c.if-b-behind.false, c.next-behind.ensures, beside_row c.loop-a.invariant c.requires)

pub loop-a-preserved : goal.loop-a-preserved
loop-a-preserved c = beside_more c.loop-a.invariant c.next-behind.ensures c.if-b-behind.false c.if-v-e.false c.next-after.ensures c.alike.ensures (search rules)

pub returns-then-not-alike : goal.returns-then-not-alike
returns-then-not-alike c = beside_differs c.loop-a.invariant c.next-behind.ensures c.if-b-behind.false c.if-v-e.false c.next-after.ensures c.alike.ensures (search rules)
