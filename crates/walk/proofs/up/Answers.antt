use native.Mathlib.Omega.{arith}
use Rattle.std.proofs.lemmas.Result.{err_from_is_err_and}
use Rattle.walk.proofs.Ups.{up_ends, a_below, up_holding, up_context, up_row, up_list_pre, up_halts, up_goes}
use Rattle.walk.proofs.up.Goals as goal

pub holder-h-requires : goal.holder-h-requires
holder-h-requires c = (up_holding (a_below c.requires c.loop-q.invariant c.loop-q-test.true)).room

pub kind-requires : goal.kind-requires
kind-requires c = omega (arith, up_holding (a_below c.requires c.loop-q.invariant c.loop-q-test.true), c.holder-h.ensures)

pub loop-q-smaller-then-kind-eq-CONTEXT : goal.loop-q-smaller-then-kind-eq-CONTEXT
loop-q-smaller-then-kind-eq-CONTEXT c = omega (arith, up_holding (a_below c.requires c.loop-q.invariant c.loop-q-test.true), c.holder-h.ensures)

pub loop-q-preserved-then-kind-eq-CONTEXT : goal.loop-q-preserved-then-kind-eq-CONTEXT
loop-q-preserved-then-kind-eq-CONTEXT c = up_context (a_below c.requires c.loop-q.invariant c.loop-q-test.true) c.holder-h.ensures (omega (arith, c.kind.ensures, c.if-kind-eq-CONTEXT.true))

pub row-t-requires : goal.row-t-requires
row-t-requires c = (up_holding (a_below c.requires c.loop-q.invariant c.loop-q-test.true)).few

pub row-g-requires : goal.row-g-requires
row-g-requires c = (up_row (a_below c.requires c.loop-q.invariant c.loop-q-test.true) c.holder-h.ensures (omega (arith, c.kind.ensures, c.if-kind-eq-CONTEXT.false))).1

pub next-requires : goal.next-requires
next-requires c = (up_holding (a_below c.requires c.loop-q.invariant c.loop-q-test.true)).room

pub next-requires-else-kind-eq-CONTEXT : goal.next-requires-else-kind-eq-CONTEXT
next-requires-else-kind-eq-CONTEXT c = (up_row (a_below c.requires c.loop-q.invariant c.loop-q-test.true) c.holder-h.ensures (omega (arith, c.kind.ensures, c.if-kind-eq-CONTEXT.false))).2

pub next-requires-else-kind-eq-CONTEXT-2 : goal.next-requires-else-kind-eq-CONTEXT-2
next-requires-else-kind-eq-CONTEXT-2 c = omega (arith, up_holding (a_below c.requires c.loop-q.invariant c.loop-q-test.true), c.row-t.ensures)

pub next-requires-else-kind-eq-CONTEXT-3 : goal.next-requires-else-kind-eq-CONTEXT-3
next-requires-else-kind-eq-CONTEXT-3 c = omega (arith, up_row (a_below c.requires c.loop-q.invariant c.loop-q-test.true) c.holder-h.ensures (omega (arith, c.kind.ensures, c.if-kind-eq-CONTEXT.false)), c.row-g.ensures)

pub args-requires : goal.args-requires
args-requires c = up_list_pre (a_below c.requires c.loop-q.invariant c.loop-q-test.true) c.holder-h.ensures (omega (arith, c.kind.ensures, c.if-kind-eq-CONTEXT.false)) c.next.ensures c.next-else-kind-eq-CONTEXT.ensures c.row-t.ensures c.next-else-kind-eq-CONTEXT-2.ensures c.row-g.ensures c.next-else-kind-eq-CONTEXT-3.ensures

pub returns-in_err-m : goal.returns-in_err-m
returns-in_err-m c = let p = err_from_is_err_and c.from_residual.result c.from_residual.ensures.1 in
    rw (p.1, p.2) (up_halts (a_below c.requires c.loop-q.invariant c.loop-q-test.true) c.holder-h.ensures (omega (arith, c.kind.ensures, c.if-kind-eq-CONTEXT.false)) c.next.ensures c.next-else-kind-eq-CONTEXT.ensures c.row-t.ensures c.next-else-kind-eq-CONTEXT-2.ensures c.row-g.ensures c.next-else-kind-eq-CONTEXT-3.ensures c.in_err-m.ensures)

pub loop-q-smaller : goal.loop-q-smaller
loop-q-smaller c = omega (arith, up_holding (a_below c.requires c.loop-q.invariant c.loop-q-test.true), c.holder-h.ensures)

pub loop-q-preserved : goal.loop-q-preserved
loop-q-preserved c = up_goes (a_below c.requires c.loop-q.invariant c.loop-q-test.true) c.holder-h.ensures (omega (arith, c.kind.ensures, c.if-kind-eq-CONTEXT.false)) c.next.ensures c.next-else-kind-eq-CONTEXT.ensures c.row-t.ensures c.next-else-kind-eq-CONTEXT-2.ensures c.row-g.ensures c.next-else-kind-eq-CONTEXT-3.ensures c.in_ok-m.ensures

pub returns : goal.returns
returns c = up_ends c.loop-q.invariant c.loop-q-test.false
