use native.Mathlib.Omega.{arith}
use Rattle.std.proofs.lemmas.Result.{err_from_is_err_and}
use Rattle.walk.proofs.Arguments.{walking_first, list_ends, list_tree_left, a_turn, list_row, list_marks, list_tree_ends}
use Rattle.walk.proofs.Arguments.{at_sequence_turn, list_sequence_pre, list_sequence_before, list_sequence_fails, list_sequence_needs, list_sequence_goes}
use Rattle.walk.proofs.Arguments.{at_term_turn, list_term_within, list_term_pre, list_term_tree, list_term_halts, list_term_goes}
use Rattle.walk.proofs.Terms.{at_row, term_row, term_marks, term_tree, term_individual_pre, term_individual_is}
use Rattle.walk.proofs.Terms.{term_context_pre, term_under, term_under_tree, term_context_fails, term_context_needs, term_under_pre, term_under_is}
use Rattle.walk.proofs.Terms.{term_head_pre, term_head_fails, term_inside_pre, term_inside_is}
use Rattle.walk.proofs.Views.{ok_or_err, ok_or_ok}
use Rattle.walk.proofs.+args_term.Goals as goal

pub args-loop-q-init : goal.args-loop-q-init
args-loop-q-init t c = walking_first

pub args-kind-requires : goal.args-kind-requires
args-kind-requires t c = (list_row (a_turn c.requires c.loop-q.invariant c.loop-q-test.true)).room

pub args-name-x-requires : goal.args-name-x-requires
args-name-x-requires t c = (list_row (a_turn c.requires c.loop-q.invariant c.loop-q-test.true)).room

pub args-sequence-requires : goal.args-sequence-requires
args-sequence-requires t c = list_sequence_pre (at_sequence_turn (a_turn c.requires c.loop-q.invariant c.loop-q-test.true) c.kind.ensures c.if-kind-eq-SEQUENCE.true c.name-x.ensures)

pub args-returns-in-Fail : goal.args-returns-in-Fail
args-returns-in-Fail t c = list_sequence_fails (at_sequence_turn (a_turn c.requires c.loop-q.invariant c.loop-q-test.true) c.kind.ensures c.if-kind-eq-SEQUENCE.true c.name-x.ensures) c.sequence.ensures c.in-Fail.is

pub args-come-requires : goal.args-come-requires
args-come-requires t c = list_marks (a_turn c.requires c.loop-q.invariant c.loop-q-test.true)

pub args-returns-in-Need : goal.args-returns-in-Need
args-returns-in-Need t c = list_sequence_needs (at_sequence_turn (a_turn c.requires c.loop-q.invariant c.loop-q-test.true) c.kind.ensures c.if-kind-eq-SEQUENCE.true c.name-x.ensures) c.sequence.ensures c.in-Need.is c.come.ensures

pub args-overflow_add-q : goal.args-overflow_add-q
args-overflow_add-q t c = omega (arith, list_sequence_before (at_sequence_turn (a_turn c.requires c.loop-q.invariant c.loop-q-test.true) c.kind.ensures c.if-kind-eq-SEQUENCE.true c.name-x.ensures), c.well_formed)

pub args-loop-q-smaller-in-Go : goal.args-loop-q-smaller-in-Go
args-loop-q-smaller-in-Go t c = omega (arith, list_sequence_before (at_sequence_turn (a_turn c.requires c.loop-q.invariant c.loop-q-test.true) c.kind.ensures c.if-kind-eq-SEQUENCE.true c.name-x.ensures))

pub args-loop-q-preserved-in-Go : goal.args-loop-q-preserved-in-Go
args-loop-q-preserved-in-Go t c = list_sequence_goes (at_sequence_turn (a_turn c.requires c.loop-q.invariant c.loop-q-test.true) c.kind.ensures c.if-kind-eq-SEQUENCE.true c.name-x.ensures) c.sequence.ensures c.in-Go.is

pub args-returns-then-u-te : goal.args-returns-then-u-te
args-returns-then-u-te t c = list_tree_ends (a_turn c.requires c.loop-q.invariant c.loop-q-test.true) (omega arith) c.if-u-te.true

pub args-term-requires : goal.args-term-requires
args-term-requires t c = (
  omega (arith, c.decreases, list_term_within (at_term_turn (a_turn c.requires c.loop-q.invariant c.loop-q-test.true) c.kind.ensures c.if-kind-eq-SEQUENCE.false c.if-u-te.false), c.loop-q.invariant.later, c.loop-q.invariant.further),
  list_term_pre (at_term_turn (a_turn c.requires c.loop-q.invariant c.loop-q-test.true) c.kind.ensures c.if-kind-eq-SEQUENCE.false c.if-u-te.false),
)

pub args-returns-in_err-m : goal.args-returns-in_err-m
args-returns-in_err-m t c = let p = err_from_is_err_and c.from_residual.result c.from_residual.ensures.1 in
    rw (p.1, p.2) (list_term_halts (at_term_turn (a_turn c.requires c.loop-q.invariant c.loop-q-test.true) c.kind.ensures c.if-kind-eq-SEQUENCE.false c.if-u-te.false) c.in_err-m.ensures)

pub args-next-q-requires : goal.args-next-q-requires
args-next-q-requires t c = (list_row (a_turn c.requires c.loop-q.invariant c.loop-q-test.true)).room

pub args-next-u-requires : goal.args-next-u-requires
args-next-u-requires t c = list_term_tree (at_term_turn (a_turn c.requires c.loop-q.invariant c.loop-q-test.true) c.kind.ensures c.if-kind-eq-SEQUENCE.false c.if-u-te.false)

pub args-loop-q-smaller : goal.args-loop-q-smaller
args-loop-q-smaller t c = omega (arith, list_term_within (at_term_turn (a_turn c.requires c.loop-q.invariant c.loop-q-test.true) c.kind.ensures c.if-kind-eq-SEQUENCE.false c.if-u-te.false), c.next-q.ensures)

pub args-loop-q-preserved : goal.args-loop-q-preserved
args-loop-q-preserved t c = list_term_goes (at_term_turn (a_turn c.requires c.loop-q.invariant c.loop-q-test.true) c.kind.ensures c.if-kind-eq-SEQUENCE.false c.if-u-te.false) c.in_ok-m.ensures c.next-q.ensures c.next-u.ensures

pub args-returns-then-u-te-2 : goal.args-returns-then-u-te-2
args-returns-then-u-te-2 t c = list_ends c.loop-q.invariant c.loop-q-test.false c.if-u-te-2.true

pub args-returns : goal.args-returns
args-returns t c = list_tree_left c.loop-q.invariant c.loop-q-test.false c.if-u-te-2.false

pub term-come-requires : goal.term-come-requires
term-come-requires t c = term_marks c.requires

pub term-kind-k-requires : goal.term-kind-k-requires
term-kind-k-requires t c = (term_row c.requires).room

pub term-name-x-requires : goal.term-name-x-requires
term-name-x-requires t c = (term_row c.requires).room

pub term-individual-requires : goal.term-individual-requires
term-individual-requires t c = term_individual_pre (at_row c.requires c.come.ensures c.kind-k.ensures c.name-x.ensures) c.if-k-eq-INDIVIDUAL.true

pub term-returns-then-k-eq-INDIVIDUAL : goal.term-returns-then-k-eq-INDIVIDUAL
term-returns-then-k-eq-INDIVIDUAL t c = rw c.ok_or.ensures.value (term_individual_is (at_row c.requires c.come.ensures c.kind-k.ensures c.name-x.ensures) c.if-k-eq-INDIVIDUAL.true c.individual.ensures)

pub term-context-requires : goal.term-context-requires
term-context-requires t c = term_context_pre (at_row c.requires c.come.ensures c.kind-k.ensures c.name-x.ensures) c.if-k-eq-CONTEXT.true

pub term-overflow_add-p : goal.term-overflow_add-p
term-overflow_add-p t c = omega (arith, term_marks c.requires)

pub term-term-requires : goal.term-term-requires
term-term-requires t c = (
  omega (arith, c.decreases, term_under (at_row c.requires c.come.ensures c.kind-k.ensures c.name-x.ensures) c.if-k-eq-CONTEXT.true, term_under_tree (at_row c.requires c.come.ensures c.kind-k.ensures c.name-x.ensures) c.if-k-eq-CONTEXT.true c.context.ensures c.in-Go.is),
  term_under_pre (at_row c.requires c.come.ensures c.kind-k.ensures c.name-x.ensures) c.if-k-eq-CONTEXT.true c.context.ensures c.in-Go.is,
)

pub term-returns-in-Fail : goal.term-returns-in-Fail
term-returns-in-Fail t c = term_context_fails (at_row c.requires c.come.ensures c.kind-k.ensures c.name-x.ensures) c.if-k-eq-CONTEXT.true c.context.ensures c.in-Fail.is

pub term-returns-in-Need : goal.term-returns-in-Need
term-returns-in-Need t c = term_context_needs (at_row c.requires c.come.ensures c.kind-k.ensures c.name-x.ensures) c.if-k-eq-CONTEXT.true c.context.ensures c.in-Need.is

pub term-returns-in-Go : goal.term-returns-in-Go
term-returns-in-Go t c = term_under_is (at_row c.requires c.come.ensures c.kind-k.ensures c.name-x.ensures) c.if-k-eq-CONTEXT.true c.context.ensures c.in-Go.is c.term.ensures

pub term-head-requires : goal.term-head-requires
term-head-requires t c = term_head_pre (at_row c.requires c.come.ensures c.kind-k.ensures c.name-x.ensures) c.if-k-eq-INDIVIDUAL.false c.if-k-eq-CONTEXT.false

pub term-returns-in_err-m : goal.term-returns-in_err-m
term-returns-in_err-m t c = let p = err_from_is_err_and c.from_residual.result c.from_residual.ensures.1 in
    let o = ok_or_err c.head.result c.ok_or-2.ensures.value c.in_err-m.was in
    rw (p.1, p.2, o.1) (term_head_fails (at_row c.requires c.come.ensures c.kind-k.ensures c.name-x.ensures) c.if-k-eq-INDIVIDUAL.false c.if-k-eq-CONTEXT.false c.head.ensures o.0)

pub term-args-requires : goal.term-args-requires
term-args-requires t c = let o = ok_or_ok c.head.result c.ok_or-2.ensures.value c.in_ok-m.was in (
  omega (arith, c.decreases, term_row c.requires, (term_tree c.requires).positive, c.next.ensures, c.next-2.ensures),
  term_inside_pre (at_row c.requires c.come.ensures c.kind-k.ensures c.name-x.ensures) c.if-k-eq-INDIVIDUAL.false c.if-k-eq-CONTEXT.false c.head.ensures o c.next.ensures c.next-2.ensures,
)

pub term-returns : goal.term-returns
term-returns t c = term_inside_is (at_row c.requires c.come.ensures c.kind-k.ensures c.name-x.ensures) c.if-k-eq-INDIVIDUAL.false c.if-k-eq-CONTEXT.false c.head.ensures (ok_or_ok c.head.result c.ok_or-2.ensures.value c.in_ok-m.was) c.next.ensures c.next-2.ensures c.args-2.ensures
