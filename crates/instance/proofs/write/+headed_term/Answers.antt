use Rattle.std.proofs.Common.{arith}
use Rattle.instance.proofs.Cycle.{individual_pre, individual_post, filling_pre, under_falls, under_pre, context_pre, context_post}
use Rattle.instance.proofs.Cycle.{below_pre, head_pre, head_post, writing_first, writing_done}
use Rattle.instance.proofs.Cycle.{sequence_pre, writing_sequence, first_pre, first_falls, writing_term}
use Rattle.instance.proofs.Glue.{term_row, list_row}
use Rattle.instance.proofs.write.+headed_term.Goals as goal

pub headed-bounds-pattern-row : goal.headed-bounds-pattern-row
headed-bounds-pattern-row t c = (term_row c.requires.pre.some.4).2

pub headed-overflow_add-p : goal.headed-overflow_add-p
headed-overflow_add-p t c = omega (arith, c.well_formed, (term_row c.requires.pre.some.4).0)

pub headed-loop-p-init : goal.headed-loop-p-init
headed-loop-p-init t c = writing_first (below_pre c.requires)

pub headed-offset_bounds-pattern-p : goal.headed-offset_bounds-pattern-p
headed-offset_bounds-pattern-p t c = omega (arith, c.well_formed, (list_row c.loop-p.invariant.left.some.4 c.loop-p-test.true).1)

pub headed-bounds-pattern-p : goal.headed-bounds-pattern-p
headed-bounds-pattern-p t c = (list_row c.loop-p.invariant.left.some.4 c.loop-p-test.true).1

pub headed-bounds-pattern-p-then-pattern-p-eq-SEQUENCE : goal.headed-bounds-pattern-p-then-pattern-p-eq-SEQUENCE
headed-bounds-pattern-p-then-pattern-p-eq-SEQUENCE t c = (list_row c.loop-p.invariant.left.some.4 c.loop-p-test.true).2

pub headed-sequence-end-requires : goal.headed-sequence-end-requires
headed-sequence-end-requires t c = sequence_pre (record { pre = c.loop-p.invariant.left; more = c.loop-p-test.true; kind = c.if-pattern-p-eq-SEQUENCE.true })

pub headed-loop-p-smaller-then-pattern-p-eq-SEQUENCE : goal.headed-loop-p-smaller-then-pattern-p-eq-SEQUENCE
headed-loop-p-smaller-then-pattern-p-eq-SEQUENCE t c = omega (arith, (list_row c.loop-p.invariant.left.some.4 c.loop-p-test.true).0)

pub headed-loop-p-preserved-then-pattern-p-eq-SEQUENCE : goal.headed-loop-p-preserved-then-pattern-p-eq-SEQUENCE
headed-loop-p-preserved-then-pattern-p-eq-SEQUENCE t c = writing_sequence c.loop-p.invariant c.sequence-end.auto.out_label c.sequence-end.auto.out_size
    (record { pre = c.loop-p.invariant.left; more = c.loop-p-test.true; kind = c.if-pattern-p-eq-SEQUENCE.true }) c.sequence-end.ensures

pub headed-term-end-requires : goal.headed-term-end-requires
headed-term-end-requires t c = (
  omega (arith, c.decreases, c.loop-p.invariant.later, first_falls (record { pre = c.loop-p.invariant.left; more = c.loop-p-test.true; kind = c.if-pattern-p-eq-SEQUENCE.false })),
  first_pre (record { pre = c.loop-p.invariant.left; more = c.loop-p-test.true; kind = c.if-pattern-p-eq-SEQUENCE.false }),
)

pub headed-offset_bounds-pattern-p-else-pattern-p-eq-SEQUENCE : goal.headed-offset_bounds-pattern-p-else-pattern-p-eq-SEQUENCE
headed-offset_bounds-pattern-p-else-pattern-p-eq-SEQUENCE t c = omega (arith, c.well_formed, (list_row c.loop-p.invariant.left.some.4 c.loop-p-test.true).3)

pub headed-bounds-pattern-p-else-pattern-p-eq-SEQUENCE : goal.headed-bounds-pattern-p-else-pattern-p-eq-SEQUENCE
headed-bounds-pattern-p-else-pattern-p-eq-SEQUENCE t c = (list_row c.loop-p.invariant.left.some.4 c.loop-p-test.true).3

pub headed-loop-p-smaller : goal.headed-loop-p-smaller
headed-loop-p-smaller t c = omega (arith, first_falls (record { pre = c.loop-p.invariant.left; more = c.loop-p-test.true; kind = c.if-pattern-p-eq-SEQUENCE.false }))

pub headed-loop-p-preserved : goal.headed-loop-p-preserved
headed-loop-p-preserved t c = writing_term c.loop-p.invariant c.term-end.auto.out_label c.term-end.auto.out_size
    (record { pre = c.loop-p.invariant.left; more = c.loop-p-test.true; kind = c.if-pattern-p-eq-SEQUENCE.false }) c.term-end.ensures

pub headed-head-requires : goal.headed-head-requires
headed-head-requires t c = head_pre c.requires (writing_done c.loop-p.invariant c.loop-p-test.false) c.loop-p.invariant.labelled c.loop-p.invariant.sized

pub headed-returns : goal.headed-returns
headed-returns t c = head_post c.requires (writing_done c.loop-p.invariant c.loop-p-test.false) c.head.ensures

pub term-bounds-pattern-row : goal.term-bounds-pattern-row
term-bounds-pattern-row t c = (term_row c.requires.some.4).0

pub term-bounds-pattern-row-then-k-eq-INDIVIDUAL : goal.term-bounds-pattern-row-then-k-eq-INDIVIDUAL
term-bounds-pattern-row-then-k-eq-INDIVIDUAL t c = (term_row c.requires.some.4).1

pub term-individual-requires : goal.term-individual-requires
term-individual-requires t c = individual_pre c.if-k-eq-INDIVIDUAL.true c.requires

pub term-returns-then-k-eq-INDIVIDUAL : goal.term-returns-then-k-eq-INDIVIDUAL
term-returns-then-k-eq-INDIVIDUAL t c = individual_post c.if-k-eq-INDIVIDUAL.true c.individual.ensures

pub term-bounds-pattern-row-then-k-eq-CONTEXT : goal.term-bounds-pattern-row-then-k-eq-CONTEXT
term-bounds-pattern-row-then-k-eq-CONTEXT t c = (term_row c.requires.some.4).1

pub term-filling-first-requires : goal.term-filling-first-requires
term-filling-first-requires t c = filling_pre (record { pre = c.requires; kind = c.if-k-eq-CONTEXT.true }) (omega (arith, c.well_formed))

pub term-term-end-requires : goal.term-term-end-requires
term-term-end-requires t c = (
  omega (arith, c.decreases, under_falls (record { pre = c.requires; kind = c.if-k-eq-CONTEXT.true })),
  under_pre (record { pre = c.requires; kind = c.if-k-eq-CONTEXT.true }) c.filling-first.ensures,
)

pub term-context-requires : goal.term-context-requires
term-context-requires t c = context_pre (record { pre = c.requires; kind = c.if-k-eq-CONTEXT.true }) c.filling-first.ensures c.term-end.ensures c.term-end.auto.out_label c.term-end.auto.out_size

pub term-returns-then-k-eq-CONTEXT : goal.term-returns-then-k-eq-CONTEXT
term-returns-then-k-eq-CONTEXT t c = context_post (record { pre = c.requires; kind = c.if-k-eq-CONTEXT.true }) c.filling-first.ensures c.term-end.ensures c.context.ensures

pub term-headed-requires : goal.term-headed-requires
term-headed-requires t c = (
  omega (arith, c.decreases),
  record { pre = c.requires; not_individual = c.if-k-eq-INDIVIDUAL.false; not_context = c.if-k-eq-CONTEXT.false },
)
