use Rattle.instance.proofs.Rows.{adds_symbol, adds_function_row, reads_variable, individual_row, adds_individual_row, past_row, sequence_row, adds_sequence_row, context_row, adds_context_row}
use native.Mathlib.Omega.{arith}
use Rattle.instance.proofs.counting.row_adds.Goals as goal

pub returns-then-k-eq-SYMBOL : goal.returns-then-k-eq-SYMBOL
returns-then-k-eq-SYMBOL c = adds_symbol c.if-k-eq-SYMBOL.true

pub returns-then-k-eq-FUNCTION : goal.returns-then-k-eq-FUNCTION
returns-then-k-eq-FUNCTION c = adds_function_row c.if-k-eq-FUNCTION.true

pub at-first-requires : goal.at-first-requires
at-first-requires c = omega (arith, c.at-variable.ensures, (reads_variable c.requires c.if-k-eq-SYMBOL.false).1)

pub at-requires : goal.at-requires
at-requires c = rw (rw c.at-variable.ensures.0 at c.at-first.ensures.0) (individual_row c.requires c.if-k-eq-INDIVIDUAL.true)

pub returns-then-k-eq-INDIVIDUAL : goal.returns-then-k-eq-INDIVIDUAL
returns-then-k-eq-INDIVIDUAL c = let first = rw c.at-variable.ensures.0 at c.at-first.ensures.0 in
    rw (rw first at c.at.ensures.0) (adds_individual_row c.requires c.if-k-eq-INDIVIDUAL.true)

pub at-second-requires : goal.at-second-requires
at-second-requires c = omega (arith, c.at-variable.ensures, (reads_variable c.requires c.if-k-eq-SYMBOL.false).1)

pub past-requires : goal.past-requires
past-requires c = let first = rw c.at-variable.ensures.0 at c.at-first.ensures.0 in
    let second = rw c.at-variable.ensures.0 at c.at-second.ensures.0 in
    rw (first, second) (past_row c.requires c.if-k-eq-SEQUENCE.true)

pub overflow_sub-result : goal.overflow_sub-result
overflow_sub-result c = let first = rw c.at-variable.ensures.0 at c.at-first.ensures.0 in
    let second = rw c.at-variable.ensures.0 at c.at-second.ensures.0 in
    rw first (sequence_row c.requires c.if-k-eq-SEQUENCE.true (rw (first, second) at c.past.ensures))

pub returns-then-k-eq-SEQUENCE : goal.returns-then-k-eq-SEQUENCE
returns-then-k-eq-SEQUENCE c = let first = rw c.at-variable.ensures.0 at c.at-first.ensures.0 in
    let second = rw c.at-variable.ensures.0 at c.at-second.ensures.0 in
    rw first (adds_sequence_row c.requires c.if-k-eq-SEQUENCE.true (rw (first, second) at c.past.ensures))

pub at-requires-2 : goal.at-requires-2
at-requires-2 c = rw (rw c.at-variable.ensures.0 at c.at-first.ensures.0) (context_row c.requires c.if-k-eq-SYMBOL.false c.if-k-eq-INDIVIDUAL.false c.if-k-eq-SEQUENCE.false c.if-k-eq-FUNCTION.false).0

pub at-requires-3 : goal.at-requires-3
at-requires-3 c = rw (rw c.at-variable.ensures.0 at c.at-second.ensures.0) (context_row c.requires c.if-k-eq-SYMBOL.false c.if-k-eq-INDIVIDUAL.false c.if-k-eq-SEQUENCE.false c.if-k-eq-FUNCTION.false).1

pub overflow_sub-result-2 : goal.overflow_sub-result-2
overflow_sub-result-2 c = let first = rw (rw c.at-variable.ensures.0 at c.at-first.ensures.0) at c.at-2.ensures.0 in
    let second = rw (rw c.at-variable.ensures.0 at c.at-second.ensures.0) at c.at-3.ensures.0 in
    rw (first, second) (context_row c.requires c.if-k-eq-SYMBOL.false c.if-k-eq-INDIVIDUAL.false c.if-k-eq-SEQUENCE.false c.if-k-eq-FUNCTION.false).2

pub returns : goal.returns
returns c = let first = rw (rw c.at-variable.ensures.0 at c.at-first.ensures.0) at c.at-2.ensures.0 in
    let second = rw (rw c.at-variable.ensures.0 at c.at-second.ensures.0) at c.at-3.ensures.0 in
    rw (first, second) (adds_context_row c.requires c.if-k-eq-SYMBOL.false c.if-k-eq-INDIVIDUAL.false c.if-k-eq-SEQUENCE.false c.if-k-eq-FUNCTION.false)
