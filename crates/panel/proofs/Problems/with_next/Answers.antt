use Rattle.std.proofs.Common.{arith}
use Rattle.panel.proofs.Parts.{next_fits, reach_next}
use Rattle.panel.proofs.Problems.with_next.Goals as goal

pub overflow_add-rows : goal.overflow_add-rows
overflow_add-rows c = omega (arith, next_fits c.requires.rows)

pub overflow_add-expressions : goal.overflow_add-expressions
overflow_add-expressions c = omega (arith, next_fits c.requires.expression_rows_lem)

pub overflow_add-numbers : goal.overflow_add-numbers
overflow_add-numbers c = omega (arith, next_fits c.requires.numbers)

pub overflow_add-entries : goal.overflow_add-entries
overflow_add-entries c = omega (arith, next_fits c.requires.entries)

pub returns : goal.returns
returns c = reach_next c.requires
