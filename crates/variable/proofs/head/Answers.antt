use native.Mathlib.Omega.{arith}
use Rattle.variable.proofs.Singles.{symbol_same, symbol_differs, function_room, function_first, function_next, function_same, function_differs}
use Rattle.variable.proofs.head.Goals as goal

pub returns-then-x-at : goal.returns-then-x-at
returns-then-x-at c = symbol_same c.if-kind-eq-SYMBOL.true c.at.ensures.0 c.if-x-at.true

pub returns-then-kind-eq-SYMBOL : goal.returns-then-kind-eq-SYMBOL
returns-then-kind-eq-SYMBOL c = symbol_differs c.if-kind-eq-SYMBOL.true c.at.ensures.0 c.if-x-at.false

pub put-requires : goal.put-requires
put-requires c = omega (arith, function_room c.if-kind-eq-SYMBOL.false c.requires, c.if-x-n.true)

pub overflow_add-result : goal.overflow_add-result
overflow_add-result c = omega (arith, function_room c.if-kind-eq-SYMBOL.false c.requires, c.if-x-n.true, c.well_formed)

pub returns-then-x-n : goal.returns-then-x-n
returns-then-x-n c = function_first c.if-kind-eq-SYMBOL.false c.requires.row c.if-x-n.true c.put.ensures

pub overflow_add-x : goal.overflow_add-x
overflow_add-x c = omega (arith, function_room c.if-kind-eq-SYMBOL.false c.requires, c.well_formed)

pub at-requires-2 : goal.at-requires-2
at-requires-2 c = omega (arith, function_room c.if-kind-eq-SYMBOL.false c.requires)

pub at-requires-3 : goal.at-requires-3
at-requires-3 c = function_next c.if-kind-eq-SYMBOL.false c.if-x-n.false c.at-2.ensures.0 c.requires

pub returns-then-at : goal.returns-then-at
returns-then-at c = function_same c.if-kind-eq-SYMBOL.false c.if-x-n.false c.at-2.ensures.0 c.at-3.ensures.0 c.at-4.ensures.0 c.if-at.true

pub returns-else-at : goal.returns-else-at
returns-else-at c = function_differs c.if-kind-eq-SYMBOL.false c.if-x-n.false c.at-2.ensures.0 c.at-3.ensures.0 c.at-4.ensures.0 c.if-at.false
