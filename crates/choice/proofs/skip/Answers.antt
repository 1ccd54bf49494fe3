use mathlib.Core.Path.{sym, ◌∙◌}
use native.Mathlib.Omega.{arith}
use Rattle.choice.proofs.Runs.{skip_none, skip_room, skip_under, skip_holes_pre, skip_holes}
use Rattle.choice.proofs.skip.Goals as goal

pub kind-requires : goal.kind-requires
kind-requires c = (skip_room c.requires).1

pub terms-requires : goal.terms-requires
terms-requires c = (c.requires, sym c.kind.ensures ∙ c.if-kind-eq-SEQUENCE.true)

pub overflow_add-p : goal.overflow_add-p
overflow_add-p c = omega (arith, skip_room c.requires)

pub kind-requires-2 : goal.kind-requires-2
kind-requires-2 c = skip_under c.kind.ensures c.if-kind-eq-SEQUENCE.false c.requires

pub overflow_add-p-then-kind-eq-SYMBOL : goal.overflow_add-p-then-kind-eq-SYMBOL
overflow_add-p-then-kind-eq-SYMBOL c = omega (arith, skip_room c.requires)

pub name-symbol-requires : goal.name-symbol-requires
name-symbol-requires c = skip_under c.kind.ensures c.if-kind-eq-SEQUENCE.false c.requires

pub holes-count-requires : goal.holes-count-requires
holes-count-requires c = skip_holes_pre c.kind.ensures c.if-kind-eq-SEQUENCE.false c.requires

pub overflow_add-row : goal.overflow_add-row
overflow_add-row c = omega (arith, skip_holes_pre c.kind.ensures c.if-kind-eq-SEQUENCE.false c.requires, c.holes-count.ensures.few, c.well_formed)

pub returns-then-kind-eq-SYMBOL : goal.returns-then-kind-eq-SYMBOL
returns-then-kind-eq-SYMBOL c = skip_holes c.kind.ensures c.if-kind-eq-SEQUENCE.false c.requires.fewer c.kind-2.ensures c.if-kind-eq-SYMBOL.true c.name-symbol.ensures c.holes-count.ensures

pub returns : goal.returns
returns c = skip_none
