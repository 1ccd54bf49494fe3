use mathlib.Core.Path.{refl}
use native.Mathlib.Omega.{arith}
use Rattle.choice.proofs.Runs.{skip_none, skip_room, skip_holder, skip_whole_pre, skip_whole, skip_next, skip_neighbours_pre, skip_neighbours}
use Rattle.choice.proofs.terms.Goals as goal

pub holder-h-requires : goal.holder-h-requires
holder-h-requires c = (skip_room c.requires.0).1

pub overflow_add-p : goal.overflow_add-p
overflow_add-p c = omega (arith, skip_room c.requires.0)

pub next-requires : goal.next-requires
next-requires c = (skip_holder refl c.requires.1 c.holder-h.ensures c.requires.0).1

pub whole-requires : goal.whole-requires
whole-requires c = skip_whole_pre refl c.requires.1 c.holder-h.ensures c.requires.0

pub returns-then-p-next : goal.returns-then-p-next
returns-then-p-next c = skip_whole refl c.requires.1 c.holder-h.ensures c.next.ensures c.if-p-next.true c.requires.0.fewer c.whole.ensures

pub overflow_add-p-2 : goal.overflow_add-p-2
overflow_add-p-2 c = omega (arith, skip_room c.requires.0)

pub kind-requires : goal.kind-requires
kind-requires c = skip_next refl c.requires.1 c.holder-h.ensures c.next.ensures c.if-p-next.false c.requires.0

pub overflow_add-p-then-kind-eq-SYMBOL : goal.overflow_add-p-then-kind-eq-SYMBOL
overflow_add-p-then-kind-eq-SYMBOL c = omega (arith, skip_room c.requires.0)

pub name-symbol-requires : goal.name-symbol-requires
name-symbol-requires c = skip_next refl c.requires.1 c.holder-h.ensures c.next.ensures c.if-p-next.false c.requires.0

pub neighbours-requires : goal.neighbours-requires
neighbours-requires c = skip_neighbours_pre refl c.requires.1 c.holder-h.ensures c.next.ensures c.if-p-next.false c.requires.0

pub returns-then-kind-eq-SYMBOL : goal.returns-then-kind-eq-SYMBOL
returns-then-kind-eq-SYMBOL c = skip_neighbours refl c.requires.1 c.holder-h.ensures c.next.ensures c.if-p-next.false c.requires.0.fewer c.kind.ensures c.if-kind-eq-SYMBOL.true c.name-symbol.ensures c.neighbours.ensures

pub returns : goal.returns
returns c = skip_none
