use Rattle.instance.proofs.Pieces.{symbol_made, function_fits, function_made}
use native.Mathlib.Omega.{arith}
use mathlib.Core.Path.{refl}
use Rattle.instance.proofs.value.head.Goals as goal

pub returns-then-pattern-row-eq-SYMBOL : goal.returns-then-pattern-row-eq-SYMBOL
returns-then-pattern-row-eq-SYMBOL c = symbol_made c.if-pattern-row-eq-SYMBOL.true refl refl

pub at-place-requires : goal.at-place-requires
at-place-requires c = omega (arith, (function_fits c.requires c.if-pattern-row-eq-SYMBOL.false).1)

pub bounds-label-place : goal.bounds-label-place
bounds-label-place c = rw c.at-place.ensures.0 (function_fits c.requires c.if-pattern-row-eq-SYMBOL.false).2

pub returns : goal.returns
returns c = function_made c.if-pattern-row-eq-SYMBOL.false (rw c.at-place.ensures.0) refl
