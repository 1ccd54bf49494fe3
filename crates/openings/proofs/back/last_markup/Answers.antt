use native.Mathlib.Omega.{arith}
use Rattle.openings.proofs.LastTag.{scan_begins, less_before, scan_found, scan_more}
use Rattle.openings.proofs.back.last_markup.Goals as goal

pub loop-from-init : goal.loop-from-init
loop-from-init c = scan_begins _ _

pub overflow_sub-at : goal.overflow_sub-at
overflow_sub-at c = less_before c.loop-from.invariant c.requires

pub bounds-document-at : goal.bounds-document-at
bounds-document-at c = omega (arith, less_before c.loop-from.invariant c.requires, c.loop-from.invariant.within, c.requires.2.2.within)

pub returns-then-b-eq60 : goal.returns-then-b-eq60
returns-then-b-eq60 c = scan_found c.loop-from.invariant (less_before c.loop-from.invariant c.requires) c.if-b-eq60.true

pub loop-from-smaller : goal.loop-from-smaller
loop-from-smaller c = omega (arith, less_before c.loop-from.invariant c.requires)

pub loop-from-preserved : goal.loop-from-preserved
loop-from-preserved c =
    scan_more c.loop-from.invariant (less_before c.loop-from.invariant c.requires) c.if-b-eq60.false _ c.nearer-shut.ensures.0 c.nearer-shut.ensures.1
