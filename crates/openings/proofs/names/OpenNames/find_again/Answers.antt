use Rattle.std.proofs.Common.{refl, arith}
use Rattle.openings.proofs.OpenNames.{again_begins, level_some, again_some, again_on, again_found}
use Rattle.openings.proofs.names.OpenNames.find_again.Goals as goal

pub loop-k-init : goal.loop-k-init
loop-k-init c = again_begins c.requires

pub innermost_before-at-requires : goal.innermost_before-at-requires
innermost_before-at-requires c = again_some c.loop-k.invariant c.loop-k-test.true c.requires

pub overflow_sub-level : goal.overflow_sub-level
overflow_sub-level c = level_some c.loop-k.invariant c.loop-k-test.true c.requires

pub overflow_add-self : goal.overflow_add-self
overflow_add-self c =
    let some = again_some c.loop-k.invariant c.loop-k-test.true c.requires in
    omega (arith, (c.innermost_before-at.ensures some.0 some.1 some.2).0, c.loop-k.invariant.low)

pub overflow_cast-self : goal.overflow_cast-self
overflow_cast-self c =
    let some = again_some c.loop-k.invariant c.loop-k-test.true c.requires in
    omega (arith, (c.innermost_before-at.ensures some.0 some.1 some.2).0, c.loop-k.invariant.low)

pub loop-k-preserved : goal.loop-k-preserved
loop-k-preserved c = again_on c.loop-k.invariant c.loop-k-test.true c.requires c.innermost_before-at.ensures

pub returns : goal.returns
returns c = (again_found c.loop-k.invariant c.loop-k-test.false, refl)
