use mathlib.Core.Path.{ap, ◌∙◌}
use native.Mathlib.Omega.{arith}
use Rattle.std.specs.Prelude.{Err}
use Rattle.paths.proofs.Read as paths
use Rattle.memory.proofs.Numbers.{blank}
use Rattle.levels.proofs.Tried.{try_long}
use Rattle.page.proofs.Reaching.{reach_first, reach_fails, reach_other, reach_found, reach_deep, reach_chooses, reach_beyond, reach_tries, reach_again}
use Rattle.page.proofs.reach.Goals as goal

pub loop-o-init : goal.loop-o-init
loop-o-init c = (reach_first c.requires c.begin-o.ensures, record { sequences = blank _ _ _ _ c.new-memory.ensures; contexts = paths.blank _ _ _ _ c.new-path.ensures })

pub returns-in-Err-Fail : goal.returns-in-Err-Fail
returns-in-Err-Fail c = reach_fails c.loop-o.invariant.0 (c.in-Err-Fail.is ∙ ap Err (rw c.in-Err-Fail.is at c.in-Err-Fail.field-0-is))

pub choose-requires : goal.choose-requires
choose-requires c = reach_chooses c.loop-o.invariant.0 (c.in-Err-Need.is ∙ ap Err (rw c.in-Err-Need.is at c.in-Err-Need.field-0-is)) c.requires.some.5

pub returns-in_err-t-in-Err-Need : goal.returns-in_err-t-in-Err-Need
returns-in_err-t-in-Err-Need c = rw c.from_residual.ensures (reach_beyond c.loop-o.invariant.0 (c.in-Err-Need.is ∙ ap Err (rw c.in-Err-Need.is at c.in-Err-Need.field-0-is)) c.in_err-t-in-Err-Need.ensures)

pub attempt-o-requires : goal.attempt-o-requires
attempt-o-requires c = (reach_tries c.loop-o.invariant.0 (c.in-Err-Need.is ∙ ap Err (rw c.in-Err-Need.is at c.in-Err-Need.field-0-is)) c.in_ok-t-in-Err-Need.ensures c.requires.some.5, c.loop-o.invariant.1)

pub overflow_add-depth : goal.overflow_add-depth
overflow_add-depth c = omega (arith, reach_deep c.loop-o.invariant.0 (c.in-Err-Need.is ∙ ap Err (rw c.in-Err-Need.is at c.in-Err-Need.field-0-is)) c.requires.some.5)

pub loop-o-smaller : goal.loop-o-smaller
loop-o-smaller c = omega (arith, reach_deep c.loop-o.invariant.0 (c.in-Err-Need.is ∙ ap Err (rw c.in-Err-Need.is at c.in-Err-Need.field-0-is)) c.requires.some.5)

pub loop-o-preserved : goal.loop-o-preserved
loop-o-preserved c = let o = c.in-Err-Need.is ∙ ap Err (rw c.in-Err-Need.is at c.in-Err-Need.field-0-is) in
    let post = c.in_ok-t-in-Err-Need.ensures in
    let pre = reach_tries c.loop-o.invariant.0 o post c.requires.some.5 in
    (reach_again c.loop-o.invariant.0 o post (try_long pre c.attempt-o.ensures.0 ∙ c.loop-o.invariant.0.record_long) c.attempt-o.ensures.0, c.attempt-o.ensures.1)

pub returns-then-equal : goal.returns-then-equal
returns-then-equal c = reach_found c.loop-o.invariant.0 c.in-Ok.is c.equal.ensures c.if-equal.true

pub returns-in-Ok : goal.returns-in-Ok
returns-in-Ok c = reach_other c.loop-o.invariant.0 c.in-Ok.is c.equal.ensures c.if-equal.false
