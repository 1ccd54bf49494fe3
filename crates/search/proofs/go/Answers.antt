use mathlib.Core.Path.{ap, ◌∙◌}
use native.Mathlib.Omega.{arith}
use Rattle.std.specs.Prelude.{Err}
use Rattle.paths.proofs.Read as paths
use Rattle.memory.proofs.Numbers.{blank}
use Rattle.levels.proofs.Columns.{columns_long}
use Rattle.search.proofs.Standing.{next_pre, charged, attempt_pre, tried, deeper_pre, entered}
use Rattle.search.proofs.Turns.{tried_fail, need_fits, tried_full, put_asked, tried_match, tried_counted}
use Rattle.search.proofs.Turns.{going_start, going_depth, going_long, going_back, going_end, going_ready, going_spent}
use Rattle.search.proofs.go.Goals as goal

pub loop-depth-init : goal.loop-depth-init
loop-depth-init c = (going_start (columns_long c.args.levels.now c.requires.1) c.requires.0, record { sequences = blank _ _ _ _ c.new-memory.ensures; contexts = paths.blank _ _ _ _ c.new-path.ensures }, c.requires.1)

pub back-depth-requires : goal.back-depth-requires
back-depth-requires c = (going_depth c.loop-depth.invariant.0 c.requires.0, c.loop-depth.invariant.2)

pub returns-then-depth-eq0 : goal.returns-then-depth-eq0
returns-then-depth-eq0 c = rw (c.ended.ensures.0, c.ended.ensures.1, c.ended.ensures.2) (going_end (going_back c.loop-depth.invariant.0 c.back-depth.ensures) c.if-depth-eq0.true)

pub returns-then-tries-budget : goal.returns-then-tries-budget
returns-then-tries-budget c = rw (c.ended-then-tries-budget.ensures.0, c.ended-then-tries-budget.ensures.1, c.ended-then-tries-budget.ensures.2) (going_spent (going_ready c.loop-depth.invariant.0 c.back-depth.ensures c.if-depth-eq0.false) c.if-tries-budget.true)

pub next_try-t-requires : goal.next_try-t-requires
next_try-t-requires c = next_pre (going_ready c.loop-depth.invariant.0 c.back-depth.ensures c.if-depth-eq0.false) c.requires.0 c.loop-depth.invariant.2 c.if-tries-budget.false

pub overflow_add-tries : goal.overflow_add-tries
overflow_add-tries c = omega (arith, charged (going_ready c.loop-depth.invariant.0 c.back-depth.ensures c.if-depth-eq0.false) c.requires.0 c.loop-depth.invariant.2 c.next_try-t.ensures, c.requires.2)

pub attempt-requires : goal.attempt-requires
attempt-requires c = (attempt_pre (going_ready c.loop-depth.invariant.0 c.back-depth.ensures c.if-depth-eq0.false) c.requires.0 c.loop-depth.invariant.2 c.next_try-t.ensures, c.loop-depth.invariant.1)

pub loop-depth-preserved-in-Err-Fail : goal.loop-depth-preserved-in-Err-Fail
loop-depth-preserved-in-Err-Fail c = (tried_fail (tried (going_ready c.loop-depth.invariant.0 c.back-depth.ensures c.if-depth-eq0.false) c.requires.0 c.loop-depth.invariant.2 c.next_try-t.ensures c.attempt.ensures.0) (c.in-Err-Fail.is ∙ ap Err c.in-Err-Fail.field-0-is), c.attempt.ensures.1, c.next_try-t.ensures.moved.long ∙ c.loop-depth.invariant.2)

pub deeper-requires : goal.deeper-requires
deeper-requires c = deeper_pre (going_ready c.loop-depth.invariant.0 c.back-depth.ensures c.if-depth-eq0.false) c.requires.0 c.loop-depth.invariant.2 c.next_try-t.ensures c.attempt.ensures.0 (c.in-Err-Need.is ∙ ap Err c.in-Err-Need.field-0-is)

pub overflow_add-depth : goal.overflow_add-depth
overflow_add-depth c = omega (arith, need_fits (tried (going_ready c.loop-depth.invariant.0 c.back-depth.ensures c.if-depth-eq0.false) c.requires.0 c.loop-depth.invariant.2 c.next_try-t.ensures c.attempt.ensures.0) (c.in-Err-Need.is ∙ ap Err c.in-Err-Need.field-0-is) c.requires.0)

pub loop-depth-preserved-in-Err-Need : goal.loop-depth-preserved-in-Err-Need
loop-depth-preserved-in-Err-Need c = (
  entered (going_ready c.loop-depth.invariant.0 c.back-depth.ensures c.if-depth-eq0.false) c.requires.0 c.loop-depth.invariant.2 c.next_try-t.ensures c.attempt.ensures.0 (c.in-Err-Need.is ∙ ap Err c.in-Err-Need.field-0-is) c.deeper.ensures,
  c.attempt.ensures.1,
  c.deeper.ensures.entered.long ∙ c.next_try-t.ensures.moved.long ∙ c.loop-depth.invariant.2,
)

pub returns-then-count-room : goal.returns-then-count-room
returns-then-count-room c = rw (c.ended-then-count-room.ensures.0, c.ended-then-count-room.ensures.1, c.ended-then-count-room.ensures.2) (tried_full (tried (going_ready c.loop-depth.invariant.0 c.back-depth.ensures c.if-depth-eq0.false) c.requires.0 c.loop-depth.invariant.2 c.next_try-t.ensures c.attempt.ensures.0) c.in-Ok.is c.if-count-room.true)

pub overflow_mul-count : goal.overflow_mul-count
overflow_mul-count c = omega (arith, put_asked (tried (going_ready c.loop-depth.invariant.0 c.back-depth.ensures c.if-depth-eq0.false) c.requires.0 c.loop-depth.invariant.2 c.next_try-t.ensures c.attempt.ensures.0) c.in-Ok.is c.requires.0 c.if-count-room.false, going_long c.loop-depth.invariant.0 c.requires.0, c.well_formed)

pub put-requires : goal.put-requires
put-requires c = let r = put_asked (tried (going_ready c.loop-depth.invariant.0 c.back-depth.ensures c.if-depth-eq0.false) c.requires.0 c.loop-depth.invariant.2 c.next_try-t.ensures c.attempt.ensures.0) c.in-Ok.is c.requires.0 c.if-count-room.false in
    (r.0, (tried (going_ready c.loop-depth.invariant.0 c.back-depth.ensures c.if-depth-eq0.false) c.requires.0 c.loop-depth.invariant.2 c.next_try-t.ensures c.attempt.ensures.0).long, omega (arith, r.1))

pub overflow_add-count : goal.overflow_add-count
overflow_add-count c = omega (arith, tried_counted (tried (going_ready c.loop-depth.invariant.0 c.back-depth.ensures c.if-depth-eq0.false) c.requires.0 c.loop-depth.invariant.2 c.next_try-t.ensures c.attempt.ensures.0) c.requires.0, c.if-count-room.false, c.requires.3)

pub loop-depth-preserved : goal.loop-depth-preserved
loop-depth-preserved c = (rw c.put.ensures (tried_match (tried (going_ready c.loop-depth.invariant.0 c.back-depth.ensures c.if-depth-eq0.false) c.requires.0 c.loop-depth.invariant.2 c.next_try-t.ensures c.attempt.ensures.0) c.in-Ok.is c.if-count-room.false), c.attempt.ensures.1, c.next_try-t.ensures.moved.long ∙ c.loop-depth.invariant.2)
