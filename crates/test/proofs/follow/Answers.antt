use Prim.Native.Nat.{ℕ, ◌<◌}
use mathlib.Core.Path.{refl, ap, ◌∙◌, sym, subst}
use native.Mathlib.Omega.{arith}
use Rattle.std.specs.Prelude.{Result, Err}
use Rattle.walk.specs.declared.Halt.{Halt}
use Rattle.test.proofs.Following.{left_over, follow_begins, follow_first, follow_still, follow_fails, follow_matches, follow_read, follow_room, follow_stop, follow_low, follow_high, follow_landing, follow_takes, follow_goes, follow_right}
use Rattle.test.proofs.follow.Goals as goal

pub begin-o-requires : goal.begin-o-requires
begin-o-requires c = follow_begins c.requires refl

pub loop-o-init : goal.loop-o-init
loop-o-init c = follow_first c.requires refl c.begin-o.ensures

pub returns-in-Err-Fail : goal.returns-in-Err-Fail
returns-in-Err-Fail c = follow_fails c.loop-o.invariant (c.in-Err-Fail.is ∙ ap Err (rw c.in-Err-Fail.is at c.in-Err-Fail.field-0-is))

pub returns-in-Ok : goal.returns-in-Ok
returns-in-Ok c = follow_matches c.loop-o.invariant c.in-Ok.is

pub overflow_add-x : goal.overflow_add-x
overflow_add-x c = omega (arith, follow_read c.loop-o.invariant (c.in-Err-Need.is ∙ ap Err (rw c.in-Err-Need.is at c.in-Err-Need.field-0-is)) (follow_still c.loop-o.invariant c.requires), c.well_formed)

pub overflow_add-x-in-Err-Need : goal.overflow_add-x-in-Err-Need
overflow_add-x-in-Err-Need c = omega (arith, follow_read c.loop-o.invariant (c.in-Err-Need.is ∙ ap Err (rw c.in-Err-Need.is at c.in-Err-Need.field-0-is)) (follow_still c.loop-o.invariant c.requires), c.well_formed)

pub at-v-requires : goal.at-v-requires
at-v-requires c = follow_read c.loop-o.invariant (c.in-Err-Need.is ∙ ap Err (rw c.in-Err-Need.is at c.in-Err-Need.field-0-is)) (follow_still c.loop-o.invariant c.requires)

pub least-lo-requires : goal.least-lo-requires
least-lo-requires c = follow_room c.loop-o.invariant (c.in-Err-Need.is ∙ ap Err (rw c.in-Err-Need.is at c.in-Err-Need.field-0-is)) (follow_still c.loop-o.invariant c.requires)

pub returns-then-v-lo : goal.returns-then-v-lo
returns-then-v-lo c = follow_low c.loop-o.invariant (c.in-Err-Need.is ∙ ap Err (rw c.in-Err-Need.is at c.in-Err-Need.field-0-is)) c.at-v.ensures.0 c.least-lo.ensures c.if-v-lo.true

pub values-requires : goal.values-requires
values-requires c = follow_stop c.loop-o.invariant (c.in-Err-Need.is ∙ ap Err (rw c.in-Err-Need.is at c.in-Err-Need.field-0-is)) (follow_still c.loop-o.invariant c.requires)

pub returns-then-values-v : goal.returns-then-values-v
returns-then-values-v c = follow_high c.loop-o.invariant (c.in-Err-Need.is ∙ ap Err (rw c.in-Err-Need.is at c.in-Err-Need.field-0-is)) c.at-v.ensures.0 c.least-lo.ensures c.values.ensures c.if-v-lo.false c.if-values-v.true

pub landing-u-requires : goal.landing-u-requires
landing-u-requires c = follow_landing c.loop-o.invariant (c.in-Err-Need.is ∙ ap Err (rw c.in-Err-Need.is at c.in-Err-Need.field-0-is)) c.at-v.ensures.0 c.least-lo.ensures c.values.ensures c.if-v-lo.false c.if-values-v.false (follow_still c.loop-o.invariant c.requires)

pub take-o-requires : goal.take-o-requires
take-o-requires c = follow_takes c.loop-o.invariant (c.in-Err-Need.is ∙ ap Err (rw c.in-Err-Need.is at c.in-Err-Need.field-0-is)) c.at-v.ensures.0 c.least-lo.ensures c.values.ensures c.if-v-lo.false c.if-values-v.false c.landing-u.ensures (follow_still c.loop-o.invariant c.requires)

pub loop-o-smaller : goal.loop-o-smaller
loop-o-smaller c = subst (λ (o : Result ℕ Halt). left_over c.take-o.result < left_over o) (sym (c.in-Err-Need.is ∙ ap Err (rw c.in-Err-Need.is at c.in-Err-Need.field-0-is)))
    (follow_right c.loop-o.invariant (c.in-Err-Need.is ∙ ap Err (rw c.in-Err-Need.is at c.in-Err-Need.field-0-is)) c.at-v.ensures.0 c.least-lo.ensures c.values.ensures c.if-v-lo.false c.if-values-v.false c.landing-u.ensures (follow_still c.loop-o.invariant c.requires) c.take-o.ensures)

pub loop-o-preserved : goal.loop-o-preserved
loop-o-preserved c = follow_goes c.loop-o.invariant (c.in-Err-Need.is ∙ ap Err (rw c.in-Err-Need.is at c.in-Err-Need.field-0-is)) c.at-v.ensures.0 c.least-lo.ensures c.values.ensures c.if-v-lo.false c.if-values-v.false c.landing-u.ensures (follow_still c.loop-o.invariant c.requires) c.take-o.ensures
