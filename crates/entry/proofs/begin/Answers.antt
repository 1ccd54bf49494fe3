use mathlib.Core.Path.{refl, ap, ◌∙◌}
use lib.ListN.{length-replicate}
use native.Mathlib.Omega.{arith}
use Rattle.levels.specs.declared.Level.{Level}
use Rattle.levels.specs.Columns.{unentered}
use Rattle.std.specs.Prelude.{Err}
use Rattle.entry.proofs.Begun.{begun, walk_asked, begun_fail, begun_full, begun_put, begun_done, at_stop, need_room, go_asked, begun_need}
use Rattle.entry.proofs.begin.Goals as goal

pub begin-requires : goal.begin-requires
begin-requires c = walk_asked c.requires refl refl

pub least-least-requires : goal.least-least-requires
least-least-requires c = need_room (begun c.requires c.begin.ensures) (c.in-Err-Need.is ∙ ap Err c.in-Err-Need.field-0-is)

pub values-values-requires : goal.values-values-requires
values-values-requires c = at_stop (begun c.requires c.begin.ensures) (c.in-Err-Need.is ∙ ap Err c.in-Err-Need.field-0-is)

pub enter-requires : goal.enter-requires
enter-requires c = record { long = length-replicate {A = Level} 256 unentered; few = omega arith }

pub go-requires : goal.go-requires
go-requires c = (
  go_asked (begun c.requires c.begin.ensures) (c.in-Err-Need.is ∙ ap Err c.in-Err-Need.field-0-is) c.least-least.ensures c.values-values.ensures c.enter.ensures,
  c.enter.ensures.long ∙ length-replicate {A = Level} 256 unentered,
  omega (arith, c.ranges.budget),
  omega (arith, c.ranges.room),
)

pub returns-then-room-eq0 : goal.returns-then-room-eq0
returns-then-room-eq0 c = rw (c.ended-then-room-eq0.ensures.0, c.ended-then-room-eq0.ensures.1, c.ended-then-room-eq0.ensures.2) (begun_full (begun c.requires c.begin.ensures) c.in-Ok.is c.if-room-eq0.true)

pub put-requires : goal.put-requires
put-requires c = begun_put (begun c.requires c.begin.ensures) c.in-Ok.is c.if-room-eq0.false

pub returns-in-Err-Fail : goal.returns-in-Err-Fail
returns-in-Err-Fail c = rw (c.ended.ensures.0, c.ended.ensures.1, c.ended.ensures.2) (begun_fail (begun c.requires c.begin.ensures) (c.in-Err-Fail.is ∙ ap Err c.in-Err-Fail.field-0-is))

pub returns-in-Err-Need : goal.returns-in-Err-Need
returns-in-Err-Need c = begun_need (begun c.requires c.begin.ensures) (c.in-Err-Need.is ∙ ap Err c.in-Err-Need.field-0-is) c.least-least.ensures c.values-values.ensures c.enter.ensures c.go.ensures

pub returns-else-room-eq0 : goal.returns-else-room-eq0
returns-else-room-eq0 c = rw (c.ended-in-Ok.ensures.0, c.ended-in-Ok.ensures.1, c.ended-in-Ok.ensures.2, c.put.ensures) (begun_done (begun c.requires c.begin.ensures) c.in-Ok.is c.if-room-eq0.false)
