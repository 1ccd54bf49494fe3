use mathlib.Core.Path.{refl}
use Rattle.walk.proofs.Packs.{pack_asked}
use Rattle.walk.proofs.Rows.{unpacked_long}
use Rattle.test.proofs.Refound.{list_short, follow_asked, placed_lost, placed_found}
use Rattle.test.proofs.placed.Goals as goal

pub pack-requires : goal.pack-requires
pack-requires c = pack_asked c.requires.some.3.pattern unpacked_long

pub follow-requires : goal.follow-requires
follow-requires c = follow_asked c.requires c.pack.ensures.0 refl

pub equal-requires : goal.equal-requires
equal-requires c = (c.follow.ensures.long, list_short c.requires)

pub returns-then-follow : goal.returns-then-follow
returns-then-follow c = placed_found c.pack.ensures.0 c.follow.ensures c.if-follow.true c.equal.ensures

pub returns-else-follow : goal.returns-else-follow
returns-else-follow c = rw c.if-follow.false (placed_lost c.pack.ensures.0 c.follow.ensures c.if-follow.false)
