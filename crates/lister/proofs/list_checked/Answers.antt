use Rattle.std.proofs.Common.{refl}
use Rattle.problem.proofs.Posed.{the}
use Rattle.walk.proofs.Packs.{pack_asked}
use Rattle.walk.proofs.Rows.{unpacked_long}
use Rattle.lister.proofs.Whole.{begin_asked, list_done}
use Rattle.lister.proofs.list_checked.Goals as goal

pub pack-requires : goal.pack-requires
pack-requires c = pack_asked (the c.requires refl).poses.rest.pattern unpacked_long

pub begin-requires : goal.begin-requires
begin-requires c = begin_asked _ _ c.requires 0 _ c.tables_of-tables.ensures c.pack.ensures refl c.room_for-room.ensures

pub returns : goal.returns
returns c = list_done _ _ c.requires _ _ c.tables_of-tables.ensures c.pack.ensures refl c.room_for-room.ensures c.begin.ensures
