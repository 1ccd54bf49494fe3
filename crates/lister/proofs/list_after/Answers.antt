use Rattle.std.proofs.Common.{refl, []}
use Rattle.problem.proofs.Posed.{the}
use Rattle.walk.proofs.Packs.{pack_asked}
use Rattle.walk.proofs.Rows.{unpacked_long}
use Rattle.lister.proofs.Pages.{record_asked, page_wrong_length, resume_asked, page_none, page_done}
use Rattle.lister.proofs.list_after.Goals as goal

pub returns-then-record-width : goal.returns-then-record-width
returns-then-record-width c = page_wrong_length _ _ c.in_ok-checked.ensures _ _ _ c.if-record-width.true

pub pack-requires : goal.pack-requires
pack-requires c = pack_asked (the c.in_ok-checked.ensures refl).poses.rest.pattern unpacked_long

pub resume-requires : goal.resume-requires
resume-requires c = resume_asked _ _ c.in_ok-checked.ensures _ 0 _ c.if-record-width.false c.tables_of-tables.ensures c.pack.ensures refl c.room_for-room.ensures

pub no_page-requires : goal.no_page-requires
no_page-requires c = record_asked _ _ c.in_ok-checked.ensures [] 0 []

pub returns-in-None : goal.returns-in-None
returns-in-None c =
    page_none _ _ c.in_ok-checked.ensures _ _ _ c.if-record-width.false c.tables_of-tables.ensures c.pack.ensures refl c.room_for-room.ensures c.in-None.ensures c.no_page.ensures

pub returns-in-Some : goal.returns-in-Some
returns-in-Some c =
    page_done _ _ c.in_ok-checked.ensures _ _ _ c.if-record-width.false c.tables_of-tables.ensures c.pack.ensures refl c.room_for-room.ensures c.in-Some.ensures
