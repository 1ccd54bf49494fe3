use native.Mathlib.Omega.{arith}
use Rattle.answer.proofs.Counts.{page_records_fit}
use Rattle.answer.proofs.Whole.{list_after_whole}
use borrow.Author.Rules.{rules}
use Rattle.site.proofs.khargovsun_list_after.Goals as goal

pub of_lister-requires : goal.of_lister-requires
of_lister-requires c = page_records_fit (omega arith) c.list_after-later.ensures

pub returns : goal.returns
returns c = list_after_whole c.list_after-later.ensures c.of_lister.ensures
