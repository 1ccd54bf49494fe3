use native.Mathlib.Omega.{arith}
use Rattle.answer.proofs.Counts.{records_fit}
use Rattle.answer.proofs.Whole.{list_whole}
use borrow.Author.Rules.{rules}
use Rattle.site.proofs.khargovsun_list.Goals as goal

pub of_lister-requires : goal.of_lister-requires
of_lister-requires c = records_fit (omega arith) c.list-listed.ensures

pub returns : goal.returns
returns c = list_whole c.list-listed.ensures c.of_lister.ensures
