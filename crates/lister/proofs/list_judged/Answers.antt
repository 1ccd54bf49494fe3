use Rattle.std.proofs.lemmas.Result.{err_from_is_err_and}
use Rattle.lister.proofs.Whole.{list_refused}
use Rattle.lister.proofs.list_judged.Goals as goal

pub returns-in_err-judged : goal.returns-in_err-judged
returns-in_err-judged c = let p = err_from_is_err_and c.from_residual.result c.from_residual.ensures.1 in rw (p.1, p.2) (list_refused _ _ _ _ (c.in_err-judged.ensures.on _ _ c.requires))

pub list_checked-requires : goal.list_checked-requires
list_checked-requires c = c.in_ok-judged.ensures.on _ _ c.requires
