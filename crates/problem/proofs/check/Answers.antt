use Rattle.problem.proofs.check.Goals as goal

pub returns : goal.returns
returns c = c.check_judged.ensures.on _ _ c.good.ensures
