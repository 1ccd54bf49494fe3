use Rattle.test.proofs.Obeying.{all_asked, all_judged}
use Rattle.test.proofs.obeyed.Goals as goal

pub all_obey-requires : goal.all_obey-requires
all_obey-requires c = all_asked _ _ _ c.tables_of-tables.ensures c.requires

pub returns : goal.returns
returns c = all_judged _ _ _ c.tables_of-tables.ensures c.requires c.all_obey.ensures
