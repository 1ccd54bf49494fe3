use Rattle.answer.proofs.Counts.{records_fit}
use Rattle.portion.proofs.list.Goals as goal

pub of_lister-requires : goal.of_lister-requires
of_lister-requires c = records_fit c.ranges.budget.fits c.list_judged.ensures
