use borrow.Author.Rules.{rules}
use Rattle.record.proofs.Each.{pair_sequence, pair_row}
use Rattle.record.proofs.pair_fits.Goals as goal

pub returns-then-kind-eq-SEQUENCE : goal.returns-then-kind-eq-SEQUENCE
returns-then-kind-eq-SEQUENCE c = pair_sequence c.if-kind-eq-SEQUENCE.true c.sequence_fits.ensures

pub returns : goal.returns
returns c = pair_row c.if-kind-eq-SEQUENCE.false (search rules) c.row_fits.ensures
