use Rattle.record.proofs.Judged.{row_out, row_in}
use Rattle.record.proofs.row_fits.Goals as goal

pub returns-then-size-a : goal.returns-then-size-a
returns-then-size-a c = row_out c.if-size-a.true

pub returns : goal.returns
returns c = row_in c.args.b c.if-size-a.false
