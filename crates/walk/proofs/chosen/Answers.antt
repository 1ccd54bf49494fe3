use mathlib.Core.Path.{sym}
use Rattle.walk.proofs.Rows.{row_at}
use Rattle.walk.proofs.chosen.Goals as goal

pub returns : goal.returns
returns c = let w = row_at c.args.pattern.now c.args.p in (sym w.kind, sym w.start, sym w.flag)
