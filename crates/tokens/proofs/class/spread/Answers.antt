use Rattle.std.proofs.Common.{sym, ap, length, ◌∙◌}
use Rattle.tokens.proofs.Classing.{spread_all}
use Rattle.tokens.proofs.class.spread.Goals as goal

pub returns : goal.returns
returns c =
    let copied = c.copy_from_slice.ensures in
    rw copied.after (spread_all c.codes.result (ap length (sym copied.after) ∙ copied.len) c.codes.ensures)
