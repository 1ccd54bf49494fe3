use Rattle.std.proofs.Common.{sym, ◌∙◌}
use Rattle.tokens.proofs.Spans.{passed_none}
use Rattle.tokens.proofs.Blocks.{passed_whole}
use Rattle.tokens.proofs.blocks_end.Goals as goal

pub loop-i-init : goal.loop-i-init
loop-i-init g c = passed_none _ _ _ c.requires

pub loop-i-preserved : goal.loop-i-preserved
loop-i-preserved g c = passed_whole g.M.Many.among c.loop-i.invariant c.loop-i-test.true (sym c.if-not-whole.false ∙ c.whole.ensures)
