use mathlib.Core.Path.{sym, ◌∙◌}
use Rattle.judge.proofs.Turns.{white_text, outer_run, inner_run, inner_space, white_only}
use Rattle.rows.proofs.note.run.Goals as goal

pub returns-then-byte_at-eq60 : goal.returns-then-byte_at-eq60
returns-then-byte_at-eq60 c = white_only c.args.depth c.args.start c.long_white_end-white.ensures (sym c.byte_at.ensures ∙ c.if-byte_at-eq60.true)

pub returns-then-depth-eq0 : goal.returns-then-depth-eq0
returns-then-depth-eq0 c = outer_run c.if-depth-eq0.true c.long_white_end-white.ensures

pub long_text_end-end-requires : goal.long_text_end-end-requires
long_text_end-end-requires c = white_text c.long_white_end-white.ensures.passed

pub returns-then-white-end : goal.returns-then-white-end
returns-then-white-end c = inner_run c.if-depth-eq0.false c.long_white_end-white.ensures c.long_text_end-end.ensures c.if-white-end.true

pub returns : goal.returns
returns c = inner_space c.if-depth-eq0.false c.long_white_end-white.ensures c.long_text_end-end.ensures c.if-white-end.false
