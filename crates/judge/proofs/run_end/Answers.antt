use Rattle.judge.proofs.Turns.{white_text, outer_run, inner_run, inner_space}
use Rattle.judge.proofs.run_end.Goals as goal

pub returns-then-depth-eq0 : goal.returns-then-depth-eq0
returns-then-depth-eq0 c = outer_run c.if-depth-eq0.true c.white_end-white.ensures

pub text_end-end-requires : goal.text_end-end-requires
text_end-end-requires c = white_text c.white_end-white.ensures.passed

pub returns-then-white-end : goal.returns-then-white-end
returns-then-white-end c = inner_run c.if-depth-eq0.false c.white_end-white.ensures c.text_end-end.ensures c.if-white-end.true

pub returns : goal.returns
returns c = inner_space c.if-depth-eq0.false c.white_end-white.ensures c.text_end-end.ensures c.if-white-end.false
