use mathlib.Core.Path.{sym, ◌∙◌}
use native.Mathlib.Omega.{arith}
use Rattle.judge.specs.Tags.{second_root, root, inner_start, inner_end}
use Rattle.judge.proofs.tags.stands.Goals as goal

pub returns-then-rows-gt0 : goal.returns-then-rows-gt0
returns-then-rows-gt0 c = second_root c.if-depth-eq0.true c.if-rows-gt0.true

pub returns-then-depth-eq0 : goal.returns-then-depth-eq0
returns-then-depth-eq0 c = root c.if-depth-eq0.true (omega (arith, c.if-rows-gt0.false))

pub returns-then-byte_at-eq47 : goal.returns-then-byte_at-eq47
returns-then-byte_at-eq47 c = inner_end c.if-depth-eq0.false (sym c.byte_at.ensures ∙ c.if-byte_at-eq47.true)

pub returns : goal.returns
returns c = inner_start c.if-depth-eq0.false (λ e. c.if-byte_at-eq47.false (c.byte_at.ensures ∙ e))
