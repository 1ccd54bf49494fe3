use mathlib.Core.Path.{sym, ◌∙◌}
use Rattle.openings.proofs.LastTag.{an_end, an_empty, a_start}
use Rattle.openings.proofs.back.tag_before.Goals as goal

pub returns-then-byte_at-eq47 : goal.returns-then-byte_at-eq47
returns-then-byte_at-eq47 c = λ o now. an_end c.last_markup-last.ensures now (sym c.byte_at.ensures ∙ c.if-byte_at-eq47.true)

pub returns-then-byte_at-eq47-2 : goal.returns-then-byte_at-eq47-2
returns-then-byte_at-eq47-2 c =
    λ o now.
    an_empty c.last_markup-last.ensures now (λ e. c.if-byte_at-eq47.false (c.byte_at.ensures ∙ e)) (sym c.byte_at-2.ensures ∙ c.if-byte_at-eq47-2.true)

pub returns : goal.returns
returns c =
    λ o now.
    a_start c.last_markup-last.ensures now (λ e. c.if-byte_at-eq47.false (c.byte_at.ensures ∙ e)) (λ e. c.if-byte_at-eq47-2.false (c.byte_at-2.ensures ∙ e))
