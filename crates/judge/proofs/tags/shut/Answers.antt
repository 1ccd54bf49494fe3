use mathlib.Core.Path.{sym, ◌∙◌}
use Rattle.judge.proofs.Turns.{start_opens, start_empties, start_slash, start_other}
use Rattle.judge.proofs.tags.shut.Goals as goal

pub returns-then-b-eq62 : goal.returns-then-b-eq62
returns-then-b-eq62 c = λ a first name. start_opens first name c.white_end-shut.ensures (sym c.byte_at-b.ensures ∙ c.if-b-eq62.true)

pub returns-then-byte_at-eq62 : goal.returns-then-byte_at-eq62
returns-then-byte_at-eq62 c = λ a first name. start_empties first name c.white_end-shut.ensures (sym c.byte_at-b.ensures ∙ c.if-b-eq47.true) (sym c.byte_at.ensures ∙ c.if-byte_at-eq62.true)

pub returns-then-b-eq47 : goal.returns-then-b-eq47
returns-then-b-eq47 c = λ a first name. start_slash first name c.white_end-shut.ensures (sym c.byte_at-b.ensures ∙ c.if-b-eq47.true) (λ e. c.if-byte_at-eq62.false (c.byte_at.ensures ∙ e))

pub returns : goal.returns
returns c = λ a first name. start_other first name c.white_end-shut.ensures (λ e. c.if-b-eq62.false (c.byte_at-b.ensures ∙ e)) (λ e. c.if-b-eq47.false (c.byte_at-b.ensures ∙ e))
