use Rattle.memory.proofs.Growing.{grow_free, grow_forbidden, grow_read, grow_path, grow_asked, path_asks}
use mathlib.Core.Path.{sym, ◌∙◌}
use Rattle.memory.proofs.allowed.Goals as goal

pub chosen-choice-requires : goal.chosen-choice-requires
chosen-choice-requires c = c.requires.few

pub returns-then-start-eq0 : goal.returns-then-start-eq0
returns-then-start-eq0 c = grow_free c.requires (sym c.chosen-choice.ensures.1 ∙ c.if-start-eq0.true)

pub returns-then-forbidden : goal.returns-then-forbidden
returns-then-forbidden c = grow_forbidden c.requires (λ e. c.if-start-eq0.false (c.chosen-choice.ensures.1 ∙ e)) (rw (c.chosen-choice.ensures.0, c.chosen-choice.ensures.2) at c.forbidden.ensures) c.if-forbidden.true

pub grown-requires : goal.grown-requires
grown-requires c = grow_asked c.requires (λ e. c.if-start-eq0.false (c.chosen-choice.ensures.1 ∙ e)) (rw c.chosen-choice.ensures.1 at c.row_of-root.ensures) (sym c.chosen-choice.ensures.0 ∙ c.if-kind-eq-SEQUENCE.true)

pub returns-then-kind-eq-SEQUENCE : goal.returns-then-kind-eq-SEQUENCE
returns-then-kind-eq-SEQUENCE c = grow_read c.requires (λ e. c.if-start-eq0.false (c.chosen-choice.ensures.1 ∙ e)) (rw (c.chosen-choice.ensures.0, c.chosen-choice.ensures.2) at c.forbidden.ensures) c.if-forbidden.false (sym c.chosen-choice.ensures.0 ∙ c.if-kind-eq-SEQUENCE.true) (rw c.chosen-choice.ensures.1 at c.row_of-root.ensures) c.grown.ensures

pub accepted-requires : goal.accepted-requires
accepted-requires c = path_asks c.requires (λ e. c.if-start-eq0.false (c.chosen-choice.ensures.1 ∙ e)) (rw c.chosen-choice.ensures.1 at c.row_of-root.ensures) (λ e. c.if-kind-eq-SEQUENCE.false (c.chosen-choice.ensures.0 ∙ e))

pub returns : goal.returns
returns c = grow_path c.requires (λ e. c.if-start-eq0.false (c.chosen-choice.ensures.1 ∙ e)) (rw (c.chosen-choice.ensures.0, c.chosen-choice.ensures.2) at c.forbidden.ensures) c.if-forbidden.false (λ e. c.if-kind-eq-SEQUENCE.false (c.chosen-choice.ensures.0 ∙ e)) (rw c.chosen-choice.ensures.1 at c.row_of-root.ensures) c.accepted.ensures
