use mathlib.Core.Path.{sym, ap, ◌∙◌}
use native.Mathlib.Omega.{arith}
use Rattle.grammar.specs.Classes.{class_number}
use Rattle.tokens.proofs.Spans.{name_yes, name_not}
use Rattle.judge.proofs.Turns.{end_differs, end_closes, end_other}
use Rattle.judge.proofs.tags.end_tag.Goals as goal

pub same_end-end-requires : goal.same_end-end-requires
same_end-end-requires c = c.requires

pub overflow_sub-rest : goal.overflow_sub-rest
overflow_sub-rest c = c.same_end-end.ensures.passed.from

pub overflow_add-rest : goal.overflow_add-rest
overflow_add-rest c = omega (arith, c.same_end-end.ensures.passed.within, c.requires.1)

pub returns-then-class_of-gt-WHITE : goal.returns-then-class_of-gt-WHITE
returns-then-class_of-gt-WHITE c = end_differs c.same_end-end.ensures (name_yes _ _ (c.class_of.ensures ∙ ap class_number c.byte_at.ensures) c.if-class_of-gt-WHITE.true)

pub white_end-shut-requires : goal.white_end-shut-requires
white_end-shut-requires c = c.same_end-end.ensures.passed.within

pub returns-then-byte_at-eq62 : goal.returns-then-byte_at-eq62
returns-then-byte_at-eq62 c = end_closes c.same_end-end.ensures (name_not _ _ (c.class_of.ensures ∙ ap class_number c.byte_at.ensures) c.if-class_of-gt-WHITE.false) c.white_end-shut.ensures (sym c.byte_at-2.ensures ∙ c.if-byte_at-eq62.true)

pub returns : goal.returns
returns c = end_other c.same_end-end.ensures (name_not _ _ (c.class_of.ensures ∙ ap class_number c.byte_at.ensures) c.if-class_of-gt-WHITE.false) c.white_end-shut.ensures (λ e. c.if-byte_at-eq62.false (c.byte_at-2.ensures ∙ e))
