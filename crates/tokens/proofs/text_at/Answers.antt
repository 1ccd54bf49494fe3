use Rattle.tokens.proofs.Spans.{text_at_yes, text_at_not, text_at_bracket}
use mathlib.Core.Path.{sym, ap, ◌∙◌}
use mathlib.Core.Bool.{not}
use native.Mathlib.Omega.{arith}
use borrow.Author.Rules.{rules}
use Rattle.tokens.proofs.text_at.Goals as goal

pub returns-then-c-gt-GREATER : goal.returns-then-c-gt-GREATER
returns-then-c-gt-GREATER c = sym (text_at_yes _ _ _ _ c.class_of-c.ensures c.if-c-gt-GREATER.true)

pub returns-then-c-eq-NONE : goal.returns-then-c-eq-NONE
returns-then-c-eq-NONE c = sym (text_at_not _ _ _ _ c.class_of-c.ensures c.if-c-eq-NONE.true)

pub returns : goal.returns
returns c = ap not c.bracketed.ensures ∙ sym (text_at_bracket _ _ _ _ c.class_of-c.ensures (omega (arith, c.if-c-eq-NONE.false, c.if-c-gt-GREATER.false)))
