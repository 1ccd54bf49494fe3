use mathlib.Core.Path.{ap, ◌∙◌}
use native.Mathlib.Omega.{arith}
use Rattle.grammar.specs.Classes.{class_number}
use Rattle.tokens.proofs.Spans.{start_not}
use Rattle.judge.proofs.Turns.{name_there, name_begins, start_none}
use Rattle.judge.proofs.tags.start_tag.Goals as goal

pub returns-then-class_of-lt-FIRST : goal.returns-then-class_of-lt-FIRST
returns-then-class_of-lt-FIRST c = start_none (start_not _ _ (c.class_of.ensures ∙ ap class_number c.byte_at.ensures) c.if-class_of-lt-FIRST.true)

pub name_end-requires : goal.name_end-requires
name_end-requires c =
    omega (arith, name_there c.args.document.now c.args.at (name_begins _ (c.class_of.ensures ∙ ap class_number c.byte_at.ensures) c.if-class_of-lt-FIRST.false))

pub returns : goal.returns
returns c = c.shut.ensures _ (name_begins _ (c.class_of.ensures ∙ ap class_number c.byte_at.ensures) c.if-class_of-lt-FIRST.false) c.name_end.ensures
