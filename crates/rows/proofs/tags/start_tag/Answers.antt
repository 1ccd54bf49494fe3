use mathlib.Core.Path.{sym, ap, ◌∙◌}
use native.Mathlib.Omega.{arith}
use Rattle.grammar.specs.Classes.{class_number}
use Rattle.tokens.proofs.Spans.{start_not}
use Rattle.judge.proofs.Turns.{name_there, name_begins, start_none, start_opens}
use Rattle.rows.proofs.Names.{shut_at_once}
use Rattle.rows.proofs.tags.start_tag.Goals as goal

pub returns-then-class_of-lt-FIRST : goal.returns-then-class_of-lt-FIRST
returns-then-class_of-lt-FIRST c = start_none (start_not _ _ (c.class_of.ensures ∙ ap class_number c.byte_at.ensures) c.if-class_of-lt-FIRST.true)

pub long_name_end-end-requires : goal.long_name_end-end-requires
long_name_end-end-requires c =
    omega (arith, name_there c.args.document.now c.args.at (name_begins _ (c.class_of.ensures ∙ ap class_number c.byte_at.ensures) c.if-class_of-lt-FIRST.false))

pub returns-then-byte_at-eq62 : goal.returns-then-byte_at-eq62
returns-then-byte_at-eq62 c =
    let first = name_begins _ (c.class_of.ensures ∙ ap class_number c.byte_at.ensures) c.if-class_of-lt-FIRST.false in
    let shut = sym c.byte_at-2.ensures ∙ c.if-byte_at-eq62.true in
    start_opens first c.long_name_end-end.ensures (shut_at_once c.long_name_end-end.ensures.passed.within shut) shut

pub returns : goal.returns
returns c = c.shut.ensures _ (name_begins _ (c.class_of.ensures ∙ ap class_number c.byte_at.ensures) c.if-class_of-lt-FIRST.false) c.long_name_end-end.ensures
