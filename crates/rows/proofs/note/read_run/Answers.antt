use mathlib.Core.Path.{sym, ◌∙◌}
use native.Mathlib.Omega.{arith}
use borrow.Author.Tests.{ltb-true, ltb-false}
use Rattle.meaning.proofs.Answers.{said_no}
use Rattle.rows.specs.Turns.{noted, many, last_run, early_run, deep_text, to_tag}
use Rattle.rows.proofs.Names.{at_once}
use Rattle.rows.proofs.note.read_run.Goals as goal

pub returns-then-row-gt-MOST_ROWS : goal.returns-then-row-gt-MOST_ROWS
returns-then-row-gt-MOST_ROWS c = many c.if-row-gt-MOST_ROWS.true

pub returns-then-byte_at-eq60 : goal.returns-then-byte_at-eq60
returns-then-byte_at-eq60 c =
    at_once _ _ _ c.args.depth c.args.row c.args.i c.if-row-gt-MOST_ROWS.false c.requires.1 (sym c.byte_at.ensures ∙ c.if-byte_at-eq60.true) c.requires.2

pub returns-then-not-is_whole : goal.returns-then-not-is_whole
returns-then-not-is_whole c =
    early_run c.if-row-gt-MOST_ROWS.false c.run-text.ensures (noted c.put.ensures) (λ e. c.if-byte_at-ne60.true (c.byte_at-2.ensures ∙ e)) (said_no c.is_whole.ensures c.if-not-is_whole.true)

pub returns-then-byte_at-ne60 : goal.returns-then-byte_at-ne60
returns-then-byte_at-ne60 c =
    last_run c.if-row-gt-MOST_ROWS.false c.run-text.ensures (noted c.put.ensures) (λ e. c.if-byte_at-ne60.true (c.byte_at-2.ensures ∙ e)) (c.is_whole.ensures.0 c.if-not-is_whole.false)

pub returns-then-deep : goal.returns-then-deep
returns-then-deep c =
    deep_text c.if-row-gt-MOST_ROWS.false c.run-text.ensures (noted c.put.ensures) (sym c.byte_at-2.ensures ∙ c.if-byte_at-ne60.false) (omega (arith, ltb-true))

pub returns : goal.returns
returns c = to_tag c.if-row-gt-MOST_ROWS.false c.run-text.ensures (noted c.put.ensures) (sym c.byte_at-2.ensures ∙ c.if-byte_at-ne60.false) (omega (arith, ltb-false))
