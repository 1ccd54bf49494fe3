use mathlib.Core.Path.{refl}
use Rattle.meaning.proofs.Answers.{said_no}
use Rattle.document.proofs.Answers.{answers_refused, answers_small, noted_verdict, may_label_rows, answers_read, beyond_refused}
use Rattle.document.proofs.read_rows.Goals as goal

pub returns-in-Err-Beyond : goal.returns-in-Err-Beyond
returns-in-Err-Beyond c = answers_refused c.requires.1.learnt.checked refl c.judge.ensures (beyond_refused (rw c.in-Err-Beyond.field-0-is at c.in-Err-Beyond.ensures) c.judge.ensures)

pub returns-then-not-fits : goal.returns-then-not-fits
returns-then-not-fits c =
    answers_small c.requires.1.learnt.checked refl (noted_verdict c.requires.1.short c.in-Ok.ensures) refl (said_no c.fits.ensures c.if-not-fits.true)

pub label_rows-requires : goal.label_rows-requires
label_rows-requires c =
    let a = c.args in may_label_rows a.label.now a.size.now a.start.now a.length.now c.requires.1 c.in-Ok.ensures (c.fits.ensures.0 c.if-not-fits.false)

pub returns : goal.returns
returns c = answers_read _ _ _ _ c.requires.1 c.in-Ok.ensures (c.fits.ensures.0 c.if-not-fits.false) c.copy_rows.ensures c.label_rows.ensures
