use Rattle.judge.specs.Verdict.{long}
use Rattle.document.proofs.Answers.{outside_verdict, noted_verdict}
use Rattle.document.proofs.verdict.Goals as goal

pub returns-then-document-gt-MOST_BYTES : goal.returns-then-document-gt-MOST_BYTES
returns-then-document-gt-MOST_BYTES c = long c.if-document-gt-MOST_BYTES.true

pub returns-in-Ok : goal.returns-in-Ok
returns-in-Ok c = noted_verdict c.if-document-gt-MOST_BYTES.false c.in-Ok.ensures

pub returns-in-Err-Outside : goal.returns-in-Err-Outside
returns-in-Err-Outside c = outside_verdict c.if-document-gt-MOST_BYTES.false (rw c.in-Err-Outside.field-0-is at c.in-Err-Outside.ensures) c.outside.ensures
