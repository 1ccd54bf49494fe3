use mathlib.Core.Path.{sym}
use Rattle.document.proofs.Answers.{answers_checked}
use Rattle.document.proofs.answer.Goals as goal

pub returns : goal.returns
returns c = answers_checked c.check.ensures (sym c.in_ok-ok_or.ensures.variant) c.verdict.ensures
