use Rattle.rows.specs.Turns.{stopped, over, tagged}
use Rattle.rows.proofs.Asked.{handed_on}
use Rattle.rows.proofs.note.read_turn.Goals as goal

pub returns-in_err-run : goal.returns-in_err-run
returns-in_err-run c = λ o f h. rw (handed_on c.from_residual.result c.from_residual.ensures.1) (stopped c.in_err-run.ensures)

pub returns-in-Last : goal.returns-in-Last
returns-in-Last c = λ o f h. over (rw c.in-Last.is at c.in_ok-run.ensures)

pub returns-in-Tag : goal.returns-in-Tag
returns-in-Tag c = λ o f h. let done = rw c.in-Tag.is at c.in_ok-run.ensures in tagged done (c.read_tag.ensures o f _ (h.tag done))
