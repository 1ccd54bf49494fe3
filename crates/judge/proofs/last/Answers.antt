use Rattle.meaning.proofs.Answers.{said_no}
use Rattle.judge.specs.Tags.{ended}
use Rattle.judge.proofs.Judging.{early_is}
use Rattle.judge.proofs.last.Goals as goal

pub returns-then-not-is_whole : goal.returns-then-not-is_whole
returns-then-not-is_whole c = early_is c.outside.ensures (said_no c.is_whole.ensures c.if-not-is_whole.true)

pub returns : goal.returns
returns c = let h = c.is_whole.ensures.0 c.if-not-is_whole.false in ended h.0 h.1 h.2 c.within.ensures
