use Rattle.levels.proofs.Tried.{try_judged, try_fails, try_asked, try_walked}
use Rattle.levels.proofs.attempt.Goals as goal

pub allowed-requires : goal.allowed-requires
allowed-requires c = try_judged c.requires.0 c.requires.1

pub returns-then-not-allowed : goal.returns-then-not-allowed
returns-then-not-allowed c = (try_fails c.requires.0 c.allowed.ensures.judged c.if-not-allowed.true, c.allowed.ensures.remembers)

pub take-requires : goal.take-requires
take-requires c = try_asked c.requires.0

pub returns : goal.returns
returns c = (try_walked c.requires.0 c.allowed.ensures.judged c.if-not-allowed.false c.take.ensures, c.allowed.ensures.remembers)
