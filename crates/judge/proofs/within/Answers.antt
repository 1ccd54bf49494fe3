use native.Mathlib.Omega.{arith}
use Rattle.judge.specs.Tags.{too_deep, too_many, done}
use Rattle.judge.proofs.within.Goals as goal

pub returns-then-deep-gt-DEEPEST : goal.returns-then-deep-gt-DEEPEST
returns-then-deep-gt-DEEPEST c = too_deep c.if-deep-gt-DEEPEST.true

pub returns-then-rows-gt-MOST_ROWS : goal.returns-then-rows-gt-MOST_ROWS
returns-then-rows-gt-MOST_ROWS c = too_many c.if-deep-gt-DEEPEST.false (omega arith)

pub returns : goal.returns
returns c = done c.if-deep-gt-DEEPEST.false c.if-rows-gt-MOST_ROWS.false
