use mathlib.Core.Path.{◌∙◌}
use Rattle.choice.proofs.Runs.{neighbours_none, neighbours_next, neighbours_more}
use Rattle.choice.proofs.neighbours.Goals as goal

pub loop-count-init : goal.loop-count-init
loop-count-init c = neighbours_none

pub at-requires : goal.at-requires
at-requires c = (neighbours_next c.loop-count.invariant c.loop-count-test.true c.requires).0

pub next-u-requires : goal.next-u-requires
next-u-requires c = (neighbours_next c.loop-count.invariant c.loop-count-test.true c.requires).1

pub loop-count-preserved : goal.loop-count-preserved
loop-count-preserved c = neighbours_more c.loop-count.invariant c.loop-count-test.true (λ e. c.if-at-symbol.false (c.at.ensures.0 ∙ e)) c.next-u.ensures
