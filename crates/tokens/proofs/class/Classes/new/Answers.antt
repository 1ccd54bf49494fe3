use Rattle.std.proofs.Common.{arith}
use Rattle.tokens.proofs.Classing.{stopping, stop_more}
use Rattle.tokens.proofs.class.Classes.new.Goals as goal

pub loop-k-init : goal.loop-k-init
loop-k-init c = stopping c.spread-class.ensures

pub loop-k-preserved : goal.loop-k-preserved
loop-k-preserved c = stop_more c.loop-k.invariant (omega arith) c.stop_of.ensures
