use native.Mathlib.Omega.{arith}
use Rattle.test.proofs.Obeying.{list_long, judge_asked, obeying_not, obeying_more, obeying_all}
use Rattle.test.proofs.all_obey.Goals as goal

pub bounds-record-x : goal.bounds-record-x
bounds-record-x c = omega (arith, list_long _ _ _ _ c.requires)

pub bounds-record-x-in-loop-x : goal.bounds-record-x-in-loop-x
bounds-record-x-in-loop-x c = omega (arith, list_long _ _ _ _ c.requires)

pub allowed-requires : goal.allowed-requires
allowed-requires c = judge_asked _ _ _ _ c.loop-x-test.true c.requires

pub returns-then-not-allowed : goal.returns-then-not-allowed
returns-then-not-allowed c = obeying_not _ _ _ _ c.loop-x-test.true c.allowed.ensures c.if-not-allowed.true

pub loop-x-preserved : goal.loop-x-preserved
loop-x-preserved c = obeying_more _ _ _ _ c.loop-x-test.true c.allowed.ensures c.loop-x.invariant c.if-not-allowed.false

pub returns : goal.returns
returns c = obeying_all _ _ _ _ c.loop-x.invariant c.loop-x.auto.x-end c.loop-x-test.false
