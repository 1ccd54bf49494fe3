use native.Mathlib.Omega.{arith}
use Rattle.dictionary.proofs.Pieces.{upto_ten, upto_more, upto_end}
use Rattle.dictionary.proofs.name_end.Goals as goal

pub returns-then-dictionary-end-eq10 : goal.returns-then-dictionary-end-eq10
returns-then-dictionary-end-eq10 c = omega (arith, upto_ten c.args.dictionary.now c.loop-end.end c.loop-end-test.true c.if-dictionary-end-eq10.true)

pub loop-end-preserved : goal.loop-end-preserved
loop-end-preserved c = omega (arith, upto_more c.args.dictionary.now c.loop-end.end c.loop-end-test.true c.if-dictionary-end-eq10.false)

pub returns : goal.returns
returns c = omega (arith, upto_end c.args.dictionary.now c.loop-end.end c.loop-end-test.false)
