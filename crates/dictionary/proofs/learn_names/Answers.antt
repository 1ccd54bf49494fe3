use native.Mathlib.Omega.{arith}
use Rattle.dictionary.proofs.Learning.{learning_ends, learning_next, may_learn, refused_end, refused_empty, refused_many, refused_twice, turn_of}
use Rattle.dictionary.proofs.learn_names.Goals as goal

pub returns-then-end-dictionary : goal.returns-then-end-dictionary
returns-then-end-dictionary c = refused_end (turn_of c.loop-start.invariant c.loop-start-test.true c.name_end-end.ensures) c.if-end-dictionary.true

pub returns-then-end-start : goal.returns-then-end-start
returns-then-end-start c = refused_empty (turn_of c.loop-start.invariant c.loop-start-test.true c.name_end-end.ensures) (omega arith)

pub returns-then-names-ge-MOST_NAMES : goal.returns-then-names-ge-MOST_NAMES
returns-then-names-ge-MOST_NAMES c = refused_many (turn_of c.loop-start.invariant c.loop-start-test.true c.name_end-end.ensures) (omega arith)

pub number_of-number-requires : goal.number_of-number-requires
number_of-number-requires c = (_, may_learn (turn_of c.loop-start.invariant c.loop-start-test.true c.name_end-end.ensures) (omega arith))

pub returns-then-number-names : goal.returns-then-number-names
returns-then-number-names c = let t = turn_of c.loop-start.invariant c.loop-start-test.true c.name_end-end.ensures in
    refused_twice t (c.number_of-number.ensures _ (may_learn t (omega arith))) c.if-number-names.true

pub loop-start-preserved : goal.loop-start-preserved
loop-start-preserved c = let t = turn_of c.loop-start.invariant c.loop-start-test.true c.name_end-end.ensures in
    learning_next t (c.number_of-number.ensures _ (may_learn t (omega arith))) c.if-end-dictionary.false (omega arith) (omega arith) (omega arith)

pub returns : goal.returns
returns c = let k = c.loop-start in learning_ends c.args.dictionary.now c.args.index.now k.index k.start k.names k.invariant c.loop-start-test.false
