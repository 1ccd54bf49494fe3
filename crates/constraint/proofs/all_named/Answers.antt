use Rattle.std.proofs.Common.{arith}
use Rattle.meaning.proofs.Answers.{says_yes, says_no}
use Rattle.constraint.proofs.Names.{marked_none, marked_one, first_low, lengths_known, named_one, named_not, named_all, next_inside}
use Rattle.constraint.proofs.all_named.Goals as goal

pub loop-x-init : goal.loop-x-init
loop-x-init c = marked_none _

pub overflow_add-marks : goal.overflow_add-marks
overflow_add-marks c = omega (arith, first_low c.requires c.loop-x.x c.loop-x-test.true)

pub offset_bounds-constraint-x : goal.offset_bounds-constraint-x
offset_bounds-constraint-x c = omega (arith, first_low c.requires c.loop-x.x c.loop-x-test.true)

pub bounds-constraint-x : goal.bounds-constraint-x
bounds-constraint-x c = (first_low c.requires c.loop-x.x c.loop-x-test.true).0

pub bounds-marks-constraint : goal.bounds-marks-constraint
bounds-marks-constraint c = (first_low c.requires c.loop-x.x c.loop-x-test.true).1

pub loop-x-preserved : goal.loop-x-preserved
loop-x-preserved c = marked_one c.loop-x.invariant (first_low c.requires c.loop-x.x c.loop-x-test.true).1

pub returns-then-not-marks-row : goal.returns-then-not-marks-row
returns-then-not-marks-row c es q =
    let known = lengths_known c.requires in
    says_no (named_not c.loop-row.invariant.named c.loop-row-test.true c.loop-x.invariant (omega arith) (omega (arith, known.0, c.loop-x-test.false)) c.if-not-marks-row.true es q)

pub loop-row-smaller : goal.loop-row-smaller
loop-row-smaller c =
    let known = (lengths_known c.requires).2 in
    omega (arith, next_inside c.loop-row.invariant.named c.loop-row-test.true known.0 known.1)

pub loop-row-preserved : goal.loop-row-preserved
loop-row-preserved c =
    let known = lengths_known c.requires in
    let next = next_inside c.loop-row.invariant.named c.loop-row-test.true known.2.0 known.2.1 in
    record { low = next.1; named = named_one c.loop-row.invariant.named c.loop-row-test.true c.loop-x.invariant (omega (arith, known.1)) c.if-not-marks-row.false }

pub returns : goal.returns
returns c es q = says_yes (named_all c.loop-row.invariant.named c.loop-row-test.false es q)
