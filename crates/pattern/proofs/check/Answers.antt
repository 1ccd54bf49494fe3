use native.Mathlib.Omega.{arith}
use Rattle.meaning.proofs.Answers.{said_no}
use Rattle.pattern.proofs.Joint.{lengths, shape_some, good_scan, good_shape, good_root}
use Rattle.pattern.proofs.Settle.{settled_no, settled_scan}
use Rattle.pattern.proofs.check.Goals as goal

pub returns-then-pattern-rows : goal.returns-then-pattern-rows
returns-then-pattern-rows c = settled_no (λ g. c.if-pattern-rows.true (lengths (good_scan g.2)).0) c.refused.ensures

pub returns-then-pattern-rows-2 : goal.returns-then-pattern-rows-2
returns-then-pattern-rows-2 c = settled_no (λ g. c.if-pattern-rows-2.true (lengths (good_scan g.2)).1) c.refused-then-pattern-rows-2.ensures

pub returns-then-rows-gt256 : goal.returns-then-rows-gt256
returns-then-rows-gt256 c = settled_no (λ g. omega (arith, g.2.few, c.if-rows-gt256.true)) c.refused-then-rows-gt256.ensures

pub returns-then-not-shape : goal.returns-then-not-shape
returns-then-not-shape c =
    let h = said_no c.shape.ensures c.if-not-shape.true in
    settled_no (λ g. h (good_shape g.2, omega arith)) c.refused-then-not-shape.ensures

pub bounds-pattern-0 : goal.bounds-pattern-0
bounds-pattern-0 c = omega (arith, shape_some (c.shape.ensures.0 c.if-not-shape.false).0)

pub returns-then-pattern-eq-SEQUENCE : goal.returns-then-pattern-eq-SEQUENCE
returns-then-pattern-eq-SEQUENCE c = settled_no (λ g. good_root g.2 c.if-pattern-eq-SEQUENCE.true) c.refused-then-pattern-eq-SEQUENCE.ensures

pub returns : goal.returns
returns c = settled_scan (c.shape.ensures.0 c.if-not-shape.false).0 c.if-pattern-eq-SEQUENCE.false c.if-rows-gt256.false c.scan.ensures
