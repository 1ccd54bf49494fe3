use mathlib.Core.Path.{refl}
use Rattle.meaning.proofs.Answers.{said_no}
use Rattle.pattern.specs.Answer.{codes, listed}
use Rattle.pattern.specs.Scan.{passed, failed}
use Rattle.pattern.proofs.Turns.{seen_none, seen_all, seen_unsized, seen_misnamed, seen_known, seen_new, seen_room}
use Rattle.pattern.proofs.scan.Goals as goal
use Rattle.pattern.proofs.scan.Goals.{in-Known, in-New}

pub loop-row-init : goal.loop-row-init
unfolding listed codes
loop-row-init c = seen_none _ _ _

pub returns-then-not-sized : goal.returns-then-not-sized
returns-then-not-sized c =
    let h = said_no c.sized.ensures c.if-not-sized.true in
    failed (seen_unsized c.loop-row.invariant c.requires.named c.requires.sized c.loop-row-test.true h) c.refused.ensures

pub named-requires : goal.named-requires
named-requires c = (seen_room c.loop-row.invariant, c.loop-row.invariant.few)

pub returns-in-Bad : goal.returns-in-Bad
returns-in-Bad c =
    failed (seen_misnamed c.loop-row.invariant c.requires.named c.requires.sized c.loop-row-test.true c.in-Bad.ensures) c.refused-in-Bad.ensures

pub loop-row-preserved : goal.loop-row-preserved
loop-row-preserved c =
    let v = c.loop-row.invariant in
    let fits = c.sized.ensures.0 c.if-not-sized.false in
    elim c.match-named.branch [
      | in-Known w ↦
          rw (w.variables-is, w.kinds-is) (seen_known v c.requires.named c.requires.sized c.loop-row-test.true fits w.in-Known.ensures)
      | in-New w ↦
          rw (w.variables-is, w.kinds-is) (seen_new v c.requires.named c.requires.sized c.loop-row-test.true fits w.in-New.ensures)
    ]

pub returns : goal.returns
returns c =
    let q = seen_all c.loop-row.invariant c.requires.named c.requires.sized c.loop-row-test.false in
    passed q.0 q.1 q.2 refl q.3 q.4
