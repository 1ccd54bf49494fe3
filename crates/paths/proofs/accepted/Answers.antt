use Rattle.std.proofs.Common.{arith}
use Rattle.paths.proofs.Read.{standing_noted, standing_kept, standing_row, standing_child, standing_all, standing_more, standing_falls}
use Rattle.paths.proofs.Steps.{context_next, context_hole, child_rows}
use Rattle.paths.proofs.accepted.Goals as goal

pub recall-i-requires : goal.recall-i-requires
recall-i-requires c =
    let p = c.requires in
    record { few = p.few; small = omega (arith, context_next p.path.some.1, p.small); some = (c.args.tree.now.label.now, p.some.0, p.path, p.some.1, p.some.2) }

pub loop-here-init : goal.loop-here-init
loop-here-init c =
    let p = c.requires in
    let s = c.recall-i.ensures.is c.args.tree.now.label.now p.some.0 p.path p.some.1 p.some.2 in
    let r = standing_row (standing_noted s) p.path in
    record { standing = s; labelled = r.0; few = r.2; long = s.places.long }

pub returns-then-here-b : goal.returns-then-here-b
returns-then-here-b c =
    let s = c.loop-here.invariant.standing in
    record { next = _; after = standing_all (standing_noted s) c.if-here-b.true; remembers = standing_kept s }

pub after_path-requires : goal.after_path-requires
after_path-requires c = c.requires.path

pub returns-then-i-eq63 : goal.returns-then-i-eq63
returns-then-i-eq63 c = record { next = _; after = c.after_path.ensures; remembers = standing_kept c.loop-here.invariant.standing }

pub child-u-requires : goal.child-u-requires
child-u-requires c = standing_child (standing_noted c.loop-here.invariant.standing) c.requires.path c.if-here-b.false

pub new-requires : goal.new-requires
new-requires c = omega (arith, c.child-u.ensures.low, context_hole c.requires.path.some.1, c.requires.small)

pub loop-here-smaller : goal.loop-here-smaller
loop-here-smaller c = rw c.new.ensures (standing_falls c.loop-here.invariant.standing c.child-u.result c.step-state.result.next c.step-state.result.end c.if-i-eq63.false c.child-u.ensures)

pub loop-here-preserved : goal.loop-here-preserved
loop-here-preserved c =
    let n = standing_noted c.loop-here.invariant.standing in
    let p = c.requires.path in
    let k = child_rows (standing_child n p c.if-here-b.false).below c.child-u.ensures.ahead c.child-u.ensures.low in
    let s = standing_more n c.if-i-eq63.false c.child-u.ensures k.0 c.step-state.ensures in
    let r = standing_row (standing_noted s) p in
    rw c.new.ensures (record { standing = s; labelled = r.0; few = r.2; long = s.places.long })
