use native.Mathlib.Omega.{arith}
use Rattle.openings.proofs.WalkBack.{pass_begins, before_end, before_empty, before_start, pass_some, pass_end, pass_empty, pass_start, pass_found}
use Rattle.openings.proofs.back.innermost_before.Goals as goal

pub loop-less-init : goal.loop-less-init
loop-less-init c = λ p o now. pass_begins now

pub tag_before-requires : goal.tag_before-requires
tag_before-requires c = pass_some (c.loop-less.invariant c.requires.0 c.requires.1 c.requires.2)

pub overflow_add-inside : goal.overflow_add-inside
overflow_add-inside c =
    let passed = c.loop-less.invariant c.requires.0 c.requires.1 c.requires.2 in
    omega (arith, passed.room, (before_end (c.in-End.ensures _ passed.here)).1)

pub loop-less-smaller-in-End : goal.loop-less-smaller-in-End
loop-less-smaller-in-End c =
    let passed = c.loop-less.invariant c.requires.0 c.requires.1 c.requires.2 in
    (before_end (c.in-End.ensures _ passed.here)).1

pub loop-less-preserved-in-End : goal.loop-less-preserved-in-End
loop-less-preserved-in-End c = λ p o now. let passed = c.loop-less.invariant p o now in pass_end passed (c.in-End.ensures _ passed.here)

pub loop-less-smaller-in-Empty : goal.loop-less-smaller-in-Empty
loop-less-smaller-in-Empty c =
    let passed = c.loop-less.invariant c.requires.0 c.requires.1 c.requires.2 in
    (before_empty (c.in-Empty.ensures _ passed.here)).0

pub loop-less-preserved-in-Empty : goal.loop-less-preserved-in-Empty
loop-less-preserved-in-Empty c = λ p o now. let passed = c.loop-less.invariant p o now in pass_empty passed (c.in-Empty.ensures _ passed.here)

pub returns-then-inside-eq0 : goal.returns-then-inside-eq0
returns-then-inside-eq0 c =
    λ p o now. let passed = c.loop-less.invariant p o now in pass_found passed c.if-inside-eq0.true (c.in-Start.ensures _ passed.here)

pub loop-less-smaller : goal.loop-less-smaller
loop-less-smaller c =
    let passed = c.loop-less.invariant c.requires.0 c.requires.1 c.requires.2 in
    before_start (c.in-Start.ensures _ passed.here)

pub loop-less-preserved : goal.loop-less-preserved
loop-less-preserved c =
    λ p o now. let passed = c.loop-less.invariant p o now in pass_start passed c.if-inside-eq0.false (c.in-Start.ensures _ passed.here)
