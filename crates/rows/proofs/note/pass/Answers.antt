use Prim.Native.Nat.{ℕ}
use native.Mathlib.Omega.{arith}
use lib.ListN.{length-replicate}
use Rattle.rows.proofs.Asked.{handed_on}
use Rattle.rows.proofs.Noting.{begins}
use Rattle.rows.proofs.Turning.{may_turn, turn_ends, turn_stops, turn_opens, turn_empties, turn_closes}
use Rattle.rows.proofs.note.pass.Goals as goal

pub loop-turn-init : goal.loop-turn-init
loop-turn-init c = begins _ _ _ _ _ c.requires.1 (length-replicate {A = ℕ} 64 0)

pub read_turn-requires : goal.read_turn-requires
read_turn-requires c =
    let k = c.loop-turn.invariant in
    (k.walked.o, k.walked.f, may_turn k c.requires.0)

pub returns-in_err-turn : goal.returns-in_err-turn
returns-in_err-turn c = let k = c.loop-turn.invariant in
    rw (handed_on c.from_residual.result c.from_residual.ensures.1) (turn_stops k _ (c.in_err-turn.ensures _ _ (may_turn k c.requires.0)))

pub returns-in-Ends : goal.returns-in-Ends
returns-in-Ends c = let k = c.loop-turn.invariant in
    turn_ends k (rw c.in-Ends.is at (c.in_ok-turn.ensures _ _ (may_turn k c.requires.0)))

pub overflow_cast-around : goal.overflow_cast-around
overflow_cast-around c = let k = c.loop-turn.invariant in let done = turn_opens k (rw c.in-Opens.is at (c.in_ok-turn.ensures _ _ (may_turn k c.requires.0))) in
    omega (arith, done.low)

pub bounds-around-depth : goal.bounds-around-depth
bounds-around-depth c = let k = c.loop-turn.invariant in let done = turn_opens k (rw c.in-Opens.is at (c.in_ok-turn.ensures _ _ (may_turn k c.requires.0))) in
    omega (arith, done.shallow, k.room)

pub overflow_add-row : goal.overflow_add-row
overflow_add-row c = let k = c.loop-turn.invariant in let done = turn_opens k (rw c.in-Opens.is at (c.in_ok-turn.ensures _ _ (may_turn k c.requires.0))) in
    omega (arith, done.few)

pub loop-turn-smaller-in-Opens : goal.loop-turn-smaller-in-Opens
loop-turn-smaller-in-Opens c = let k = c.loop-turn.invariant in let done = turn_opens k (rw c.in-Opens.is at (c.in_ok-turn.ensures _ _ (may_turn k c.requires.0))) in
    omega (arith, done.behind.more, done.behind.within)

pub loop-turn-preserved-in-Opens : goal.loop-turn-preserved-in-Opens
loop-turn-preserved-in-Opens c = let k = c.loop-turn.invariant in let done = turn_opens k (rw c.in-Opens.is at (c.in_ok-turn.ensures _ _ (may_turn k c.requires.0))) in
    done.kept

pub overflow_add-row-in-Empty : goal.overflow_add-row-in-Empty
overflow_add-row-in-Empty c = let k = c.loop-turn.invariant in let done = turn_empties k (rw c.in-Empty.is at (c.in_ok-turn.ensures _ _ (may_turn k c.requires.0))) in
    omega (arith, done.few)

pub loop-turn-smaller-in-Empty : goal.loop-turn-smaller-in-Empty
loop-turn-smaller-in-Empty c = let k = c.loop-turn.invariant in let done = turn_empties k (rw c.in-Empty.is at (c.in_ok-turn.ensures _ _ (may_turn k c.requires.0))) in
    omega (arith, done.behind.more, done.behind.within)

pub loop-turn-preserved-in-Empty : goal.loop-turn-preserved-in-Empty
loop-turn-preserved-in-Empty c = let k = c.loop-turn.invariant in let done = turn_empties k (rw c.in-Empty.is at (c.in_ok-turn.ensures _ _ (may_turn k c.requires.0))) in
    done.kept

pub close-requires : goal.close-requires
close-requires c = let k = c.loop-turn.invariant in let done = turn_closes k (rw c.in-Closes.is at (c.in_ok-turn.ensures _ _ (may_turn k c.requires.0))) in
    (done.low, done.before, omega (arith, done.few))

pub overflow_sub-depth : goal.overflow_sub-depth
overflow_sub-depth c = let k = c.loop-turn.invariant in let done = turn_closes k (rw c.in-Closes.is at (c.in_ok-turn.ensures _ _ (may_turn k c.requires.0))) in
    done.some

pub loop-turn-smaller : goal.loop-turn-smaller
loop-turn-smaller c = let k = c.loop-turn.invariant in let done = turn_closes k (rw c.in-Closes.is at (c.in_ok-turn.ensures _ _ (may_turn k c.requires.0))) in
    omega (arith, done.behind.more, done.behind.within)

pub loop-turn-preserved : goal.loop-turn-preserved
loop-turn-preserved c = let k = c.loop-turn.invariant in let done = turn_closes k (rw c.in-Closes.is at (c.in_ok-turn.ensures _ _ (may_turn k c.requires.0))) in
    rw (c.close.ensures.0, c.close.ensures.1, c.close.ensures.2) (done.kept c.from-top.ensures)
