use Prim.Native.Nat.{◌<◌}
use lib.ListN.{length}
use native.Mathlib.Omega.{arith}
use Rattle.walk.proofs.Packs.{packing_room, packing_more}
use Rattle.walk.proofs.Rows.{numbers_long, row_put}
use Rattle.walk.proofs.pack.Goals as goal

pub bounds-packed-row : goal.bounds-packed-row
bounds-packed-row c = omega (arith, packing_room c.loop-row.invariant c.requires c.loop-row-test.true, numbers_long c.loop-row.packed)

pub loop-row-preserved : goal.loop-row-preserved
loop-row-preserved c =
    let long = numbers_long c.loop-row.packed in
    let inside : c.loop-row.row < length c.loop-row.packed = omega (arith, packing_room c.loop-row.invariant c.requires c.loop-row-test.true, long) in
    packing_more c.loop-row.invariant c.requires c.loop-row-test.true c.holder_of-holder.ensures c.at-x.ensures.0 c.entry.ensures c.entry-in-loop-row.ensures (row_put c.loop-row.packed c.loop-row.row _ inside)
