use Prim.Native.Nat.{◌-◌, ◌<◌}
use native.Mathlib.Omega.{arith}
use Rattle.dictionary.specs.Scan.{range}
use Rattle.dictionary.proofs.Buckets.{bucket_below}
use Rattle.dictionary.proofs.Chains.{seek_begins, seek_place, seek_found, seek_ends}
use Rattle.dictionary.proofs.index.seek.Goals as goal

pub offset_bounds-index-bucket : goal.offset_bounds-index-bucket
offset_bounds-index-bucket c = let a = c.args in
    let low : a.bucket < 2048 = rw c.requires.1 (bucket_below (range a.document.now a.start a.end)) in
    omega arith

pub bounds-index-bucket : goal.bounds-index-bucket
bounds-index-bucket c = omega (arith, c.requires.1, bucket_below (range c.args.document.now c.args.start c.args.end))

pub loop-next-init : goal.loop-next-init
loop-next-init c = λ known m. seek_begins m c.requires.1 c.from-next.ensures

pub returns-then-is_at : goal.returns-then-is_at
returns-then-is_at c = λ known m. seek_found m (c.loop-next.next - 1) c.is_at.result (seek_place m (c.loop-next.invariant known m) c.loop-next-test.true) (c.is_at.ensures known m) c.if-is_at.true

pub returns : goal.returns
returns c = λ known m. seek_ends m (c.loop-next.invariant known m) c.loop-next-test.false
