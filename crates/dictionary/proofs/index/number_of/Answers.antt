use Prim.Native.Nat.{◌<◌}
use native.Mathlib.Omega.{arith}
use Rattle.dictionary.specs.Scan.{range}
use Rattle.dictionary.proofs.Buckets.{bucket_below}
use Rattle.dictionary.proofs.Insert.{numbered_old, numbered_new}
use Rattle.dictionary.proofs.index.number_of.Goals as goal

pub returns-then-place-count : goal.returns-then-place-count
returns-then-place-count c = λ known m. numbered_old m (c.seek-place.ensures known m) c.if-place-count.true

pub insert-requires : goal.insert-requires
insert-requires c = let a = c.args in
    let low : c.bucket_of-bucket.result < 2048 = rw c.bucket_of-bucket.ensures (bucket_below (range a.document.now a.start a.end)) in
    (omega (arith, c.requires.1.room), omega (arith, c.requires.1.countable), low, omega (arith, c.requires.1), omega (arith, c.requires.1.short))

pub returns : goal.returns
returns c = λ known m. numbered_new m (c.seek-place.ensures known m) c.if-place-count.false c.bucket_of-bucket.ensures c.insert.ensures
