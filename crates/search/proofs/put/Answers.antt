use Rattle.std.proofs.Common.{◌≡◌, arith}
use native.Mathlib.Numerals.{add-one}
use lib.Seq.{paste-zero, paste-suc}
use Rattle.search.proofs.put.Goals as goal

pub loop-j-init : goal.loop-j-init
loop-j-init c = paste-zero c.args.out.now c.args.at c.args.«record».now

pub loop-j-preserved : goal.loop-j-preserved
loop-j-preserved c =
    let j = c.loop-j.j in
    rw (c.loop-j.invariant, add-one j) (paste-suc c.args.out.now c.args.at c.args.«record».now j 0 (omega arith) (omega arith))

pub returns : goal.returns
returns c = let e : c.loop-j.j ≡ c.args.n = omega arith in rw (← e) c.loop-j.invariant
