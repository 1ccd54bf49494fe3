use Rattle.std.proofs.Common.{◌≡◌, refl, List, ℕ, ◌+◌, slice_set, ap₂, ◌∙◌, arith}
use Rattle.instance.specs.Places.{along, resized}
use Rattle.instance.proofs.Writes.{sets_more}
use Rattle.instance.proofs.value.copy_above.Goals as goal

pub loop-i-init : goal.loop-i-init
unfolding along
loop-i-init c = refl

pub resized-requires : goal.resized-requires
resized-requires c = c.requires.each (c.args.from + c.loop-i.i) (omega arith) (omega arith)

pub loop-i-preserved : goal.loop-i-preserved
loop-i-preserved c =
    ap₂ (λ (xs : List ℕ) (v : ℕ). slice_set xs (c.args.to + c.loop-i.i) v) c.loop-i.invariant c.resized.ensures
    ∙ sets_more c.args.out.now c.args.to (resized c.args.size.now c.args.hole c.args.taken c.args.filled) c.args.from c.loop-i.i

pub returns : goal.returns
returns c = let e : c.loop-i.i ≡ c.args.count = omega arith in rw (← e) c.loop-i.invariant
