use Rattle.std.proofs.Common.{◌≡◌, refl, List, ℕ, ◌+◌, slice_set, slice_index, ap, ◌∙◌, arith}
use Rattle.instance.specs.Places.{along, number}
use Rattle.instance.proofs.Writes.{sets_more}
use Rattle.instance.proofs.value.copy.Goals as goal

pub loop-i-init : goal.loop-i-init
unfolding along
loop-i-init c = refl

pub loop-i-preserved : goal.loop-i-preserved
loop-i-preserved c =
    ap (λ (xs : List ℕ). slice_set xs (c.args.to + c.loop-i.i) (slice_index c.args.list.now (c.args.from + c.loop-i.i))) c.loop-i.invariant
    ∙ sets_more c.args.out.now c.args.to (number c.args.list.now) c.args.from c.loop-i.i

pub returns : goal.returns
returns c = let e : c.loop-i.i ≡ c.args.count = omega arith in rw (← e) c.loop-i.invariant
