use mathlib.Core.Path.{refl, ap}
use Prim.Native.Nat.{ℕ}
use lib.Bits.{bit_or}
use Rattle.letters.proofs.Firsts.{follow_keep, follow_loop}
use Rattle.letters.proofs.follow.Goals as goal

pub returns-then-kind-eq-CONCATENATION : goal.returns-then-kind-eq-CONCATENATION
returns-then-kind-eq-CONCATENATION c = rw c.if-kind-eq-CONCATENATION.true (ap (λ (x : ℕ). bit_or c.args.head.first x) c.gated.ensures, refl)

pub returns-then-kind-lt4 : goal.returns-then-kind-lt4
returns-then-kind-lt4 c = (follow_keep _ _ _ _ c.if-kind-eq-CONCATENATION.false c.if-kind-lt4.true, follow_keep _ _ _ _ c.if-kind-eq-CONCATENATION.false c.if-kind-lt4.true)

pub returns : goal.returns
returns c = (follow_loop _ _ _ _ c.if-kind-lt4.false, follow_loop _ _ _ _ c.if-kind-lt4.false)
