use mathlib.Core.Path.{refl, ap, ◌∙◌}
use Prim.Native.Nat.{ℕ, ◌%◌, ◌^◌}
use native.Mathlib.Nat.{one-mul, mod-eq_of_lt}
use lib.Bits.{bit_or}
use lib.Pow.{pow-lt}
use Rattle.letters.proofs.Firsts.{is_rest}
use Rattle.letters.proofs.head_of.Goals as goal

pub returns-in-0 : goal.returns-in-0
returns-in-0 c = rw c.in-0.is (
  ap (λ (x : ℕ). x % 2 ^ 64) (one-mul (2 ^ c.args.row)) ∙ mod-eq_of_lt (pow-lt c.requires),
  refl,
)

pub returns-in-2 : goal.returns-in-2
returns-in-2 c = rw c.in-2.is (ap (λ (x : ℕ). bit_or c.args.l.first x) c.gated.ensures, refl)

pub returns-in-3 : goal.returns-in-3
returns-in-3 c = rw c.in-3.is (refl, refl)

pub returns-in_default : goal.returns-in_default
returns-in_default c = let n = c.in_default.in_default-own.rest in
    let k = is_rest c.args.kind n.0.0.0.1 n.0.0.1 n.0.1 n.1 in
    rw k.1 (refl, refl)
