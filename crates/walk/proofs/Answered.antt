-- What the walk's answer says to its caller.
use Prim.Native.Nat.{ℕ, ◌+◌}
use mathlib.Core.Path.{◌≡◌, refl}
use mathlib.Core.List.{List, []}
use lib.ListN.{length, take}
use native.Mathlib.Omega.{arith}
use Rattle.meaning.specs.Pattern.{Kind}
use Rattle.meaning.specs.Record.{Entry, numbers}
use Rattle.meaning.proofs.Tame.{numbers_double}
use Rattle.meaning.proofs.Walk.{Res, fail, ok, over}
use Rattle.variable.proofs.States.{count_bound}
use Rattle.walk.specs.Taken.{Answers, fails, needs, matches}
use Rattle.walk.specs.Cycle.{Agree, both_fail, both_need, both_ok}
use Rattle.std.specs.Prelude.{Result, Ok, Err}
use Rattle.walk.specs.declared.Halt.{Halt}
use Rattle.walk.specs.declared.Halt.TheVariants as halt

pub failed : {R : List ℕ} {r : Res} → Answers R (Err halt.Fail) r → r ≡ fail
failed fails = refl

pub matched : {R : List ℕ} {n : ℕ} {r : Res} → Answers R (Ok n) r → (B : List Entry) × (r ≡ ok B []) × (take (length (numbers B)) R ≡ numbers B)
matched {n = n} (matches {B = B} a b) =
    let y : n + n ≡ length (numbers B) = omega (arith, a, numbers_double B) in
    (B, refl, rw y at b)

-- a walk with no choices left, and nothing behind it
pub answers : {L S R A K N Z : List ℕ} {Q : List Kind} {p₀ m : ℕ} {f : List ℕ → Res} {o : Result ℕ Halt} → Agree L S R A K N Z Q p₀ m [] f o → Answers R o (over (f []))
answers (both_fail e) = rw (e []) fails
answers (both_need h w) = rw w.asks (needs (count_bound w.state) w.state.numbered)
answers (both_ok k s e) = rw (e []) (matches (count_bound s) s.numbered)
