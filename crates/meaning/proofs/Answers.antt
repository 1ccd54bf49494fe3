-- A yes that holds and a no that holds.
use Prim.Native.Nat.{ℕ, ◌<◌}
use mathlib.Core.Path.{◌≡◌, refl}
use mathlib.Core.Bool.{Bool, true, false}
use lib.Dec.{eqb, ltb}
use native.Mathlib.Omega.{arith}
use borrow.Author.Tests.{eqb-true, eq-eqb, ltb-true, lt-ltb}
use Rattle.meaning.specs.Calls.{Says}

pub says_yes : {P : Type 0} → P → Says true P
says_yes p = (λ _. p, λ _. refl)

pub says_no : {P : Type 0} → (P → ⊥) → Says false P
says_no n = (λ h. absurd (let z : ◌≡◌ {A = ℕ} 0 1 = cc in omega arith), λ p. absurd (n p))

pub says_equal : {P : Type 0} (a b : ℕ) → (a ≡ b → P) → (P → a ≡ b) → Says (eqb a b) P
says_equal a b f g = (λ e. f (eqb-true a b e), λ p. eq-eqb a b (g p))

pub says_less : {P : Type 0} (a b : ℕ) → (a < b → P) → (P → a < b) → Says (ltb a b) P
says_less a b f g = (λ e. f (ltb-true a b e), λ p. lt-ltb a b (g p))

-- what a no says
pub said_no : {r : Bool} {P : Type 0} → Says r P → r ≡ false → P → ⊥
said_no s f p =
    let t = s.1 p in
    let z : ◌≡◌ {A = ℕ} 0 1 = cc in
    omega arith

-- the answer is settled
pub one_answer : (r s : Bool) {P : Type 0} → Says r P → Says s P → r ≡ s
one_answer true true x y = refl
one_answer true false x y = absurd (said_no y refl (x.0 refl))
one_answer false true x y = absurd (said_no x refl (y.0 refl))
one_answer false false x y = refl
