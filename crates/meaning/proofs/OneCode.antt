-- One code at the most is given.
use Prim.Native.Nat.{ℕ}
use mathlib.Core.Path.{◌≡◌, ◌∙◌, sym}
use mathlib.Core.Logic.{inl, inr}
use Rattle.meaning.specs.Calls.{refuse, accept}

pub one_refuse : (code : ℕ) (Rule : Type 0) (others : ℕ → Type 0) (a b : ℕ) → ((a b : ℕ) → others a → others b → a ≡ b) → refuse code Rule others a → refuse code Rule others b → a ≡ b
one_refuse code Rule others a b one (inl h) (inl k) = h.1 ∙ sym k.1
one_refuse code Rule others a b one (inl h) (inr k) = absurd (h.0 k.0)
one_refuse code Rule others a b one (inr h) (inl k) = absurd (k.0 h.0)
one_refuse code Rule others a b one (inr h) (inr k) = one a b h.1 k.1

pub one_accept : (a b : ℕ) → accept a → accept b → a ≡ b
one_accept a b h k = h ∙ sym k
