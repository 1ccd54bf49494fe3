-- The table of all bytes from that of the ASCII codes.
use mathlib.Core.Path.{◌≡◌, refl, sym, ap, ◌∙◌}
use mathlib.Core.Bool.{Bool, true, false}
use mathlib.Core.List.{List, ◌++◌}
use Prim.Native.Nat.{ℕ, ◌+◌, ◌-◌, ◌≤◌, ◌<◌}
use native.Mathlib.Omega.{arith}
use native.Mathlib.Decide.{ℕ_discrete}
use lib.Dec.{ltb}
use lib.ListN.{length, get_or, set, drop, replicate, length-set, get_or-replicate, length-append}
use Rattle.std.proofs.lemmas.List.{get_or_append_left, get_or-append_right, get_or-drop}
use lib.Seq.{get_or-set_same, get_or-set_other}
use borrow.Author.Tests.{lt-ltb, ltb-true, ltb-false}
use Rattle.grammar.specs.Classes.{class_number}
use Rattle.tokens.specs.Tokens.{Coded, Spread, stop_number}

-- a byte over 127 has no class
pub no_class : (b : ℕ) → 127 < b → class_number b ≡ 0
unfolding class_number
no_class b h = simp (lt-ltb 127 b h)

-- the classes of the ASCII codes, and then noughts
pub spread_all : (codes : List ℕ) → length codes ≡ 128 → Coded codes → Spread (codes ++ drop 128 (replicate 512 0))
spread_all codes many c = record {
  long = length-append codes (drop 128 (replicate 512 0)) ∙ omega (arith, many);
  each = λ k h. go k h (ltb k 128) refl;
}
  where
    go : (k : ℕ) → k < 256 → (t : Bool) → ltb k 128 ≡ t → get_or (codes ++ drop 128 (replicate 512 0)) k 0 ≡ class_number k
    go k h true e = let p : k < 128 = ltb-true k 128 e in get_or_append_left codes (drop 128 (replicate 512 0)) 0 k (omega (arith, many)) ∙ c.each k p
    go k h false e =
        let p : 128 ≤ k = ltb-false k 128 e in
        get_or-append_right codes (drop 128 (replicate 512 0)) 128 k 0 many p ∙ get_or-drop 128 (replicate 512 0) (k - 128) 0
        ∙ get_or-replicate {A = ℕ} 512 (128 + (k - 128)) 0 0 (omega arith) ∙ sym (no_class k (omega arith))

-- and behind the classes which of the bytes below k stop plain text
pub record Stopping (k : ℕ) (l : List ℕ) : Type 0 where
  pub few : k ≤ 256
  pub spread : Spread l
  pub done : (j : ℕ) → j < k → get_or l (256 + j) 0 ≡ stop_number (class_number j)

pub stopping : {l : List ℕ} → Spread l → Stopping 0 l
stopping h = record { few = omega arith; spread = h; done = λ j p. absurd (omega arith) }

pub stop_more : {l : List ℕ} {k s : ℕ} → Stopping k l → k < 256 → s ≡ stop_number (get_or l k 0) → Stopping (k + 1) (set l (256 + k) s)
stop_more {l} {k} {s} h p e = record {
  few = omega arith;
  spread = record {
    long = length-set l (256 + k) s ∙ h.spread.long;
    each = λ j q. get_or-set_other l (256 + k) j s 0 (λ z. omega (arith, q, z)) ∙ h.spread.each j q;
  };
  done = λ j q. elim (ℕ_discrete j k) [
    | yes z ↦ rw z (get_or-set_same l (256 + k) s 0 (omega (arith, h.spread.long)) ∙ e ∙ ap stop_number (h.spread.each k p))
    | no z ↦ get_or-set_other l (256 + k) (256 + j) s 0 (λ y. z (omega (arith, y))) ∙ h.done j (omega (arith, q, z))
  ];
}
