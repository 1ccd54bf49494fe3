-- The first binary digit that is set is that of the first byte that stops plain text.
use mathlib.Core.Path.{◌≡◌, refl, ap, ◌∙◌}
use mathlib.Core.Bool.{Bool, true, false, cond}
use mathlib.Core.List.{List}
use Prim.Native.Nat.{ℕ, zero, suc, ◌+◌, ◌*◌, ◌/◌, ◌%◌, ◌≤◌, ◌<◌}
use native.Mathlib.Omega.{arith}
use lib.Count.{count_trailing_zeros, under}
use lib.Dec.{ltb}
use lib.ListN.{get_or}
use Rattle.grammar.specs.Classes.{class_number}
use Rattle.tokens.specs.Tokens.{stop_number, stop_at, digits, plain, plain_at}

under_same : (d e t u : ℕ) → d ≡ e → t ≡ u → under d t ≡ under e u
under_same d e t u p q = ap (λ (x : ℕ). under x t) p ∙ ap (under e) q

-- the lowest digit is not set
goes_on : (k n m : ℕ) → n ≡ 2 * m → count_trailing_zeros (suc k) n ≡ suc (count_trailing_zeros k m)
unfolding count_trailing_zeros
goes_on k n m e = under_same (n % 2) 0 (count_trailing_zeros k (n / 2)) (count_trailing_zeros k m) (omega (arith, e)) (ap (count_trailing_zeros k) (omega (arith, e)))

-- the lowest digit is set
stops_here : (k n m : ℕ) → n ≡ 2 * m + 1 → count_trailing_zeros (suc k) n ≡ 0
unfolding count_trailing_zeros
stops_here k n m e = under_same (n % 2) 1 (count_trailing_zeros k (n / 2)) (count_trailing_zeros k (n / 2)) (omega (arith, e)) refl

-- r is at most n, and the digits before r are not set
pub record First (s : ℕ → ℕ) (i n r : ℕ) : Type 0 where
  pub below : r ≤ n
  pub clear : (k : ℕ) → k < r → s (i + k) ≡ 0

first_of : (s : ℕ → ℕ) → ((k : ℕ) → s k ≤ 1) → (i n w : ℕ) → First s i n (count_trailing_zeros (n + suc w) (digits s i n 1))
unfolding digits
first_of s bit i zero w =
    let e : count_trailing_zeros (0 + suc w) 1 ≡ 0 = ap (λ (x : ℕ). count_trailing_zeros x 1) (omega arith) ∙ stops_here w 1 0 (omega arith) in
    rw e (record { below = omega arith; clear = λ k h. absurd (omega arith) })
first_of s bit i (suc n) w = go (s i) refl (bit i) (first_of s bit (i + 1) n w)
  where
    width : suc n + suc w ≡ suc (n + suc w)
    width = omega arith

    go : (v : ℕ) → s i ≡ v → v ≤ 1 → First s (i + 1) n (count_trailing_zeros (n + suc w) (digits s (i + 1) n 1)) →
        First s i (suc n) (count_trailing_zeros (suc n + suc w) (v + 2 * digits s (i + 1) n 1))
    go zero e b h =
        let z : count_trailing_zeros (suc n + suc w) (0 + 2 * digits s (i + 1) n 1) ≡ suc (count_trailing_zeros (n + suc w) (digits s (i + 1) n 1)) =
        ap (λ (x : ℕ). count_trailing_zeros x (0 + 2 * digits s (i + 1) n 1)) width ∙ goes_on (n + suc w) _ (digits s (i + 1) n 1) (omega arith) in
        rw z (record { below = omega (arith, h.below); clear = λ k p. each k p })
      where
        each : (k : ℕ) → k < suc (count_trailing_zeros (n + suc w) (digits s (i + 1) n 1)) → s (i + k) ≡ 0
        each zero p = let q : i + 0 ≡ i = omega arith in rw q e
        each (suc k) p = let q : i + suc k ≡ i + 1 + k = omega arith in rw q (h.clear k (omega (arith, p)))
    go (suc zero) e b h =
        let z : count_trailing_zeros (suc n + suc w) (1 + 2 * digits s (i + 1) n 1) ≡ 0 =
        ap (λ (x : ℕ). count_trailing_zeros x (1 + 2 * digits s (i + 1) n 1)) width ∙ stops_here (n + suc w) _ (digits s (i + 1) n 1) (omega arith) in
        rw z (record { below = omega arith; clear = λ k p. absurd (omega arith) })
    go (suc (suc v)) e b h = absurd (omega (arith, b))

pub one_bit : (c : ℕ) → stop_number c ≤ 1
unfolding stop_number
one_bit c = go (ltb 1 c)
  where
    go : (t : Bool) → cond t 0 1 ≤ 1
    go true = omega arith
    go false = omega arith

stop_bit : (w : List ℕ) (k : ℕ) → stop_at w k ≤ 1
unfolding stop_at
stop_bit w k = one_bit (class_number (get_or w k 0))

clear_plain : (w : List ℕ) (k : ℕ) → stop_at w k ≡ 0 → plain_at w k ≡ true
unfolding stop_at stop_number plain
clear_plain w k h = go (ltb 1 (class_number (get_or w k 0))) h
  where
    go : (t : Bool) → ◌≡◌ {A = ℕ} (cond t 0 1) 0 → t ≡ true
    go true e = refl
    go false e = absurd (omega (arith, e))

pub four_are : (w : List ℕ) (i a b c d : ℕ) → a ≡ stop_number (class_number (get_or w i 0)) → b ≡ stop_number (class_number (get_or w (i + 1) 0)) →
    c ≡ stop_number (class_number (get_or w (i + 2) 0)) → d ≡ stop_number (class_number (get_or w (i + 3) 0)) → a + 2 * (b + 2 * (c + 2 * d)) ≡ digits (stop_at w) i 4 0
unfolding digits stop_at
four_are w i a b c d p q r s =
    let x : i + 2 ≡ i + 1 + 1 = omega arith in
    let y : i + 3 ≡ i + 1 + 1 + 1 = omega arith in
    omega (arith, p, q, rw x at r, rw y at s)

-- four digits and four more
eight : (s : ℕ → ℕ) (i near far : ℕ) → near ≡ digits s i 4 0 → far ≡ digits s (i + 4) 4 0 → near + 16 * far + 256 ≡ digits s i 8 1
unfolding digits
eight s i near far p q =
    let a : i + 4 ≡ i + 1 + 1 + 1 + 1 = omega arith in
    omega (arith, p, rw a at q)

pub counted : (w : List ℕ) (i near far : ℕ) → near ≡ digits (stop_at w) i 4 0 → far ≡ digits (stop_at w) (i + 4) 4 0 →
    (count_trailing_zeros 32 (near + 16 * far + 256) ≤ 8) × ((k : ℕ) → k < count_trailing_zeros 32 (near + 16 * far + 256) → plain_at w (i + k) ≡ true)
counted w i near far p q =
    let f : First (stop_at w) i 8 (count_trailing_zeros 32 (near + 16 * far + 256)) =
    rw (eight (stop_at w) i near far p q) (first_of (stop_at w) (stop_bit w) i 8 23) in
    (f.below, λ k h. clear_plain w (i + k) (f.clear k h))
