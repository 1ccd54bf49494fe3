-- A set of numbers as the binary digits of one number: membership, and the lowest set digit.
use mathlib.Core.Path.{◌≡◌, refl, ap, ◌∙◌, subst}
use mathlib.Core.Logic.{◌⊎◌, inl, inr}
use Prim.Native.Nat.{ℕ, zero, suc, ◌-◌, ◌*◌, ◌/◌, ◌%◌, ◌^◌, ◌≤◌, ◌<◌, max}
use native.Mathlib.Nat.{mod-eq_of_lt, one-mul, pow-suc}
use native.Mathlib.Omega.{arith}
use lib.Bits.{bit_or, or_step}
use lib.Pow.{pow-lt}
use lib.Count.{count_trailing_zeros, ones, ones_step}
use Rattle.letters.specs.Accepts.{Has}

-- ---- laws of membership

pub digit : (n : ℕ) → (n % 2 ≡ 0) ⊎ (n % 2 ≡ 1)
digit n = go (n % 2) (omega arith)
  where
    go : (d : ℕ) → d < 2 → (d ≡ 0) ⊎ (d ≡ 1)
    go zero h = inl refl
    go (suc zero) h = inr refl
    go (suc (suc d)) h = absurd (omega arith)

or_half : (a b : ℕ) → bit_or a b / 2 ≡ bit_or (a / 2) (b / 2)
or_half a b = omega (arith, or_step a b)

or_odd : (a b : ℕ) → bit_or a b % 2 ≡ max (a % 2) (b % 2)
or_odd a b = omega (arith, or_step a b)

pub has_or : (a b q : ℕ) → Has (bit_or a b) q → Has a q ⊎ Has b q
has_or a b zero h = go (digit a)
  where
    go : (a % 2 ≡ 0) ⊎ (a % 2 ≡ 1) → (a % 2 ≡ 1) ⊎ (b % 2 ≡ 1)
    go (inl e) = inr (omega (arith, or_odd a b))
    go (inr e) = inl e
has_or a b (suc q) h = has_or (a / 2) (b / 2) q (rw or_half at h)

pub has_or_l : (a b q : ℕ) → Has a q → Has (bit_or a b) q
has_or_l a b zero h = omega (arith, or_odd a b)
has_or_l a b (suc q) h = rw or_half (has_or_l (a / 2) (b / 2) q h)

pub has_or_r : (a b q : ℕ) → Has b q → Has (bit_or a b) q
has_or_r a b zero h = omega (arith, or_odd a b)
has_or_r a b (suc q) h = rw or_half (has_or_r (a / 2) (b / 2) q h)

pub has_zero : (q : ℕ) → Has 0 q → ⊥
has_zero zero h = omega arith
has_zero (suc q) h = has_zero q h

pow_half : (i : ℕ) → 2 ^ suc i / 2 ≡ 2 ^ i
pow_half i = omega (arith, pow-suc 2 i)

pub has_one : (i q : ℕ) → Has (2 ^ i) q → q ≡ i
has_one zero zero h = refl
has_one zero (suc q) h = absurd (has_zero q h)
has_one (suc i) zero h = absurd (omega (arith, pow-suc 2 i))
has_one (suc i) (suc q) h = ap suc (has_one i q (rw pow_half at h))

pub one_has : (i : ℕ) → Has (2 ^ i) i
one_has zero = refl
one_has (suc i) = rw pow_half (one_has i)

pub has_below : (k s q : ℕ) → s < 2 ^ k → Has s q → q < k
has_below zero s q h m = absurd (has_zero q (subst (λ (x : ℕ). Has x q) (omega arith) m))
has_below (suc k) s zero h m = omega arith
has_below (suc k) s (suc q) h m = omega (arith, has_below k (s / 2) q (omega (arith, pow-suc 2 k)) m)

-- ---- the lowest set digit

-- what holds of an odd number at 0, and passes from the half of an even number to that number, holds at the number of trailing zeros
module _ (P : ℕ → ℕ → ℕ → Type 0) (odd : (k s : ℕ) → s % 2 ≡ 1 → P (suc k) s 0)
    (even : (k s t : ℕ) → s % 2 ≡ 0 → 0 < s → 2 ^ t ≤ s / 2 → P k (s / 2) t → P (suc k) s (suc t)) where
  low_both : (k s : ℕ) → 0 < s → s < 2 ^ k → (2 ^ count_trailing_zeros k s ≤ s) × P k s (count_trailing_zeros k s)
  unfolding count_trailing_zeros
  low_both zero s p h = absurd (omega arith)
  low_both (suc k) s p h = go (low_both k (s / 2)) (digit s)
    where
      go : (0 < s / 2 → s / 2 < 2 ^ k → (2 ^ count_trailing_zeros k (s / 2) ≤ s / 2) × P k (s / 2) (count_trailing_zeros k (s / 2)))
          → (s % 2 ≡ 0) ⊎ (s % 2 ≡ 1) → (2 ^ count_trailing_zeros (suc k) s ≤ s) × P (suc k) s (count_trailing_zeros (suc k) s)
      go ih (inl e) =
          let r = ih (omega arith) (omega (arith, pow-suc 2 k)) in
          rw e (omega (arith, pow-suc 2 (count_trailing_zeros k (s / 2)), r.0), even k s _ e p r.0 r.1)
      go ih (inr e) = rw e (p, odd k s e)

  pub low_ind : (k s : ℕ) → 0 < s → s < 2 ^ k → P k s (count_trailing_zeros k s)
  low_ind k s p h = (low_both k s p h).1

pub low_le : (k s : ℕ) → 0 < s → s < 2 ^ k → 2 ^ count_trailing_zeros k s ≤ s
low_le k s p h = (low_both (λ k s t. Unit {0}) (λ k s e. tt) (λ k s t e p l r. tt) k s p h).0

pub low_lt : (k s : ℕ) → 0 < s → s < 2 ^ k → count_trailing_zeros k s < k
low_lt = low_ind (λ k s t. t < k) (λ k s e. omega arith) (λ k s t e p l r. omega arith)

-- what taking the lowest digit away leaves
pub odd_half : (s : ℕ) → s % 2 ≡ 1 → (s - 1) / 2 ≡ s / 2
odd_half s e = omega arith

pub even_half : (s t : ℕ) → s % 2 ≡ 0 → 2 ^ t ≤ s / 2 → (s - 2 ^ suc t) / 2 ≡ s / 2 - 2 ^ t
even_half s t e l = omega (arith, pow-suc 2 t)

pub even_odd : (s t : ℕ) → s % 2 ≡ 0 → 2 ^ t ≤ s / 2 → (s - 2 ^ suc t) % 2 ≡ 0
even_odd s t e l = omega (arith, pow-suc 2 t)

-- the count of set digits falls by one
pub low_ones : (k s : ℕ) → 0 < s → s < 2 ^ k → suc (ones (s - 2 ^ count_trailing_zeros k s)) ≡ ones s
low_ones =
    low_ind (λ k s t. suc (ones (s - 2 ^ t)) ≡ ones s)
    (λ k s e. omega (arith, ones_step (s - 1), ones_step s, ap ones (odd_half s e)))
    (λ k s t e p l r. omega (arith, ones_step (s - 2 ^ suc t), ones_step s, ap ones (even_half s t e l), even_odd s t e l))

-- What a turn of the loop over a u64 set wants of the lowest letter.
pub record Lowest (s : ℕ) : Type 0 where
  pub lt : count_trailing_zeros 64 s < 64
  pub le : 2 ^ count_trailing_zeros 64 s ≤ s
  pub bit : (1 * 2 ^ count_trailing_zeros 64 s) % 2 ^ 64 ≡ 2 ^ count_trailing_zeros 64 s
  pub fewer : suc (ones (s - 2 ^ count_trailing_zeros 64 s)) ≡ ones s

pub lowest : (s : ℕ) → (s ≡ 0 → ⊥) → s < 2 ^ 64 → Lowest s
lowest s n h =
    let p : 0 < s = omega arith in
    let l = low_lt 64 s p h in
    record {
      lt = l;
      le = low_le 64 s p h;
      bit = ap (λ (x : ℕ). x % 2 ^ 64) (one-mul (2 ^ count_trailing_zeros 64 s)) ∙ mod-eq_of_lt (pow-lt l);
      fewer = low_ones 64 s p h;
    }
