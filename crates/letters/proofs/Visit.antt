-- The walk over a set from its lowest set digit up.
use mathlib.Core.Path.{◌≡◌, refl, sym, ap, ◌∙◌}
use Prim.Native.Nat.{ℕ, zero, suc, ◌+◌, ◌-◌, ◌/◌, ◌%◌, ◌^◌, ◌<◌}
use native.Mathlib.Nat.{zero-add, add-suc, suc-add, add-zero}
use native.Mathlib.Omega.{arith}
use lib.Count.{count_trailing_zeros}
use Rattle.letters.proofs.Sets.{low_ind, odd_half, even_half, even_odd}

abbrev pub pick : {A : Type 0} → ℕ → (A → A) → A → A
pick zero g a = a
pick (suc d) g a = g a

-- from the lowest set digit up, the first of k digits standing for the number i
unfoldable pub walk : {A : Type 0} → (ℕ → A → A) → ℕ → ℕ → ℕ → A → A
walk f zero i s a = a
walk f (suc k) i s a = walk f k (suc i) (s / 2) (pick (s % 2) (f i) a)

pub walk_zero : {A : Type 0} (f : ℕ → A → A) (k i : ℕ) (a : A) → walk f k i 0 a ≡ a
unfolding walk
walk_zero f zero i a = refl
walk_zero f (suc k) i a = walk_zero f k (suc i) a

pub walk_low : {A : Type 0} (f : ℕ → A → A) (k s : ℕ) → 0 < s → s < 2 ^ k → (i : ℕ) (a : A)
    → walk f k i s a ≡ walk f k i (s - 2 ^ count_trailing_zeros k s) (f (i + count_trailing_zeros k s) a)
unfolding walk
walk_low {A} f = low_ind (λ k s t. (i : ℕ) (a : A) → walk f k i s a ≡ walk f k i (s - 2 ^ t) (f (i + t) a))
    (λ k s e i a.
    let z : (s - 1) % 2 ≡ 0 = omega arith in
    rw (odd_half s e, z, e, add-zero))
    (λ k s t e p l r i a. rw (even_half s t e l, even_odd s t e l, e, add-suc, ← suc-add) (r (suc i) a))

-- The walk over a u64: shut, so that no goal unfolds it 64 times. A proof cites its laws.
unfoldable pub visit : {A : Type 0} → (ℕ → A → A) → ℕ → A → A
visit f s a = walk f 64 0 s a

pub visit_zero : {A : Type 0} (f : ℕ → A → A) (a : A) → visit f 0 a ≡ a
unfolding visit
visit_zero f a = walk_zero f 64 0 a

pub visit_low : {A : Type 0} (f : ℕ → A → A) (s : ℕ) (a : A) → 0 < s → s < 2 ^ 64
    → visit f s a ≡ visit f (s - 2 ^ count_trailing_zeros 64 s) (f (count_trailing_zeros 64 s) a)
unfolding visit
visit_low f s a p h =
    walk_low f 64 s p h 0 a ∙ ap (λ (t : ℕ). walk f 64 0 (s - 2 ^ count_trailing_zeros 64 s) (f t a)) (zero-add (count_trailing_zeros 64 s))

-- one turn of the loop
pub visit_turn : {A : Type 0} (f : ℕ → A → A) (s : ℕ) (a a' : A) → (s ≡ 0 → ⊥) → s < 2 ^ 64 → a' ≡ f (count_trailing_zeros 64 s) a
    → visit f (s - 2 ^ count_trailing_zeros 64 s) a' ≡ visit f s a
visit_turn f s a a' n h e =
    ap (λ (x : _). visit f (s - 2 ^ count_trailing_zeros 64 s) x) e ∙ sym (visit_low f s a (omega arith) h)
