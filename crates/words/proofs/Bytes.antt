-- Numbers of several bytes are equal where the bytes are.
use mathlib.Core.Path.{◌≡◌, refl, sym, ap, ap₂, ◌∙◌}
use mathlib.Core.Bool.{Bool, true, false, cond, true≢false}
use mathlib.Core.List.{List}
use Prim.Native.Nat.{ℕ, zero, suc, ◌+◌, ◌-◌, ◌*◌, ◌/◌, ◌%◌, ◌≤◌, ◌<◌}
use native.Mathlib.Omega.{arith}
use native.Mathlib.Nat.{mul-le-mul_right}
use lib.Dec.{eqb, ltb}
use lib.ListN.{get_or, length, take, drop}
use lib.Pointwise.{pointwise}
use Rattle.std.proofs.lemmas.Bool.Decides.{Decides-eqb}
use Rattle.std.proofs.lemmas.Grind.{common_steps, same_number_lists}
use Rattle.std.proofs.lemmas.List.{get_or-take, get_or-drop}
use Rattle.std.proofs.lemmas.Slice.Eq.{slice_eq-Decides}
use Rattle.std.specs.Bool.{Decides}
use borrow.Author.Tests.{ltb-true, ltb-false, eqb-true, eq-eqb}
use Rattle.meaning.specs.Calls.{Says}
use Rattle.words.specs.Words.{word_of, Again, mixed_of, few_of, long_hash_of, hash_of}

-- FOUR AND EIGHT BYTES
pub half_is : (w : List ℕ) (i a b c d : ℕ) → a ≡ get_or w i 0 → b ≡ get_or w (i + 1) 0 → c ≡ get_or w (i + 2) 0 → d ≡ get_or w (i + 3) 0 →
    a + 256 * (b + 256 * (c + 256 * d)) ≡ word_of w i 4
unfolding word_of
half_is w i a b c d p q r s =
    let x : i + 2 ≡ i + 1 + 1 = omega arith in
    let y : i + 3 ≡ i + 1 + 1 + 1 = omega arith in
    omega (arith, p, q, rw x at r, rw y at s)

pub word_is : (w : List ℕ) (i x y : ℕ) → x ≡ word_of w i 4 → y ≡ word_of w (i + 4) 4 → x + 4294967296 * y ≡ word_of w i 8
unfolding word_of
word_is w i x y p q =
    let e : i + 4 ≡ i + 1 + 1 + 1 + 1 = omega arith in
    omega (arith, p, rw e at q)

-- THE BYTES OF A NUMBER
abbrev pub Bytes : List ℕ → Type 0
Bytes w = (k : ℕ) → get_or w k 0 < 256

digits_same : (v w : List ℕ) → Bytes v → Bytes w → (n a b : ℕ) → word_of v a n ≡ word_of w b n → (k : ℕ) → k < n → get_or w (b + k) 0 ≡ get_or v (a + k) 0
unfolding word_of
digits_same v w sv sw zero a b e k h = absurd (omega arith)
digits_same v w sv sw (suc n) a b e zero h =
    let x : a + 0 ≡ a = omega arith in
    let y : b + 0 ≡ b = omega arith in
    rw (x, y) (omega (arith, e, sv a, sw b))
digits_same v w sv sw (suc n) a b e (suc k) h =
    let x : a + suc k ≡ a + 1 + k = omega arith in
    let y : b + suc k ≡ b + 1 + k = omega arith in
    rw (x, y) (digits_same v w sv sw n (a + 1) (b + 1) (omega (arith, e, sv a, sw b)) k (omega (arith, h)))

-- WHAT STANDS AGAIN
pub again_none : (v : List ℕ) (a : ℕ) (w : List ℕ) (b : ℕ) → Again v a w b 0
again_none v a w b = record { each = λ j h. absurd (omega arith) }

-- m bytes that make one number
pub again_word : {v w : List ℕ} → Bytes v → Bytes w → (m a b x y : ℕ) → x ≡ word_of v a m → y ≡ word_of w b m → x ≡ y → Again v a w b m
again_word {v} {w} sv sw m a b x y p q e = record { each = digits_same v w sv sw m a b (sym p ∙ e ∙ q) }

-- a part of what stands again does
pub again_part : {v w : List ℕ} {a b n : ℕ} (k m : ℕ) → Again v a w b n → k + m ≤ n → Again v (a + k) w (b + k) m
again_part {v} {w} {a} {b} {n} k m h l = record { each = λ j p. part j (h.each (k + j) (omega (arith, p, l))) }
  where
    part : (j : ℕ) → get_or w (b + (k + j)) 0 ≡ get_or v (a + (k + j)) 0 → get_or w (b + k + j) 0 ≡ get_or v (a + k + j) 0
    part j e =
        let x : a + (k + j) ≡ a + k + j = omega arith in
        let y : b + (k + j) ≡ b + k + j = omega arith in
        rw (x, y) at e

-- .. and makes the same number
pub word_same : {v w : List ℕ} {a b n : ℕ} → Again v a w b n → word_of v a n ≡ word_of w b n
unfolding word_of
word_same {v} {w} {a} {b} {n} h = go n a b h.each
  where
    go : (n a b : ℕ) → ((k : ℕ) → k < n → get_or w (b + k) 0 ≡ get_or v (a + k) 0) → word_of v a n ≡ word_of w b n
    go zero a b e = refl
    go (suc n) a b e =
        let x : a + 0 ≡ a = omega arith in
        let y : b + 0 ≡ b = omega arith in
        let first : get_or w b 0 ≡ get_or v a 0 = rw (x, y) at (e 0 (omega arith)) in
        omega (arith, first, go n (a + 1) (b + 1) (λ k p. next k (e (suc k) (omega (arith, p)))))
      where
        next : (k : ℕ) → get_or w (b + suc k) 0 ≡ get_or v (a + suc k) 0 → get_or w (b + 1 + k) 0 ≡ get_or v (a + 1 + k) 0
        next k q =
            let x : a + suc k ≡ a + 1 + k = omega arith in
            let y : b + suc k ≡ b + 1 + k = omega arith in
            rw (x, y) at q

pub part_same : {v w : List ℕ} {a b n : ℕ} (k m : ℕ) → Again v a w b n → k + m ≤ n → word_of v (a + k) m ≡ word_of w (b + k) m
part_same k m h l = word_same (again_part k m h l)

-- m bytes more
pub again_more : {v w : List ℕ} {a b k : ℕ} (m : ℕ) → Again v a w b k → Again v (a + k) w (b + k) m → Again v a w b (k + m)
again_more {v} {w} {a} {b} {k} m h e = record { each = λ j p. go j p (ltb j k) refl }
  where
    go : (j : ℕ) → j < k + m → (t : Bool) → ltb j k ≡ t → get_or w (b + j) 0 ≡ get_or v (a + j) 0
    go j p true q = h.each j (ltb-true j k q)
    go j p false q =
        let x : a + k + (j - k) ≡ a + j = omega (arith, ltb-false j k q) in
        let y : b + k + (j - k) ≡ b + j = omega (arith, ltb-false j k q) in
        rw (x, y) at (e.each (j - k) (omega (arith, p, ltb-false j k q)))

-- .. the last m of n bytes, where no more than m are left
pub again_all : {v w : List ℕ} {a b k n : ℕ} (m : ℕ) → Again v a w b k → n ≤ k + m → m ≤ n → Again v (a + (n - m)) w (b + (n - m)) m → Again v a w b n
again_all {v} {w} {a} {b} {k} {n} m h l s e = record { each = λ j p. go j p (ltb j (n - m)) refl }
  where
    go : (j : ℕ) → j < n → (t : Bool) → ltb j (n - m) ≡ t → get_or w (b + j) 0 ≡ get_or v (a + j) 0
    go j p true q = h.each j (omega (arith, ltb-true j (n - m) q))
    go j p false q =
        let x : a + (n - m) + (j - (n - m)) ≡ a + j = omega (arith, ltb-false j (n - m) q) in
        let y : b + (n - m) + (j - (n - m)) ≡ b + j = omega (arith, ltb-false j (n - m) q) in
        rw (x, y) at (e.each (j - (n - m)) (omega (arith, p, ltb-false j (n - m) q)))

-- THE ANSWERS of a comparison: of two slices
slice_each : (v : List ℕ) (a n k : ℕ) → k < n → get_or (take (a + n - a) (drop a v)) k 0 ≡ get_or v (a + k) 0
slice_each v a n k h = get_or-take (a + n - a) (drop a v) k 0 (omega arith) ∙ get_or-drop a v k 0

slice_length : (v : List ℕ) (a n : ℕ) → a + n ≤ length v → length (take (a + n - a) (drop a v)) ≡ n
slice_length v a n h = grind (arith, common_steps)

pub says_equal : {v w : List ℕ} {a b n : ℕ} (r : Bool) → a + n ≤ length v → b + n ≤ length w →
    r ≡ pointwise eqb (take (a + n - a) (drop a v)) (take (b + n - b) (drop b w)) → Says r (Again v a w b n)
says_equal {v} {w} {a} {b} {n} r h l e =
    let x = take (a + n - a) (drop a v) in
    let y = take (b + n - b) (drop b w) in
    let says : Decides r (x ≡ y) = slice_eq-Decides Decides-eqb x y r e in (
      λ t. record { each = λ k p. sym (slice_each w b n k p) ∙ ap (λ (z : List ℕ). get_or z k 0) (sym (says.0 t)) ∙ slice_each v a n k p },
      λ q. says.1 (same_number_lists x y (slice_length v a n h ∙ sym (slice_length w b n l))
          (λ k p. let s : k < n = omega (arith, p, slice_length v a n h) in slice_each v a n k s ∙ sym (q.each k s) ∙ sym (slice_each w b n k s))),
    )

module _ {v w : List ℕ} (sv : Bytes v) (sw : Bytes w) {a b n : ℕ} (m : ℕ) {x y : ℕ} where
  -- a number differs
  pub says_word : (k : ℕ) → k + m ≤ n → x ≡ word_of v (a + k) m → y ≡ word_of w (b + k) m → (x ≡ y → ⊥) → Says false (Again v a w b n)
  says_word k l p q d = (λ e. absurd (true≢false (sym e)), λ h. absurd (d (p ∙ part_same k m h l ∙ sym q)))

  pub says_front : m ≤ n → x ≡ word_of v a m → y ≡ word_of w b m → (x ≡ y → ⊥) → Says false (Again v a w b n)
  says_front l p q d =
      let e : a + 0 ≡ a = omega arith in
      let f : b + 0 ≡ b = omega arith in
      says_word 0 (omega (arith, l)) (rw e p) (rw f q) d

  -- the last one decides
  pub says_last : {k : ℕ} → Again v a w b k → n ≤ k + m → m ≤ n → x ≡ word_of v (a + (n - m)) m → y ≡ word_of w (b + (n - m)) m → Says (eqb x y) (Again v a w b n)
  says_last {k} h l s p q = (
    λ e. again_all m h l s (again_word sv sw m (a + (n - m)) (b + (n - m)) x y p q (eqb-true x y e)),
    λ h. eq-eqb x y (p ∙ part_same (n - m) m h (omega (arith, s)) ∙ sym q),
  )

-- THE HASH fits
half_few : (x k : ℕ) → x < 4294967296 → k < 1073741824 → x * k < 4611686018427387904
half_few x k h l =
    let p : x * k ≤ 4294967296 * k = mul-le-mul_right k (omega (arith, h)) in
    omega (arith, p, l)

pub mixed_fits : (a b : ℕ) → a < 18446744073709551616 → b < 18446744073709551616 →
    (a % 4294967296) * 625343633 + (a / 4294967296) * 1013904243 + (b % 4294967296) * 461845907 + (b / 4294967296) * 668265263 < 18446744073709551616
mixed_fits a b h k =
    four _ _ _ _ (half_few (a % 4294967296) 625343633 (omega arith) (omega arith)) (half_few (a / 4294967296) 1013904243 (omega arith) (omega arith))
    (half_few (b % 4294967296) 461845907 (omega arith) (omega arith)) (half_few (b / 4294967296) 668265263 (omega arith) (omega arith))
  where
    four : (p q r s : ℕ) → p < 4611686018427387904 → q < 4611686018427387904 → r < 4611686018427387904 → s < 4611686018427387904 →
        p + q + r + s < 18446744073709551616
    four p q r s a b c d = omega arith

-- .. and hangs on the bytes alone
few_same : {v w : List ℕ} {a b n : ℕ} → Again v a w b n → 0 < n → few_of v a n ≡ few_of w b n
unfolding few_of
few_same {v} {w} {a} {b} {n} h p =
    let x : a + 0 ≡ a = omega arith in
    let y : b + 0 ≡ b = omega arith in
    let first : get_or w b 0 ≡ get_or v a 0 = rw (x, y) at (h.each 0 p) in
    omega (arith, first, h.each (n / 2) (omega (arith, p)), h.each (n - 1) (omega (arith, p)))

front_same : {v w : List ℕ} {a b n : ℕ} (m : ℕ) → Again v a w b n → m ≤ n → word_of v a m ≡ word_of w b m
front_same {v} {w} {a} {b} {n} m h l =
    let x : a + 0 ≡ a = omega arith in
    let y : b + 0 ≡ b = omega arith in
    let e : word_of v (a + 0) m ≡ word_of w (b + 0) m = part_same 0 m h (omega (arith, l)) in
    rw (x, y) at e

long_same : {v w : List ℕ} {a b n : ℕ} → Again v a w b n → 8 ≤ n → long_hash_of v a n ≡ long_hash_of w b n
unfolding long_hash_of
long_same {v} {w} {a} {b} {n} h p = go (ltb n 17) refl
  where
    edges : mixed_of (word_of v a 8) (word_of v (a + (n - 8)) 8) ≡ mixed_of (word_of w b 8) (word_of w (b + (n - 8)) 8)
    edges = ap₂ mixed_of (front_same 8 h p) (part_same (n - 8) 8 h (omega (arith, p)))

    go : (t : Bool) → ltb n 17 ≡ t →
        cond t (mixed_of (word_of v a 8) (word_of v (a + (n - 8)) 8)) (mixed_of (mixed_of (word_of v a 8) (word_of v (a + (n - 8)) 8) / 4194304) (word_of v (a + (n / 2 - 4)) 8))
        ≡ cond t (mixed_of (word_of w b 8) (word_of w (b + (n - 8)) 8)) (mixed_of (mixed_of (word_of w b 8) (word_of w (b + (n - 8)) 8) / 4194304) (word_of w (b + (n / 2 - 4)) 8))
    go true e = edges
    go false e = ap₂ mixed_of (ap (λ (x : ℕ). x / 4194304) edges) (part_same (n / 2 - 4) 8 h (omega (arith, ltb-false n 17 e)))

some : (n : ℕ) → eqb n 0 ≡ false → 0 < n
some zero e = absurd (true≢false e)
some (suc n) e = omega arith

pub hash_same : {v w : List ℕ} {a b n : ℕ} → Again v a w b n → hash_of v a n ≡ hash_of w b n
unfolding hash_of
hash_same {v} {w} {a} {b} {n} h = zero_or (eqb n 0) refl
  where
    by_eight : (t : Bool) → ltb n 8 ≡ t → 4 ≤ n →
        cond t (mixed_of (word_of v a 4) (word_of v (a + (n - 4)) 4)) (long_hash_of v a n) ≡ cond t (mixed_of (word_of w b 4) (word_of w (b + (n - 4)) 4)) (long_hash_of w b n)
    by_eight true e p = ap₂ mixed_of (front_same 4 h p) (part_same (n - 4) 4 h (omega (arith, p)))
    by_eight false e p = long_same h (ltb-false n 8 e)

    by_four : (t : Bool) → ltb n 4 ≡ t → 0 < n →
        cond t (mixed_of (few_of v a n) 0) (cond (ltb n 8) (mixed_of (word_of v a 4) (word_of v (a + (n - 4)) 4)) (long_hash_of v a n))
        ≡ cond t (mixed_of (few_of w b n) 0) (cond (ltb n 8) (mixed_of (word_of w b 4) (word_of w (b + (n - 4)) 4)) (long_hash_of w b n))
    by_four true e p = ap (λ (x : ℕ). mixed_of x 0) (few_same h p)
    by_four false e p = by_eight (ltb n 8) refl (ltb-false n 4 e)

    zero_or : (t : Bool) → eqb n 0 ≡ t →
        cond t 0 (cond (ltb n 4) (mixed_of (few_of v a n) 0) (cond (ltb n 8) (mixed_of (word_of v a 4) (word_of v (a + (n - 4)) 4)) (long_hash_of v a n)))
        ≡ cond t 0 (cond (ltb n 4) (mixed_of (few_of w b n) 0) (cond (ltb n 8) (mixed_of (word_of w b 4) (word_of w (b + (n - 4)) 4)) (long_hash_of w b n)))
    zero_or true e = refl
    zero_or false e = by_four (ltb n 4) refl (some n e)
