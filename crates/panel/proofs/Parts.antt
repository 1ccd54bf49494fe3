-- Parts of a list: the parts joined are the list; a part that is written, and the others.
use Prim.Native.Nat.{ℕ, zero, suc, ◌+◌, ◌-◌, ◌≤◌, ◌<◌}
use mathlib.Core.Path.{◌≡◌, refl, ap, ◌∙◌, sym}
use mathlib.Core.List.{List, [], ◌∷◌, ◌++◌, append-nil, append_assoc}
use lib.ListN.{length, get_or, take, drop, length-drop}
use lib.Seq.{take-add, take-length, take_all, take-take, take_at, drop_at, length-take-le}
use borrow.Rule.Slice.PartMut.{same_len_mid, take_put, drop_put}
use native.Mathlib.Omega.{arith}
use Rattle.catalogue.specs.Listing.{joined}
use Rattle.panel.specs.Parts.{sum, part, first_parts, PartsJoined}
use Rattle.portion.specs.Portion.{most}
use Rattle.panel.specs.Panel.{Panel}
use Rattle.panel.specs.Inside.{AllReach, HasNext, WithNextPre, reach}
use Rattle.portion.specs.declared.Reach.{Reach}

-- the sum of one more length
sum_more : (i : ℕ) (lengths : List ℕ) → i < length lengths → sum (take (suc i) lengths) ≡ sum (take i lengths) + get_or lengths i 0
unfolding sum
sum_more zero (n ∷ ns) h = omega arith
sum_more (suc i) (n ∷ ns) h = omega (arith, sum_more i ns (omega arith))
sum_more i [] h = absurd (omega arith)

pub sum_next : (i : ℕ) (lengths : List ℕ) → i < length lengths → sum (take (i + 1) lengths) ≡ sum (take i lengths) + get_or lengths i 0
sum_next i lengths h = let e : i + 1 ≡ suc i = omega arith in ap (λ (n : ℕ). sum (take n lengths)) e ∙ sum_more i lengths h

pub sum_within : (i : ℕ) (lengths : List ℕ) → i < length lengths → sum (take i lengths) + get_or lengths i 0 ≤ sum lengths
unfolding sum
sum_within zero (n ∷ ns) h = omega arith
sum_within (suc i) (n ∷ ns) h = omega (arith, sum_within i ns (omega arith))
sum_within i [] h = absurd (omega arith)

joined_more : (xs : List (List ℕ)) (y : List ℕ) → joined (xs ++ (y ∷ [])) ≡ joined xs ++ y
joined_more [] y = append-nil y
joined_more (x ∷ xs) y = ap (λ (z : List ℕ). x ++ z) (joined_more xs y) ∙ sym (append_assoc x (joined xs) y)

first_joined : (k : ℕ) (lengths list : List ℕ) → k ≤ length lengths → joined (first_parts k lengths list) ≡ take (sum (take k lengths)) list
unfolding first_parts sum
first_joined zero lengths list h = refl
first_joined (suc k) lengths list h =
    joined_more (first_parts k lengths list) (part k lengths list)
    ∙ ap (λ (z : List ℕ). z ++ part k lengths list) (first_joined k lengths list (omega arith))
    ∙ sym (take-add (sum (take k lengths)) (get_or lengths k 0) list)
    ∙ ap (λ (n : ℕ). take n list) (sym (sum_more k lengths (omega arith)))

pub parts_joined : PartsJoined
parts_joined lengths list e =
    first_joined (length lengths) lengths list (omega arith)
    ∙ ap (λ (l : List ℕ). take (sum l) list) (take-length lengths)
    ∙ take_all (sum lengths) list (omega arith)

-- the sum with the next length fits, and is the sum of one more
pub next_fits : {lengths : List ℕ} {i n : ℕ} → HasNext lengths i n → n + get_or lengths i 0 ≤ most
next_fits {lengths} {i} h = omega (arith, h.is, h.fits, sum_within i lengths h.there)

pub next_is : {lengths : List ℕ} {i n : ℕ} → HasNext lengths i n → n + get_or lengths i 0 ≡ sum (take (i + 1) lengths)
next_is {lengths} {i} h = omega (arith, h.is, sum_next i lengths h.there)

pub reach_next : {p : Panel} {i : ℕ} {before : Reach} → WithNextPre p i before
    → ◌≡◌ {A = Reach} (record { rows = before.rows + get_or p.pattern_length i 0; expressions = before.expressions + get_or p.expression_length i 0; numbers = before.numbers + get_or p.constraint_length i 0; entries = before.entries + get_or p.share i 0 })
    (reach p (i + 1))
reach_next h = rw (next_is h.rows, next_is h.expression_rows_lem, next_is h.numbers, next_is h.entries)

-- what lies within the first entries is not changed by what lies behind them
cut_take : (s n a : ℕ) (xs : List ℕ) → s + n ≤ a → take n (drop s (take a xs)) ≡ take n (drop s xs)
cut_take zero n a xs h = take-take n a xs (omega arith)
cut_take (suc s) n zero xs h = absurd (omega arith)
cut_take (suc s) n (suc a) [] h = refl
cut_take (suc s) n (suc a) (x ∷ xs) h = cut_take s n a xs (omega arith)

-- the parts before a part reach no further than it starts
sum_before : (j i : ℕ) (lengths : List ℕ) → j < i → i ≤ length lengths → sum (take j lengths) + get_or lengths j 0 ≤ sum (take i lengths)
unfolding sum
sum_before j zero lengths h k = absurd (omega arith)
sum_before j (suc i) [] h k = absurd (omega arith)
sum_before zero (suc i) (n ∷ ns) h k = omega arith
sum_before (suc j) (suc i) (n ∷ ns) h k = omega (arith, sum_before j i ns (omega arith) (omega arith))

-- the list with ys in the place of its i-th part
abbrev pub put : List ℕ → List ℕ → List ℕ → ℕ → List ℕ
put lengths xs ys i = take (sum (take i lengths)) xs ++ (ys ++ drop (get_or lengths i 0) (drop (sum (take i lengths)) xs))

module _ (lengths xs ys : List ℕ) (i : ℕ) (h : i < length lengths) (filled : sum lengths ≡ length xs) (long : length ys ≡ get_or lengths i 0) where
  starts : sum (take i lengths) ≤ length xs
  starts = omega (arith, filled, sum_within i lengths h)

  pub put_its : part i lengths (put lengths xs ys i) ≡ ys
  put_its =
      ap (λ (l : List ℕ). take (get_or lengths i 0) l)
      (drop_at (take (sum (take i lengths)) xs) (ys ++ drop (get_or lengths i 0) (drop (sum (take i lengths)) xs)) (sum (take i lengths)) (length-take-le (sum (take i lengths)) xs starts))
      ∙ take_at ys (drop (get_or lengths i 0) (drop (sum (take i lengths)) xs)) (get_or lengths i 0) long

  pub put_before : (j : ℕ) → j < i → part j lengths (put lengths xs ys i) ≡ part j lengths xs
  put_before j k =
      let s = sum_before j i lengths k (omega arith) in
      sym (cut_take (sum (take j lengths)) (get_or lengths j 0) (sum (take i lengths)) (put lengths xs ys i) s)
      ∙ ap (λ (l : List ℕ). take (get_or lengths j 0) (drop (sum (take j lengths)) l)) (take_put (sum (take i lengths)) (get_or lengths i 0) xs ys starts)
      ∙ cut_take (sum (take j lengths)) (get_or lengths j 0) (sum (take i lengths)) xs s

  pub put_behind : drop (sum (take (i + 1) lengths)) (put lengths xs ys i) ≡ drop (sum (take (i + 1) lengths)) xs
  put_behind =
      let n : sum (take (i + 1) lengths) - sum (take i lengths) ≡ get_or lengths i 0 = omega (arith, sum_next i lengths h) in
      rw (← n) (drop_put (sum (take i lengths)) (sum (take (i + 1) lengths)) xs ys (omega (arith, sum_next i lengths h)) (omega (arith, sum_next i lengths h, sum_within i lengths h, filled)) (long ∙ sym n))

  pub put_long : length (put lengths xs ys i) ≡ length xs
  put_long =
      same_len_mid (sum (take i lengths)) (get_or lengths i 0) xs ys
      (long ∙ sym (length-take-le (get_or lengths i 0) (drop (sum (take i lengths)) xs) (omega (arith, length-drop (sum (take i lengths)) xs, sum_within i lengths h, filled))))

-- four sums are how far all problems reach
pub whole_is : {p : Panel} {a b c d : ℕ} → (a ≡ sum p.pattern_length) × (a ≤ most) → (b ≡ sum p.expression_length) × (b ≤ most) → (c ≡ sum p.constraint_length) × (c ≤ most)
    → (d ≡ sum p.share) × (d ≤ most) → AllReach p (record { rows = a; expressions = b; numbers = c; entries = d })
whole_is a b c d =
    record {
      is = rw (a.0, b.0, c.0, d.0);
      rows = rw a.0 at a.1;
      expression_rows_lem = rw b.0 at b.1;
      numbers = rw c.0 at c.1;
      entries = rw d.0 at d.1;
    }
