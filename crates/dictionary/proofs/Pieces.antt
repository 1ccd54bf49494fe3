-- Laws of bytes cut at every byte 10.
use mathlib.Core.Path.{◌≡◌, refl, sym, ap, ◌∙◌}
use mathlib.Core.Bool.{Bool, true, false, cond}
use mathlib.Core.List.{List, [], ◌∷◌, ◌++◌, append_assoc}
use Prim.Native.Nat.{ℕ, zero, suc, ◌+◌, ◌-◌, ◌≤◌, ◌<◌}
use native.Mathlib.Omega.{arith}
use native.Mathlib.Numerals.{add-one}
use lib.Dec.{eqb}
use lib.ListN.{length, get_or, take, drop, length-drop, drop_of_length-le}
use lib.Seq.{drop-cons, drop-drop, get_or-drop}
use borrow.Author.Tests.{eqb-true, eqb-false, ne_eqb}
use Rattle.dictionary.specs.Names.{encoding, GoodName}
use Rattle.dictionary.specs.Scan.{range, upto, push, pieces}
use Rattle.dictionary.proofs.Ranges.{range_length}

-- the walk to the next byte 10
pub upto_ten : (d : List ℕ) (e : ℕ) → e < length d → get_or d e 0 ≡ 10 → upto (drop e d) ≡ 0
upto_ten d e h q = rw (drop-cons d e 0 h, q)

pub upto_more : (d : List ℕ) (e : ℕ) → e < length d → (get_or d e 0 ≡ 10 → ⊥) → upto (drop e d) ≡ suc (upto (drop (e + 1) d))
upto_more d e h q = rw (drop-cons d e 0 h, ne_eqb _ _ q, add-one)

pub upto_end : (d : List ℕ) (e : ℕ) → length d ≤ e → upto (drop e d) ≡ 0
upto_end d e h = rw (drop_of_length-le d h)

upto_le : (v : List ℕ) → upto v ≤ length v
upto_le [] = omega arith
upto_le (b ∷ v) = go (eqb b 10) (upto_le v)
  where
    go : (t : Bool) → upto v ≤ length v → cond t 0 (suc (upto v)) ≤ suc (length v)
    go true h = omega arith
    go false h = omega arith

-- what begins with a name and its byte 10 has a byte 10
pub upto_lt : (n v : List ℕ) → upto (n ++ (10 ∷ v)) < length (n ++ (10 ∷ v))
upto_lt [] v = omega arith
upto_lt (b ∷ n) v = go (eqb b 10) (upto_lt n v)
  where
    go : (t : Bool) → upto (n ++ (10 ∷ v)) < length (n ++ (10 ∷ v)) → cond t 0 (suc (upto (n ++ (10 ∷ v)))) < suc (length (n ++ (10 ∷ v)))
    go true h = omega arith
    go false h = omega arith

at_upto : (v : List ℕ) → upto v < length v → get_or v (upto v) 0 ≡ 10
at_upto [] h = absurd (omega arith)
at_upto (b ∷ v) h = go (eqb b 10) refl h (λ k. at_upto v k)
  where
    go : (t : Bool) → eqb b 10 ≡ t → cond t 0 (suc (upto v)) < suc (length v) → (upto v < length v → get_or v (upto v) 0 ≡ 10) → get_or (b ∷ v) (cond t 0 (suc (upto v))) 0 ≡ 10
    go true e h k = eqb-true b 10 e
    go false e h k = k (omega arith)

-- the first piece of v, and the rest
abbrev Split : List ℕ → Type 0
Split v = pieces v ≡ take (upto v) v ∷ pieces (drop (suc (upto v)) v)

split_cons : (b : ℕ) (v : List ℕ) → Split (b ∷ v)
split_cons b [] = go (eqb b 10)
  where
    go : (t : Bool) → cond t ([] ∷ []) ((b ∷ []) ∷ []) ≡ take (cond t 0 1) (b ∷ []) ∷ pieces (drop (suc (cond t 0 1)) (b ∷ []))
    go true = refl
    go false = refl
split_cons b (c ∷ v) = go (eqb b 10) (c ∷ v) (split_cons c v)
  where
    go : (t : Bool) (v : List ℕ) → Split v → cond t ([] ∷ pieces v) (push b (pieces v)) ≡ take (cond t 0 (suc (upto v))) (b ∷ v) ∷ pieces (drop (suc (cond t 0 (suc (upto v)))) (b ∷ v))
    go true v h = refl
    go false v h = ap (push b) h

split : (v : List ℕ) → 0 < length v → Split v
split [] h = absurd (omega arith)
split (b ∷ v) h = split_cons b v

-- no piece has a byte 10
abbrev Unbroken : List ℕ → Type 0
Unbroken n = (i : ℕ) → i < length n → get_or n i 0 ≡ 10 → ⊥

unbroken_cons : (b : ℕ) (n : List ℕ) → eqb b 10 ≡ false → Unbroken n → Unbroken (b ∷ n)
unbroken_cons b n e h zero p q = eqb-false b 10 e q
unbroken_cons b n e h (suc i) p q = h i (omega arith) q

pub unbroken : (d : List ℕ) (j : ℕ) → Unbroken (get_or (pieces d) j [])
unbroken [] j = λ i p q. omega arith
unbroken (b ∷ v) j = go (eqb b 10) refl (pieces v) (unbroken v) j
  where
    go : (t : Bool) → eqb b 10 ≡ t → (ns : List (List ℕ)) → ((j : ℕ) → Unbroken (get_or ns j [])) → (j : ℕ) → Unbroken (get_or (cond t ([] ∷ ns) (push b ns)) j [])
    go true e ns h zero = λ i p q. omega arith
    go true e ns h (suc j) = h j
    go false e [] h zero = unbroken_cons b [] e (λ i p q. omega arith)
    go false e [] h (suc j) = λ i p q. omega arith
    go false e (n ∷ ns) h zero = unbroken_cons b n e (h 0)
    go false e (n ∷ ns) h (suc j) = h (suc j)

-- names and bytes
piece_first : (n v : List ℕ) → Unbroken n → pieces (n ++ (10 ∷ v)) ≡ n ∷ pieces v
piece_first [] v h = refl
piece_first (b ∷ n) v h = rw (ne_eqb b 10 (h 0 (omega arith)), piece_first n v (λ i p. h (suc i) (omega arith)))

pub pieces_encoding : (ns : List (List ℕ)) → ((j : ℕ) → j < length ns → GoodName (get_or ns j [])) → pieces (encoding ns) ≡ ns
pieces_encoding [] h = refl
pieces_encoding (n ∷ ns) h =
    piece_first n (encoding ns) (h 0 (omega arith)).unbroken
    ∙ ap (λ (l : List (List ℕ)). n ∷ l) (pieces_encoding ns (λ j p. h (suc j) (omega arith)))

pub encoding_append : (ns ms : List (List ℕ)) → encoding (ns ++ ms) ≡ encoding ns ++ encoding ms
encoding_append [] ms = refl
encoding_append (n ∷ ns) ms =
    ap (λ (l : List ℕ). n ++ (10 ∷ l)) (encoding_append ns ms) ∙ sym (append_assoc n (10 ∷ encoding ns) (encoding ms))

-- THE PIECE AT p, which ends at e
module _ (d : List ℕ) (p e : ℕ) (here : p < length d) (is_e : e ≡ p + upto (drop p d)) where
  left : length (drop p d) ≡ length d - p
  left = length-drop p d

  pub within : e ≤ length d
  within = omega (arith, upto_le (drop p d), left)

  rest : drop (suc (upto (drop p d))) (drop p d) ≡ drop (e + 1) d
  rest =
      let u : p + suc (upto (drop p d)) ≡ e + 1 = omega arith in
      drop-drop (suc (upto (drop p d))) p d ∙ ap (λ (k : ℕ). drop k d) u

  pub first : pieces (drop p d) ≡ range d p e ∷ pieces (drop (e + 1) d)
  first =
      let u : upto (drop p d) ≡ e - p = omega arith in
      split (drop p d) (omega (arith, left)) ∙ rw rest (ap (λ (k : ℕ). take k (drop p d) ∷ pieces (drop (e + 1) d)) u)

  pub piece_length : length (range d p e) ≡ e - p
  piece_length = range_length d p e within

  pub is_ten : e < length d → get_or d e 0 ≡ 10
  is_ten h =
      ap (λ (k : ℕ). get_or d k 0) is_e
      ∙ sym (get_or-drop p d (upto (drop p d)) 0)
      ∙ at_upto (drop p d) (omega (arith, left))
