-- The rows of a context with another term in its hole: those on the way to the hole are resized, all others are the tree's.
use Prim.Native.Nat.{ℕ, suc, ◌+◌, ◌-◌, ◌<◌, ◌≤◌}
use mathlib.Core.Path.{◌≡◌, refl, ap, ap₂, ◌∙◌, sym}
use mathlib.Core.List.{List, ◌∷◌, ◌++◌, append_assoc}
use lib.ListN.{get_or}
use native.Mathlib.Omega.{arith}
use native.Mathlib.Decide.{dec_lt, ℕ_discrete}
use Rattle.meaning.specs.Forest.{Forest, none, Term, ◌◂◌, rows, size, ◌⊕◌, Context, plug}
use Rattle.meaning.proofs.Laws.{rows_of}
use Rattle.tree.specs.Places.{TermsAt, stop, step, ContextAt, at_hole, at_node}
use Rattle.tree.proofs.Terms.{terms_rows}
use Rattle.instance.specs.Places.{along, pick, resized}
use Rattle.instance.proofs.Writes.{along_both, along_same}
use Rattle.instance.proofs.Listing.{listing, listing_both, listing_first, listing_at}

pick_yes : {A : Type 0} (d : Dec A) (a b : ℕ) → A → pick d a b ≡ a
pick_yes (yes h) a b x = refl
pick_yes (no h) a b x = absurd (h x)

pick_no : {A : Type 0} (d : Dec A) (a b : ℕ) → (A → ⊥) → pick d a b ≡ b
pick_no (yes h) a b x = absurd (x h)
pick_no (no h) a b x = refl

module _ (S : List ℕ) (b s m u : ℕ) where
  pub resized_above : b < u + get_or S u 0 → resized S b s m u ≡ get_or S u 0 + m - s
  unfolding resized
  resized_above h = pick_yes (dec_lt b (u + get_or S u 0)) _ _ h

  pub resized_beside : u + get_or S u 0 ≤ b → resized S b s m u ≡ get_or S u 0
  unfolding resized
  resized_beside h = pick_no (dec_lt b (u + get_or S u 0)) _ _ (λ l. omega arith)

-- a row of a sequence ends in it
pub row_within : {L S : List ℕ} {t e : ℕ} {f : Forest} (i : ℕ) → TermsAt L S t e f → t ≤ i → i < e → i + get_or S i 0 ≤ e
row_within i (stop h a b) p q = absurd (omega arith)
row_within {L} {S} {t} {e} i (step {us = us} r inner b k) p q =
    go (ℕ_discrete i t) (dec_lt i (t + suc (rows us))) (λ l. row_within i inner l) (λ l. row_within i k l q)
  where
    go : Dec (i ≡ t) → Dec (i < t + suc (rows us)) → (t + 1 ≤ i → i < t + suc (rows us) → i + get_or S i 0 ≤ t + suc (rows us)) → (t + suc (rows us) ≤ i → i + get_or S i 0 ≤ e) → i + get_or S i 0 ≤ e
    go (yes z) d x y = rw z (omega (arith, r.size))
    go (no z) (yes d) x y = omega (arith, x (omega arith) d)
    go (no z) (no d) x y = y (omega arith)

-- a row that stands in another's subterm ends in it
pub row_nested : {L S : List ℕ} {t e : ℕ} {f : Forest} (i b : ℕ) → TermsAt L S t e f → t ≤ i → i < e → i < b → b < i + get_or S i 0 → b + get_or S b 0 ≤ i + get_or S i 0
row_nested i b (stop h _ _) p q l m = absurd (omega arith)
row_nested {L} {S} {t} {e} i b (step {us = us} r inner _ k) p q l m =
    go (ℕ_discrete i t) (dec_lt i (t + suc (rows us))) (λ h d. row_nested i b inner h d l m) (λ h. row_nested i b k h q l m)
  where
    go : Dec (i ≡ t) → Dec (i < t + suc (rows us)) → (t + 1 ≤ i → i < t + suc (rows us) → b + get_or S b 0 ≤ i + get_or S i 0) → (t + suc (rows us) ≤ i → b + get_or S b 0 ≤ i + get_or S i 0)
        → b + get_or S b 0 ≤ i + get_or S i 0
    go (yes z) d x y =
        let n : get_or S i 0 ≡ suc (rows us) = ap (λ (j : ℕ). get_or S j 0) z ∙ r.size in
        omega (arith, row_within b inner (omega arith) (omega arith))
    go (no z) (yes d) x y = x (omega arith) d
    go (no z) (no d) x y = y (omega arith)

pub plug_size : {L S : List ℕ} {a b : ℕ} {c : Context} (U : Term) → ContextAt L S a b c → size (plug c U) + get_or S b 0 ≡ get_or S a 0 + size U
unfolding plug rows
plug_size {S = S} U (at_hole n h) = rw h (omega arith)
plug_size {S = S} U (at_node {left = left} {right = right} {c = c} x p q k) =
    omega (arith, plug_size U k, rows_of left (plug c U ◂ right), terms_rows x.before, terms_rows x.after, x.ends)

pub context_ends : {L S : List ℕ} {a b : ℕ} {c : Context} → ContextAt L S a b c → b + get_or S b 0 ≤ a + get_or S a 0
context_ends (at_hole n h) = rw h (omega arith)
context_ends (at_node x p q k) = omega (arith, context_ends k, x.ends)

regroup : (v : ℕ) (a b c d e f : List ℕ) → v ∷ ((a ++ (b ++ (c ++ (d ++ e)))) ++ f) ≡ (v ∷ (a ++ b)) ++ (c ++ ((d ++ e) ++ f))
regroup v a b c d e f = simp append_assoc

-- what a row gives, in the tree and in the instance
abbrev pub kept : (ℕ → ℕ → ℕ) → List ℕ → List ℕ → ℕ → ℕ
kept w L S i = w (get_or L i 0) (get_or S i 0)

abbrev pub changed : (ℕ → ℕ → ℕ) → List ℕ → List ℕ → ℕ → ℕ → ℕ → ℕ
changed w L S b m i = w (get_or L i 0) (resized S b (get_or S b 0) m i)

module _ (w : ℕ → ℕ → ℕ) {L S : List ℕ} (U : Term) where
  -- terms to the left of the way to the hole
  left_listing : {t u b : ℕ} {left : Forest} → TermsAt L S t u left → u ≤ b → along (changed w L S b (size U)) t (rows left) ≡ listing w left
  left_listing {t} {u} {b} {left} h l =
      along_same (changed w L S b (size U)) (kept w L S) t (rows left)
      (λ i p q. ap (w (get_or L i 0)) (resized_beside S b (get_or S b 0) (size U) i (omega (arith, row_within i h p (omega (arith, terms_rows h))))))
      ∙ listing_at w h

  pub listing_plug : {a b : ℕ} {c : Context} (rest : Forest) (m n : ℕ) → ContextAt L S a b c → a + m ≡ b → b + get_or S b 0 + n ≡ a + get_or S a 0
      → listing w (plug c U ◂ rest) ≡ along (changed w L S b (size U)) a m ++ (listing w (U ◂ none) ++ (along (kept w L S) (b + get_or S b 0) n ++ listing w rest))
  unfolding plug along listing
  listing_plug {a} {b} rest m n (at_hole x h) e d =
      let y : m ≡ 0 = omega arith in
      let same : get_or S b 0 ≡ get_or S a 0 = rw h in
      let z : n ≡ 0 = omega arith in
      rw (y, z) (listing_first w U rest)
  listing_plug {a} {b} rest m n (at_node {l = l} {u = u} {left = left} {right = right} {c = c} x p q k) e d =
      let i : ℕ = b - u in
      let j : ℕ = n - rows right in
      let y : m ≡ suc (rows left + i) = omega (arith, terms_rows x.before) in
      let z : n ≡ j + rows right = omega (arith, terms_rows x.after, context_ends k) in
      let s : a + 1 + rows left ≡ u = terms_rows x.before in
      let f : b + get_or S b 0 + j ≡ u + get_or S u 0 = omega (arith, terms_rows x.after, context_ends k) in
      let inner = listing_plug right i j k (omega arith) f in
      let head : suc (rows (left ⊕ (plug c U ◂ right))) ≡ resized S b (get_or S b 0) (size U) a =
      omega (arith, plug_size U (at_node x p q k), resized_above S b (get_or S b 0) (size U) a (omega (arith, x.ends)))
      in
      let first : along (changed w L S b (size U)) a m ≡ changed w L S b (size U) a ∷ (listing w left ++ along (changed w L S b (size U)) u i) =
      ap (along (changed w L S b (size U)) a) y
      ∙ ap (λ (xs : List ℕ). changed w L S b (size U) a ∷ xs) (rw (along_both (changed w L S b (size U)) (a + 1) (rows left) i, s, left_listing x.before p))
      in
      let last : along (kept w L S) (b + get_or S b 0) n ≡ along (kept w L S) (b + get_or S b 0) j ++ listing w right =
      ap (along (kept w L S) (b + get_or S b 0)) z ∙ rw (along_both (kept w L S) (b + get_or S b 0) j (rows right), f, listing_at w x.after)
      in
      ap₂ (λ (v : ℕ) (xs : List ℕ). v ∷ (xs ++ listing w rest)) (ap₂ w (sym x.label) head) (listing_both w left (plug c U ◂ right) ∙ ap (λ (xs : List ℕ). listing w left ++ xs) inner)
      ∙ regroup (changed w L S b (size U) a) (listing w left) (along (changed w L S b (size U)) u i) (listing w (U ◂ none)) (along (kept w L S) (b + get_or S b 0) j) (listing w right) (listing w rest)
      ∙ ap₂ (λ (xs ys : List ℕ). xs ++ (listing w (U ◂ none) ++ (ys ++ listing w rest))) (sym first) (sym last)
