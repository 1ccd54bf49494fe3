-- The sizes of a document's rows are those that follow from their depths.
use mathlib.Core.Path.{◌≡◌, refl, sym, ap, ◌∙◌}
use mathlib.Core.Bool.{Bool, true, false, cond}
use mathlib.Core.List.{List, [], ◌∷◌, ◌++◌, append_assoc, append-nil, map}
use Prim.Native.Nat.{ℕ, suc, ◌+◌, ◌≤◌, ◌<◌}
use native.Mathlib.Omega.{arith}
use lib.Dec.{ltb}
use borrow.Author.Tests.{lt-ltb, le-ltb, ltb-false}
use Rattle.tree.specs.Rows.{sizes}
use Rattle.grammar.specs.Grammar.{Bytes, Content, nothing, empty_element, element}
use Rattle.grammar.specs.Rows.{inked, shape, #, width, Row, row, of_element, of_text, leaf_row, rows_from, rows_of}
use Rattle.grammar.proofs.Trees.{leaf_rows, content_rows}
use Rattle.labels.specs.Sizes.{deeper, sizes_of}
use Rattle.rows.proofs.Sizes.{leaf_sizes, sizes_on, own_size, sizes_tree}

abbrev depths : List Row → List ℕ
depths R = map (λ (x : Row). x.depth) R

-- HOW MANY ARE DEEPER
not_deeper : (j k : ℕ) (D : List ℕ) → k ≤ j → deeper j (k ∷ D) ≡ 0
unfolding deeper
not_deeper j k D h = rw (le-ltb j k h) refl

one_deeper : (j k : ℕ) (D : List ℕ) → j < k → deeper j (k ∷ D) ≡ suc (deeper j D)
unfolding deeper
one_deeper j k D h = rw (lt-ltb j k h) refl

leaf_low : (j k a : ℕ) (t : Bytes) (R : List Row) → k ≤ j → deeper j (depths R) ≡ 0 → deeper j (depths (leaf_row k a t R)) ≡ 0
leaf_low j k a t R h e = go (inked t)
  where
    go : (y : Bool) → deeper j (depths (cond y (row of_text k a t ∷ R) R)) ≡ 0
    go true = not_deeper j k (depths R) h
    go false = e

leaf_deeper : (j k a : ℕ) (t : Bytes) (R : List Row) → j < k → deeper j (depths (leaf_row k a t R)) ≡ leaf_rows t + deeper j (depths R)
unfolding leaf_rows
leaf_deeper j k a t R h = go (inked t)
  where
    go : (y : Bool) → deeper j (depths (cond y (row of_text k a t ∷ R) R)) ≡ cond y 1 0 + deeper j (depths R)
    go true = one_deeper j k (depths R) h ∙ omega arith
    go false = omega arith

-- a row at k and what follows it
rows_deeper : (j k a : ℕ) (f : Content) (R : List Row) → j < k → deeper j (depths (rows_from k a f R)) ≡ content_rows f + deeper j (depths R)
unfolding rows_from content_rows
rows_deeper j k a nothing R h = omega arith
rows_deeper j k a (empty_element f t n g) R h =
    rows_deeper j k a f _ h
    ∙ omega (arith, leaf_deeper j k (a + width f) t (row of_element k (a + width f + # t + 1) n ∷ R) h, one_deeper j k (depths R) h)
rows_deeper j k a (element f t n g i l u) R h =
    let b : ℕ = a + width f + # t + 1 + # n + # g + 1 in
    let I : List Row = rows_from (suc k) b i (leaf_row (suc k) (b + width i) l R) in
    rows_deeper j k a f _ h
    ∙ omega (
      arith,
      leaf_deeper j k (a + width f) t (row of_element k (a + width f + # t + 1) n ∷ I) h,
      one_deeper j k (depths I) h,
      rows_deeper j (suc k) b i (leaf_row (suc k) (b + width i) l R) (omega arith),
      leaf_deeper j (suc k) (b + width i) l R (omega arith),
    )

-- what is no deeper than k is no deeper than the next
low_more : (k : ℕ) (D : List ℕ) → deeper k D ≡ 0 → deeper (suc k) D ≡ 0
unfolding deeper
low_more k [] h = refl
low_more k (e ∷ D) h = go (ltb k e) refl h
  where
    go : (y : Bool) → ltb k e ≡ y → cond y (suc (deeper k D)) 0 ≡ 0 → deeper (suc k) (e ∷ D) ≡ 0
    go true q z = absurd (omega (arith, z))
    go false q z = not_deeper (suc k) e D (omega (arith, ltb-false k e q))

-- THE SIZES
leaf_all : (A : List ℕ) (t : Bytes) → leaf_sizes A t ≡ A ++ leaf_sizes [] t
unfolding leaf_sizes
leaf_all A t = go (inked t)
  where
    go : (y : Bool) → cond y (A ++ (1 ∷ [])) A ≡ A ++ cond y ([] ++ (1 ∷ [])) []
    go true = refl
    go false = sym (append-nil A)

head_size : (k : ℕ) (D : List ℕ) (n : ℕ) → deeper k D ≡ n → sizes_of (k ∷ D) ≡ suc n ∷ sizes_of D
unfolding sizes_of
head_size k D n h = ap (λ (m : ℕ). suc m ∷ sizes_of D) h

leaf_sizes_lem : (k a : ℕ) (t : Bytes) (R : List Row) → deeper k (depths R) ≡ 0 → sizes_of (depths (leaf_row k a t R)) ≡ leaf_sizes [] t ++ sizes_of (depths R)
unfolding leaf_sizes
leaf_sizes_lem k a t R h = go (inked t)
  where
    go : (y : Bool) → sizes_of (depths (cond y (row of_text k a t ∷ R) R)) ≡ cond y ([] ++ (1 ∷ [])) [] ++ sizes_of (depths R)
    go true = head_size k (depths R) 0 h
    go false = refl

-- a run and then a row of size n, behind A
run_and_row : (A Z : List ℕ) (t : Bytes) (n : ℕ) → A ++ (leaf_sizes [] t ++ (n ∷ Z)) ≡ (leaf_sizes A t ++ (n ∷ [])) ++ Z
run_and_row A Z t n =
    sym (append_assoc A (leaf_sizes [] t) (n ∷ Z)) ∙ ap (λ (B : List ℕ). B ++ (n ∷ Z)) (sym (leaf_all A t)) ∙ sym (append_assoc (leaf_sizes A t) (n ∷ []) Z)

on_depths : (k a : ℕ) (f : Content) (R : List Row) → deeper k (depths R) ≡ 0 → sizes_of (depths (rows_from k a f R)) ≡ sizes_on [] f ++ sizes_of (depths R)
unfolding rows_from sizes_on
on_depths k a nothing R h = refl
on_depths k a (empty_element f t n g) R h =
    let E : List Row = row of_element k (a + width f + # t + 1) n ∷ R in
    let low : deeper k (depths E) ≡ 0 = not_deeper k k (depths R) (omega arith) in
    on_depths k a f _ (leaf_low k k (a + width f) t E (omega arith) low)
    ∙ ap (λ (z : List ℕ). sizes_on [] f ++ z) (leaf_sizes_lem k (a + width f) t E low ∙ ap (λ (z : List ℕ). leaf_sizes [] t ++ z) (head_size k (depths R) 0 h))
    ∙ run_and_row (sizes_on [] f) (sizes_of (depths R)) t 1
on_depths k a (element f t n g i l u) R h =
    let b : ℕ = a + width f + # t + 1 + # n + # g + 1 in
    let J : List Row = leaf_row (suc k) (b + width i) l R in
    let I : List Row = rows_from (suc k) b i J in
    let E : List Row = row of_element k (a + width f + # t + 1) n ∷ I in
    let m : ℕ = content_rows i + leaf_rows l in
    let low : deeper k (depths E) ≡ 0 = not_deeper k k (depths I) (omega arith) in
    let count : deeper k (depths I) ≡ m = rows_deeper k (suc k) b i J (omega arith) ∙ omega (arith, leaf_deeper k (suc k) (b + width i) l R (omega arith), h) in
    let after : deeper (suc k) (depths R) ≡ 0 = low_more k (depths R) h in
    let inside : sizes_of (depths I) ≡ leaf_sizes (sizes_on [] i) l ++ sizes_of (depths R) =
    on_depths (suc k) b i J (leaf_low (suc k) (suc k) (b + width i) l R (omega arith) after)
    ∙ ap (λ (z : List ℕ). sizes_on [] i ++ z) (leaf_sizes_lem (suc k) (b + width i) l R after)
    ∙ sym (append_assoc (sizes_on [] i) (leaf_sizes [] l) (sizes_of (depths R))) ∙ ap (λ (z : List ℕ). z ++ sizes_of (depths R)) (sym (leaf_all (sizes_on [] i) l)) in
    on_depths k a f _ (leaf_low k k (a + width f) t E (omega arith) low)
    ∙ ap (λ (z : List ℕ). sizes_on [] f ++ z) (leaf_sizes_lem k (a + width f) t E low ∙ ap (λ (z : List ℕ). leaf_sizes [] t ++ z) (head_size k (depths I) m count ∙ ap (λ (z : List ℕ). suc m ∷ z) inside))
    ∙ run_and_row (sizes_on [] f) (leaf_sizes (sizes_on [] i) l ++ sizes_of (depths R)) t (suc m)
    ∙ append_assoc (leaf_sizes (sizes_on [] f) t) (suc m ∷ []) (leaf_sizes (sizes_on [] i) l ++ sizes_of (depths R))
    ∙ sym (append_assoc (leaf_sizes (sizes_on [] f) t) (suc m ∷ leaf_sizes (sizes_on [] i) l) (sizes_of (depths R)))
    ∙ ap (λ (z : List ℕ). z ++ sizes_of (depths R)) (sym (own_size (leaf_sizes (sizes_on [] f) t) (suc m) i l))

pub sizes_from_depths : (f : Content) → sizes (shape f) ≡ sizes_of (depths (rows_of f))
unfolding deeper sizes_of
sizes_from_depths f = sym (sizes_tree (λ q s. 0) f) ∙ sym (on_depths 1 0 f [] refl ∙ append-nil (sizes_on [] f))
