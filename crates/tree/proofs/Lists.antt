-- From the two lists of a tree to the places of its rows, and back.
use Prim.Native.Nat.{ℕ, zero, suc, ◌+◌, ◌<◌, ◌≤◌, ◌-◌}
use mathlib.Core.Path.{◌≡◌, refl, ap, ◌∙◌, sym}
use mathlib.Core.List.{List, ◌∷◌, ◌++◌}
use lib.ListN.{length, get_or, length-append, get_or-append}
use lib.Seq.{get_or-append-add, ext_get_or}
use native.Mathlib.Omega.{arith}
use native.Mathlib.Decide.{dec_lt}
use native.Mathlib.Nat.{add-zero}
use Rattle.meaning.specs.Forest.{Forest, none, some, Term, term, ◌◂◌, rows}
use Rattle.tree.specs.Rows.{labels, sizes, depth}
use Rattle.tree.specs.Places.{TermsAt, stop, step}
use Rattle.tree.proofs.Terms.{terms_rows}

-- a list has as many numbers as the sequence has rows
pub labels_rows : (f : Forest) → length (labels f) ≡ rows f
unfolding labels rows
labels_rows none = refl
labels_rows (some l us rest) = ap suc (simp (length-append, labels_rows us, labels_rows rest))

pub sizes_rows : (f : Forest) → length (sizes f) ≡ rows f
unfolding sizes rows
sizes_rows none = refl
sizes_rows (some l us rest) = ap suc (simp (length-append, sizes_rows us, sizes_rows rest))

-- the numbers xs stand in the list ys from t on
pub record Stands (xs ys : List ℕ) (t : ℕ) : Type 0 where
  pub each : (i : ℕ) → i < length xs → get_or ys (t + i) 0 ≡ get_or xs i 0

stands_head : {x : ℕ} {xs ys : List ℕ} {t : ℕ} → Stands (x ∷ xs) ys t → get_or ys t 0 ≡ x
stands_head {x} {xs} {ys} {t} h = simp add-zero at (h.each 0 (omega arith))

stands_tail : {x : ℕ} {xs ys : List ℕ} {t : ℕ} → Stands (x ∷ xs) ys t → Stands xs ys (t + 1)
stands_tail {x} {xs} {ys} {t} h =
    record {
      each = λ i f.
          let e : t + 1 + i ≡ t + suc i = omega arith in
          rw e (h.each (suc i) (omega arith));
    }

stands_left : (xs zs : List ℕ) {ys : List ℕ} {t : ℕ} → Stands (xs ++ zs) ys t → Stands xs ys t
stands_left xs zs {ys} {t} h = record { each = λ i f. h.each i (simp length-append (omega arith)) ∙ get_or-append xs zs 0 i f }

stands_right : (xs zs : List ℕ) {ys : List ℕ} {t : ℕ} → Stands (xs ++ zs) ys t → Stands zs ys (t + length xs)
stands_right xs zs {ys} {t} h =
    record {
      each = λ i f.
          let e : t + length xs + i ≡ t + (length xs + i) = omega arith in
          rw e (h.each (length xs + i) (simp length-append (omega arith)) ∙ get_or-append-add xs zs i 0);
    }

stands_cons : {x : ℕ} {xs ys : List ℕ} {t : ℕ} → get_or ys t 0 ≡ x → Stands xs ys (t + 1) → Stands (x ∷ xs) ys t
stands_cons {x} {xs} {ys} {t} p h = record { each = go }
  where
    go : (i : ℕ) → i < suc (length xs) → get_or ys (t + i) 0 ≡ get_or (x ∷ xs) i 0
    go zero f = simp add-zero p
    go (suc i) f =
        let e : t + suc i ≡ t + 1 + i = omega arith in
        rw e (h.each i (omega arith))

stands_both : (xs : List ℕ) {zs ys : List ℕ} {t : ℕ} → Stands xs ys t → Stands zs ys (t + length xs) → Stands (xs ++ zs) ys t
stands_both xs {zs} {ys} {t} h k = record { each = λ i f. go i (simp length-append at f) (dec_lt i (length xs)) }
  where
    go : (i : ℕ) → i < length xs + length zs → Dec (i < length xs) → get_or ys (t + i) 0 ≡ get_or (xs ++ zs) i 0
    go i f (yes a) = h.each i a ∙ sym (get_or-append xs zs 0 i a)
    go i f (no a) =
        let e : i ≡ length xs + (i - length xs) = omega arith in
        let p : t + i ≡ t + length xs + (i - length xs) = omega arith in
        let q : get_or (xs ++ zs) i 0 ≡ get_or zs (i - length xs) 0 = ap (λ (j : ℕ). get_or (xs ++ zs) j 0) e ∙ get_or-append-add xs zs (i - length xs) 0 in
        rw (p, q) (k.each (i - length xs) (omega arith))

-- rows that are a sequence's are at its places
pub stands_at : {L S : List ℕ} (t e : ℕ) (f : Forest) → Stands (labels f) L t → Stands (sizes f) S t → t + rows f ≡ e → e ≤ length L → e ≤ length S → TermsAt L S t e f
unfolding labels sizes rows
stands_at t e none p q h a b =
    let z : t ≡ e = omega arith in
    stop z a b
stands_at t e (some l us rest) p q h a b =
    let x = stands_tail p in
    let y = stands_tail q in
    let z : t + 1 + rows us ≡ t + suc (rows us) = omega arith in
    step {e = e} (record { label = stands_head p; size = stands_head q })
    (stands_at (t + 1) (t + suc (rows us)) us (stands_left (labels us) (labels rest) x) (stands_left (sizes us) (sizes rest) y) z (omega arith) (omega arith))
    (omega arith)
    (stands_at (t + suc (rows us)) e rest (rw (labels_rows us, z) at (stands_right (labels us) (labels rest) x)) (rw (sizes_rows us, z) at (stands_right (sizes us) (sizes rest) y)) (omega arith) a b)

pub at_stands : {L S : List ℕ} {t e : ℕ} {f : Forest} → TermsAt L S t e f → Stands (labels f) L t × Stands (sizes f) S t
unfolding labels sizes
at_stands (stop h a b) = (record { each = λ i f. absurd (omega arith) }, record { each = λ i f. absurd (omega arith) })
at_stands {t = t} (step {us = us} r i b k) =
    let x = at_stands i in
    let y = at_stands k in
    let z : t + suc (rows us) ≡ t + 1 + rows us = omega arith in (
      stands_cons r.label (stands_both (labels us) x.0 (rw (labels_rows us, sym z) y.0)),
      stands_cons r.size (stands_both (sizes us) x.1 (rw (sizes_rows us, sym z) y.1)),
    )

-- the whole lists
stands_self : (xs : List ℕ) → Stands xs xs 0
stands_self xs =
    record {
      each = λ i f.
          let e : 0 + i ≡ i = omega arith in
          rw e;
    }

pub all_at : {L S : List ℕ} (f : Forest) → L ≡ labels f → S ≡ sizes f → TermsAt L S 0 (length L) f
all_at {L} {S} f p q =
    let a : length L ≡ rows f = ap length p ∙ labels_rows f in
    let b : length S ≡ rows f = ap length q ∙ sizes_rows f in
    stands_at 0 (length L) f (rw (sym p) (stands_self L)) (rw (sym q) (stands_self S)) (omega arith) (omega arith) (omega arith)

stands_all : {xs ys : List ℕ} → Stands xs ys 0 → length ys ≡ length xs → ys ≡ xs
stands_all {xs} {ys} h p =
    ext_get_or 0 ys xs p λ i f.
    let e : 0 + i ≡ i = omega arith in
    rw e at (h.each i (omega arith))

pub at_all : {L S : List ℕ} {f : Forest} {n : ℕ} → TermsAt L S 0 n f → length L ≡ n → length S ≡ n → (L ≡ labels f) × (S ≡ sizes f)
at_all {L} {S} {f} h p q =
    let x = at_stands h in
    let r = terms_rows h in
    (stands_all x.0 (omega (arith, labels_rows f)), stands_all x.1 (omega (arith, sizes_rows f)))

-- a sequence with other labels: those from the place t of the list on
unfoldable pub relabel : List ℕ → ℕ → Forest → Forest
relabel L t none = none
relabel L t (some l us rest) = some (get_or L t 0) (relabel L (t + 1) us) (relabel L (t + suc (rows us)) rest)

pub relabel_rows : (L : List ℕ) (t : ℕ) (f : Forest) → rows (relabel L t f) ≡ rows f
unfolding relabel rows
relabel_rows L t none = refl
relabel_rows L t (some l us rest) = rw (relabel_rows L (t + 1) us, relabel_rows L (t + suc (rows us)) rest)

pub relabel_sizes : (L : List ℕ) (t : ℕ) (f : Forest) → sizes (relabel L t f) ≡ sizes f
unfolding relabel sizes
relabel_sizes L t none = refl
relabel_sizes L t (some l us rest) = rw (relabel_rows L (t + 1) us, relabel_sizes L (t + 1) us, relabel_sizes L (t + suc (rows us)) rest)

pub relabel_depth : (L : List ℕ) (t : ℕ) (f : Forest) → depth (relabel L t f) ≡ depth f
unfolding relabel depth
relabel_depth L t none = refl
relabel_depth L t (some l us rest) = rw (relabel_depth L (t + 1) us, relabel_depth L (t + suc (rows us)) rest)

relabel_stands : (L : List ℕ) (t : ℕ) (f : Forest) → Stands (labels (relabel L t f)) L t
unfolding relabel labels
relabel_stands L t none = record { each = λ i f. absurd (omega arith) }
relabel_stands L t (some l us rest) =
    let z : t + suc (rows us) ≡ t + 1 + rows us = omega arith in
    let y : length (labels (relabel L (t + 1) us)) ≡ rows us = labels_rows (relabel L (t + 1) us) ∙ relabel_rows L (t + 1) us in
    stands_cons refl (stands_both (labels (relabel L (t + 1) us)) (relabel_stands L (t + 1) us) (rw (y, sym z) (relabel_stands L (t + suc (rows us)) rest)))

pub relabel_labels : (L : List ℕ) (f : Forest) → length L ≡ rows f → labels (relabel L 0 f) ≡ L
relabel_labels L f h = sym (stands_all (relabel_stands L 0 f) (omega (arith, labels_rows (relabel L 0 f), relabel_rows L 0 f)))

-- a term may be given any labels, as many as it has rows
pub relabelled : (T : Term) (L : List ℕ) → length L ≡ rows (T ◂ none) → (U : Term) × (labels (U ◂ none) ≡ L) × (sizes (U ◂ none) ≡ sizes (T ◂ none)) × (depth (U ◂ none) ≡ depth (T ◂ none))
unfolding relabel
relabelled T L h = (term (get_or L 0 0) (relabel L 1 T.args), relabel_labels L (T ◂ none) h, relabel_sizes L 0 (T ◂ none), relabel_depth L 0 (T ◂ none))
