-- The check of the sizes: what is left to see while some rows are open.
use Prim.Native.Nat.{ℕ, zero, suc, ◌+◌, ◌-◌, ◌<◌, ◌≤◌}
use mathlib.Core.Path.{◌≡◌, refl, ap, ◌∙◌, sym}
use mathlib.Core.Logic.{◌≢◌}
use mathlib.Core.List.{List, [], ◌∷◌}
use lib.ListN.{length, get_or, set}
use lib.Seq.{get_or-set_other}
use native.Mathlib.Omega.{arith}
use Rattle.meaning.specs.Forest.{Forest, none, some, Term, term, ◌◂◌, rows}
use Rattle.tree.specs.Rows.{depth}
use Rattle.tree.specs.Shape.{Shape}
use Rattle.tree.specs.Places.{TermsAt, stop, step}
use Rattle.tree.specs.Endings.{Within}
use Rattle.tree.proofs.Terms.{terms_rows, terms_within}
use Rattle.tree.proofs.Lists.{sizes_rows, all_at, at_all, relabelled}

-- the ends of the n open rows in the array E, innermost first
unfoldable pub stack : List ℕ → ℕ → List ℕ
stack E zero = []
stack E (suc n) = get_or E n 0 ∷ stack E n

pub stack_length : (E : List ℕ) (n : ℕ) → length (stack E n) ≡ n
unfolding stack
stack_length E zero = refl
stack_length E (suc n) = ap suc (stack_length E n)

pub stack_set : (E : List ℕ) (n j v : ℕ) → n ≤ j → stack (set E j v) n ≡ stack E n
unfolding stack
stack_set E zero j v h = refl
stack_set E (suc n) j v h = rw (get_or-set_other E j n v 0 (λ e. omega arith), stack_set E n j v (omega arith))

pub stack_top : (E : List ℕ) (n : ℕ) → n ≢ 0 → stack E n ≡ get_or E (n - 1) 0 ∷ stack E (n - 1)
unfolding stack
stack_top E zero h = absurd (h refl)
stack_top E (suc n) h = let z : suc n - 1 ≡ n = omega arith in rw z

-- from the row t on each list of open arguments is filled up to its end, not too deep
pub data Rest (S : List ℕ) : ℕ → List ℕ → Type 0 where
  done : {t : ℕ} → Rest S t []
  fill : {t e : ℕ} {es : List ℕ} {f : Forest} → TermsAt S S t e f → depth f + suc (length es) ≤ 64 → Rest S e es → Rest S t (e ∷ es)

-- the ends are in order, the outermost at the list's end
pub data Ends (n : ℕ) : ℕ → List ℕ → Type 0 where
  outer : {t : ℕ} → t ≡ n → Ends n t []
  inner : {t e : ℕ} {es : List ℕ} → t ≤ e → Ends n e es → Ends n t (e ∷ es)

pub ends_le : {n t : ℕ} {es : List ℕ} → Ends n t es → t ≤ n
ends_le (outer h) = omega arith
ends_le (inner h k) = omega (arith, ends_le k)

-- closing the innermost row
close_forth : {S : List ℕ} {t e : ℕ} {es : List ℕ} → Rest S t (e ∷ es) → Rest S e es
close_forth (fill x d r) = r

close_back : {S : List ℕ} {t e : ℕ} {es : List ℕ} → t ≡ e → e ≤ length S → suc (length es) ≤ 64 → Rest S e es → Rest S t (e ∷ es)
unfolding depth
close_back {es = es} h b d r = fill {es = es} (stop h b b) (omega arith) r

-- at the list's end nothing is left
pub none_left : {S : List ℕ} {t : ℕ} {es : List ℕ} → Ends (length S) t es → length S ≤ t → length es ≤ 64 → Rest S t es
none_left (outer h) f d = done
none_left {S} {t} (inner {e = e} h k) f d =
    let z : t ≡ e = omega (arith, ends_le k) in
    close_back z (ends_le k) d (none_left k (omega arith) (omega arith))

-- opening the next row
module _ {S : List ℕ} {t e : ℕ} {es : List ℕ} (inside : t < e) where
  open_forth : Rest S t (e ∷ es) → Rest S (t + 1) ((t + get_or S t 0) ∷ e ∷ es)
  unfolding depth
  open_forth (fill (stop h a b) d r) = absurd (omega arith)
  open_forth (fill (step {us = us} {rest = rest} w i b k) d r) = rw w.size (fill {es = e ∷ es} i (omega arith) (fill {es = es} k (omega arith) r))

  open_back : get_or S t 0 ≢ 0 → t + get_or S t 0 ≤ e → Rest S (t + 1) ((t + get_or S t 0) ∷ e ∷ es) → Rest S t (e ∷ es)
  unfolding depth
  open_back p q (fill {f = us} i c (fill {f = rest} k d r)) =
      let z : get_or S t 0 ≡ suc (rows us) = omega (arith, terms_rows i) in
      fill {es = es} (step {e = e} {l = get_or S t 0} (record { label = refl; size = z }) (rw z at i) (omega arith) (rw z at k)) (omega arith) r

  -- what is refused
  pub not_beyond : Rest S t (e ∷ es) → t + get_or S t 0 ≤ e
  not_beyond (fill (stop h a b) d r) = absurd (omega arith)
  not_beyond (fill (step w i b k) d r) = omega (arith, w.size)

  pub not_deep : Rest S t (e ∷ es) → suc (length es) < 64
  unfolding depth
  not_deep (fill (stop h a b) d r) = absurd (omega arith)
  not_deep (fill (step w i b k) d r) = omega arith

-- the term of the sizes, with the sizes for its labels
shape_at : {S : List ℕ} → Shape S → (U : Term) × TermsAt S S 0 (length S) (U ◂ none) × (depth (U ◂ none) ≤ 64)
shape_at {S} (T, p, d) =
    let z : length S ≡ rows (T ◂ none) = ap length p ∙ sizes_rows (T ◂ none) in
    let w = relabelled T S z in
    (w.0, all_at (w.0 ◂ none) (sym w.1) (p ∙ sym w.2), omega (arith, w.3))

pub shape_within : {S : List ℕ} → Shape S → Within S
shape_within s = record { each = λ i h. terms_within (shape_at s).1 i (omega arith) h }

-- the root is open: its arguments are left
root_at : {S : List ℕ} (U : Term) → TermsAt S S 0 (length S) (U ◂ none) → depth (U ◂ none) ≤ 64 → (get_or S 0 0 ≡ length S) × Rest S 1 (length S ∷ [])
unfolding depth
root_at U (step r i b (stop h _ _)) d = (r.size ∙ omega arith, fill {es = []} (rw h at i) (omega arith) done)

pub root_forth : {S : List ℕ} → Shape S → (get_or S 0 0 ≡ length S) × Rest S 1 (length S ∷ [])
root_forth s = let u = shape_at s in root_at u.0 u.1 u.2

root_back : {S : List ℕ} → get_or S 0 0 ≡ length S → length S ≢ 0 → Rest S 1 (length S ∷ []) → Shape S
unfolding depth
root_back {S} p q (fill {f = us} x d done) =
    let z : length S ≡ suc (rows us) = omega (arith, terms_rows x) in
    let y : 0 + suc (rows us) ≡ length S = omega arith in
    let w : TermsAt S S 0 (length S) (some (get_or S 0 0) us none) = step {e = length S} (record { label = refl; size = p ∙ z }) (rw (sym y) at x) (omega arith) (stop y (omega arith) (omega arith)) in
    (term (get_or S 0 0) us, (at_all w refl refl).1, omega arith)

pub no_rows : {S : List ℕ} → length S ≡ 0 → Shape S → ⊥
unfolding rows
no_rows p (T, q, d) = omega (arith, p, ap length q, sizes_rows (T ◂ none))

-- the whole is good if and only if the rest is
pub record Whole (S : List ℕ) (t : ℕ) (es : List ℕ) : Type 0 where
  pub ends : Ends (length S) t es
  pub forth : Shape S → Rest S t es
  pub back : Rest S t es → Shape S

pub whole_root : {S : List ℕ} → get_or S 0 0 ≡ length S → length S ≢ 0 → Whole S 1 (length S ∷ [])
whole_root {S} p q =
    let h : 1 ≤ length S = omega arith in
    record { ends = inner h (outer refl); forth = λ s. (root_forth s).1; back = root_back p q }

pub within : {n t e : ℕ} {es : List ℕ} → Ends n t (e ∷ es) → (t ≤ e) × (e ≤ n)
within (inner h k) = (h, ends_le k)

pub without : {n t e : ℕ} {es : List ℕ} → Ends n t (e ∷ es) → Ends n e es
without (inner h k) = k

pub whole_close : {S : List ℕ} {t e : ℕ} {es : List ℕ} → Whole S t (e ∷ es) → t ≡ e → length es < 64 → Whole S t es
whole_close {S} {t} {e} {es} w p d =
    record {
      ends = rw p (without w.ends);
      forth = λ s. rw p (close_forth (w.forth s));
      back = λ r. w.back (close_back p (within w.ends).1 d (rw p at r));
    }

pub whole_open : {S : List ℕ} {t e : ℕ} {es : List ℕ} → Whole S t (e ∷ es) → t < e → get_or S t 0 ≢ 0 → t + get_or S t 0 ≤ e → Whole S (t + 1) ((t + get_or S t 0) ∷ e ∷ es)
whole_open {S} {t} {e} {es} w h p q =
    let z : t + 1 ≤ t + get_or S t 0 = omega arith in
    record {
      ends = inner z (inner q (without w.ends));
      forth = λ s. open_forth h (w.forth s);
      back = λ r. w.back (open_back h p q r);
    }
