-- Equal rows are equal sequences, and equal sequences have equal rows.
use Prim.Native.Nat.{ℕ, zero, suc, ◌+◌, ◌<◌, ◌≤◌, ◌-◌}
use mathlib.Core.Path.{◌≡◌, refl, ap, ◌∙◌, sym}
use mathlib.Core.Logic.{◌≢◌}
use mathlib.Core.Bool.{Bool}
use mathlib.Core.List.{List}
use lib.ListN.{get_or}
use native.Mathlib.Omega.{arith}
use native.Mathlib.Decide.{dec_lt}
use native.Mathlib.Nat.{add_assoc, add-zero}
use Rattle.meaning.specs.Calls.{Says}
use Rattle.meaning.specs.Forest.{Forest, some, rows}
use Rattle.tree.specs.Places.{TermsAt, stop, step, SameRows}
use Rattle.tree.proofs.Terms.{terms_le, terms_rows}

pub shift : {L S : List ℕ} {a t k : ℕ} (m j : ℕ) → m + j ≤ k → SameRows L S a t k → SameRows L S (a + m) (t + m) j
shift {L} {S} {a} {t} m j h same = record { each = λ i f. rw (add_assoc a m i, add_assoc t m i) (same.each (m + i) (omega arith)) }

pub rows_equal : {L S : List ℕ} {a e t d : ℕ} (k : ℕ) {f g : Forest} → TermsAt L S a e f → TermsAt L S t d g → e ≡ a + k → d ≡ t + k → SameRows L S a t k → f ≡ g
rows_equal k (stop h _ _) (stop o _ _) p q same = refl
rows_equal k (stop h _ _) (step r i b n) p q same = absurd (omega arith)
rows_equal k (step r i b n) (stop h _ _) p q same = absurd (omega arith)
rows_equal {a = a} {t = t} k (step {l = l} {us = us} r i b n) (step {l = m} {us = vs} r' i' b' n') p q same =
    let z : 0 < k = omega arith in
    let h = simp add-zero at (same.each 0 z) in
    let c : l ≡ m = sym r.label ∙ h.0 ∙ r'.label in
    let s : suc (rows us) ≡ suc (rows vs) = sym r.size ∙ h.1 ∙ r'.size in
    let v : us ≡ vs = rows_equal (rows us) i i' (omega arith) (omega arith) (shift 1 (rows us) (omega arith) same) in
    let w = rows_equal (k - suc (rows us)) n (rw (sym s) at n') (omega arith) (omega arith) (shift (suc (rows us)) (k - suc (rows us)) (omega arith) same) in
    cc

equal_rows : {L S : List ℕ} {a e t d : ℕ} {f : Forest} → TermsAt L S a e f → TermsAt L S t d f → SameRows L S a t (rows f)
unfolding rows
equal_rows (stop h _ _) y = record { each = λ i f. absurd (omega arith) }
equal_rows {L} {S} {a} {e} {t} {d} (step {l = l} {us = us} {rest = rest} r i b k) (step r' i' b' k') = record { each = λ j h. go j h (equal_rows i i') (equal_rows k k') }
  where
    go : (j : ℕ) → j < rows (some l us rest) → SameRows L S (a + 1) (t + 1) (rows us) → SameRows L S (a + suc (rows us)) (t + suc (rows us)) (rows rest)
        → (get_or L (a + j) 0 ≡ get_or L (t + j) 0) × (get_or S (a + j) 0 ≡ get_or S (t + j) 0)
    go zero h x y = simp add-zero (r.label ∙ sym r'.label, r.size ∙ sym r'.size)
    go (suc j) h x y = pick (dec_lt j (rows us))
      where
        pick : Dec (j < rows us) → (get_or L (a + suc j) 0 ≡ get_or L (t + suc j) 0) × (get_or S (a + suc j) 0 ≡ get_or S (t + suc j) 0)
        pick (yes f) =
            let p : a + suc j ≡ a + 1 + j = omega arith in
            let q : t + suc j ≡ t + 1 + j = omega arith in
            rw (p, q) (x.each j f)
        pick (no f) =
            let p : a + suc j ≡ a + suc (rows us) + (j - rows us) = omega arith in
            let q : t + suc j ≡ t + suc (rows us) + (j - rows us) = omega arith in
            rw (p, q) (y.each (j - rows us) (omega arith))

-- what comparing rows says of the sequences
pub compared : {L S : List ℕ} {a e t d k : ℕ} {f g : Forest} {b : Bool} → TermsAt L S a e f → TermsAt L S t d g → e ≡ a + k → d ≡ t + k → Says b (SameRows L S a t k) → Says b (f ≡ g)
compared {k = k} {f = f} x y p q s =
    let r : rows f ≡ k = omega (arith, terms_rows x) in
    (λ h. rows_equal k x y p q (s.0 h), λ h. s.1 (rw r at (equal_rows x (rw (sym h) at y))))

pub unlike : {L S : List ℕ} {a e t d : ℕ} {f g : Forest} → TermsAt L S a e f → TermsAt L S t d g → e - a ≢ d - t → f ≢ g
unlike x y h w = h (omega (arith, ap rows w, terms_rows x, terms_rows y))

-- the rows are those of one sequence only
pub one_sequence : {L S : List ℕ} {t e : ℕ} {f g : Forest} → TermsAt L S t e f → TermsAt L S t e g → f ≡ g
one_sequence {t = t} {e = e} x y =
    let h : e ≡ t + (e - t) = omega (arith, terms_le x) in
    rows_equal (e - t) x y h h (record { each = λ i f. (refl, refl) })
