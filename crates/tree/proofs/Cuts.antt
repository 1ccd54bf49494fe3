-- The term at a row with what stands to its right, and the context around it, stand at their places.
use Prim.Native.Nat.{ℕ, zero, suc, ◌+◌, ◌<◌, ◌≤◌, ◌-◌}
use mathlib.Core.Path.{◌≡◌, ◌∙◌, sym}
use mathlib.Core.Logic.{◌≢◌}
use mathlib.Core.List.{List}
use lib.ListN.{get_or}
use native.Mathlib.Omega.{arith}
use native.Mathlib.Decide.{dec_lt}
use Rattle.meaning.specs.Forest.{Forest, none, some, term, rows}
use Rattle.meaning.specs.Read.{from_in, forest_from_row, Cut, cut_in, cut_f, Split, under, cut}
use Rattle.meaning.proofs.From.{from_yes, from_no}
use Rattle.tree.specs.Places.{TermsAt, stop, step, TermAt, Next, Level, ContextAt, at_hole, at_node}
use Rattle.tree.proofs.Terms.{terms_le, nothing_at, term_next, term_size}

-- what stands from a row on stands among the first term's arguments, or in the rest
module _ (l : ℕ) (us rest : Forest) (d : ℕ) where
  pub from_inside : d < rows us → forest_from_row (some l us rest) (suc d) ≡ forest_from_row us d
  unfolding forest_from_row
  from_inside h = from_yes (dec_lt d (rows us)) _ _ h

  pub from_behind : forest_from_row (some l us rest) (suc (rows us + d)) ≡ forest_from_row rest d
  unfolding forest_from_row
  from_behind =
      let z : rows us + d - rows us ≡ d = omega arith in
      from_no (dec_lt (rows us + d) (rows us)) _ _ (λ h. omega arith) ∙ rw z

pub filled : {L S : List ℕ} {t e : ℕ} {f : Forest} → TermsAt L S t e f → t < e → f ≢ none
filled (stop h a b) f e = omega arith
filled (step r i b k) f e = let z : ◌≡◌ {A = ℕ} 0 1 = cc in omega arith

-- the sequence from the row a on, up to the end of its list
pub record FromAt (L S : List ℕ) (a e : ℕ) (f : Forest) : Type 0 where
  pub end : ℕ
  pub later : a < end
  pub within : end ≤ e
  pub here : TermsAt L S a end f

pub from_at : {L S : List ℕ} {t e : ℕ} {f : Forest} (d a : ℕ) → TermsAt L S t e f → t + d ≡ a → a < e → FromAt L S a e (forest_from_row f d)
unfolding forest_from_row
from_at d a (stop h _ _) p q = absurd (omega arith)
from_at {t = t} {e = e} zero a (step r i b k) p q =
    let z : t ≡ a = omega arith in
    record { end = e; later = q; within = omega arith; here = rw (sym z) (step r i b k) }
from_at {L} {S} {t} {e} (suc d) a (step {l = l} {us = us} {rest = rest} r i b k) p q = go (dec_lt d (rows us)) (from_at d a i (omega arith)) (from_at (d - rows us) a k)
  where
    go : (x : Dec (d < rows us)) → (a < t + suc (rows us) → FromAt L S a (t + suc (rows us)) (forest_from_row us d))
        → (t + suc (rows us) + (d - rows us) ≡ a → a < e → FromAt L S a e (forest_from_row rest (d - rows us))) → FromAt L S a e (from_in x (forest_from_row us d) (forest_from_row rest (d - rows us)))
    go (yes y) x _ =
        let w = x (omega arith) in
        record { end = w.end; later = w.later; within = omega (arith, w.within); here = w.here }
    go (no y) _ x = x (omega arith) q

-- from a row of all rows on
pub from_row : {L S : List ℕ} {n : ℕ} {R : Forest} (a : ℕ) → TermsAt L S 0 n R → a < n → FromAt L S a n (forest_from_row R a) × (forest_from_row R a ≢ none)
from_row a h f =
    let w = from_at a a h (omega arith) f in
    (w, filled w.here w.later)

-- a sequence that is cut at its row h: the term that holds the row begins at the row at
pub record CutAt (L S : List ℕ) (t e h : ℕ) (x : Cut) : Type 0 where
  pub at : ℕ
  pub low : at ≤ h
  pub high : h < at + get_or S at 0
  pub ends : at + get_or S at 0 ≤ e
  pub before : TermsAt L S t at x.left
  pub there : Next L S at
  pub around : ContextAt L S at h x.around
  pub inner : TermAt L S h x.inner.label x.inner.args
  pub after : TermsAt L S (at + get_or S at 0) e x.right

pub cut_in_lem : {L S : List ℕ} {t e : ℕ} {f : Forest} (d h : ℕ) → TermsAt L S t e f → t + d ≡ h → h < e → CutAt L S t e h (cut_f f d)
unfolding cut_f
cut_in_lem d h (stop p _ _) q b = absurd (omega arith)
cut_in_lem {L} {S} {t} {e} zero h (step {l = l} {us = us} r i b k) q c =
    let T : TermAt L S t l us = record { row = r; inner = i } in
    let n = term_next T in
    let z : t ≡ h = omega arith in
    record {
      at = t;
      low = omega arith;
      high = omega (arith, n);
      ends = omega (arith, r.size);
      before = nothing_at t (omega (arith, n)) (omega (arith, n));
      there = n;
      around = at_hole n z;
      inner = rw (sym z) T;
      after = rw r.size k;
    }
cut_in_lem {L} {S} {t} {e} (suc d) h (step {l = l} {us = us} {rest = rest} r i b k) q c = go (dec_lt d (rows us)) (cut_in_lem d h i (omega arith)) (cut_in_lem (d - rows us) h k)
  where
    go : (x : Dec (d < rows us)) → (h < t + suc (rows us) → CutAt L S (t + 1) (t + suc (rows us)) h (cut_f us d))
        → (t + suc (rows us) + (d - rows us) ≡ h → h < e → CutAt L S (t + suc (rows us)) e h (cut_f rest (d - rows us)))
        → CutAt L S t e h (cut_in x l us rest (cut_f us d) (cut_f rest (d - rows us)))
    go (yes y) x _ =
        let w = x (omega arith) in
        let T : TermAt L S t l us = record { row = r; inner = i } in
        let n = term_next T in
        let z = term_size T in
        let v : Level L S t w.at l (cut_f us d).left (cut_f us d).right =
        record { here = n; label = r.label; before = w.before; there = w.there; ends = omega (arith, w.ends); after = rw z at w.after }
        in
        record {
          at = t;
          low = omega arith;
          high = omega arith;
          ends = omega arith;
          before = nothing_at t (omega (arith, n)) (omega (arith, n));
          there = n;
          around = at_node v w.low w.high w.around;
          inner = w.inner;
          after = rw r.size k;
        }
    go (no y) _ x =
        let w = x (omega arith) c in
        record {
          at = w.at;
          low = w.low;
          high = w.high;
          ends = w.ends;
          before = step {e = w.at} r i (terms_le w.before) w.before;
          there = w.there;
          around = w.around;
          inner = w.inner;
          after = w.after;
        }

-- a term that is cut at its row b
pub cut_at : {L S : List ℕ} {a l : ℕ} {us : Forest} (b : ℕ) → TermAt L S a l us → a ≤ b → b < a + get_or S a 0
    → ContextAt L S a b (cut (term l us) (b - a)).around × TermAt L S b (cut (term l us) (b - a)).at.label (cut (term l us) (b - a)).at.args
unfolding cut
cut_at {L} {S} {a} {l} {us} b T p q = go (b - a) (omega arith)
  where
    z : a + suc (rows us) ≡ a + get_or S a 0
    z = term_size T

    Cut-at : Split → Type 0
    Cut-at x = ContextAt L S a b x.around × TermAt L S b x.at.label x.at.args

    go : (d : ℕ) → a + d ≡ b → Cut-at (cut (term l us) d)
    go zero e =
        let y : a ≡ b = omega arith in
        (at_hole (term_next T) y, rw (sym y) T)
    go (suc d) e = pick (dec_lt d (rows us)) (cut_in_lem d b T.inner (omega arith) (omega arith))
      where
        pick : (x : Dec (d < rows us)) → CutAt L S (a + 1) (a + suc (rows us)) b (cut_f us d) → Cut-at (under x (term l us) (cut_f us d))
        pick (no n) w = absurd (omega arith)
        pick (yes _) w =
            let v : Level L S a w.at l (cut_f us d).left (cut_f us d).right =
            record { here = term_next T; label = T.row.label; before = w.before; there = w.there; ends = omega (arith, w.ends); after = rw z at w.after }
            in
            (at_node v w.low w.high w.around, w.inner)
