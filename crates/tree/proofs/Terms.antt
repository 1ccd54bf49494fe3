-- Laws of sequences in rows.
use Prim.Native.Nat.{ℕ, zero, suc, ◌+◌, ◌<◌, ◌≤◌}
use mathlib.Core.Path.{◌≡◌, refl}
use mathlib.Core.Logic.{◌≢◌}
use mathlib.Core.List.{List}
use lib.ListN.{length, get_or}
use native.Mathlib.Omega.{arith}
use native.Mathlib.Decide.{ℕ_discrete, dec_lt}
use Rattle.meaning.specs.Forest.{Forest, none, some, rows}
use Rattle.meaning.specs.Read.{take_t}
use Rattle.meaning.proofs.Laws.{drop_t}
use Rattle.tree.specs.Places.{TermsAt, stop, step, TermAt, Next}

pub terms_le : {L S : List ℕ} {t e : ℕ} {f : Forest} → TermsAt L S t e f → t ≤ e
terms_le (stop h a b) = omega arith
terms_le (step r i b k) = omega arith

pub terms_end : {L S : List ℕ} {t e : ℕ} {f : Forest} → TermsAt L S t e f → (e ≤ length L) × (e ≤ length S)
terms_end (stop h a b) = (a, b)
terms_end (step r i b k) = terms_end k

pub terms_rows : {L S : List ℕ} {t e : ℕ} {f : Forest} → TermsAt L S t e f → t + rows f ≡ e
unfolding rows
terms_rows (stop h a b) = omega arith
terms_rows (step r i b k) = omega (arith, terms_rows i, terms_rows k)

-- every row of a sequence has a size, and ends within it
pub terms_within : {L S : List ℕ} {t e : ℕ} {f : Forest} → TermsAt L S t e f → (i : ℕ) → t ≤ i → i < e → (get_or S i 0 ≢ 0) × (i + get_or S i 0 ≤ e)
terms_within (stop h a b) i p q = absurd (omega arith)
terms_within {L} {S} {t} {e} (step {us = us} r x b k) i p q =
    elim (ℕ_discrete t i) [
      | yes z ↦ let s = rw z at r.size in (omega arith, omega arith)
      | no z ↦ elim (dec_lt i (t + suc (rows us))) [
        | yes y ↦ let w = terms_within x i (omega arith) y in (w.0, omega arith)
        | no y ↦ terms_within k i (omega arith) q
      ]
    ]

-- no terms, where the lists go on to t
pub nothing_at : {L S : List ℕ} (t : ℕ) → t ≤ length L → t ≤ length S → TermsAt L S t t none
nothing_at t a b = stop refl a b

-- the term at a row
pub term_next : {L S : List ℕ} {t l : ℕ} {us : Forest} → TermAt L S t l us → Next L S t
term_next h =
    let e = terms_end h.inner in
    let s = h.row.size in
    record { labelled = omega arith; sized = omega arith; positive = omega arith; in_labels = omega arith; in_sizes = omega arith }

pub term_size : {L S : List ℕ} {t l : ℕ} {us : Forest} → TermAt L S t l us → t + suc (rows us) ≡ t + get_or S t 0
term_size h = omega (arith, h.row.size)

-- a term as a sequence of one
pub alone_at : {L S : List ℕ} {t l : ℕ} {us : Forest} → TermAt L S t l us → TermsAt L S t (t + get_or S t 0) (some l us none)
alone_at {S = S} {t = t} h =
    let n = term_next h in
    let z = term_size h in
    step {e = t + get_or S t 0} h.row h.inner (omega arith) (stop z n.in_labels n.in_sizes)

pub none_at : {L S : List ℕ} {t e : ℕ} {f : Forest} → TermsAt L S t e f → e ≤ t → f ≡ none
none_at (stop h a b) f = refl
none_at (step r i b k) f = absurd (omega arith)

-- the first term of a sequence, and the rest
pub record FirstAt (L S : List ℕ) (t e : ℕ) (f : Forest) : Type 0 where
  pub label : ℕ
  pub args : Forest
  pub rest : Forest
  pub is : f ≡ some label args rest
  pub first : TermAt L S t label args
  pub ends : t + get_or S t 0 ≤ e
  pub others : TermsAt L S (t + get_or S t 0) e rest

pub first_at : {L S : List ℕ} {t e : ℕ} {f : Forest} → TermsAt L S t e f → t < e → FirstAt L S t e f
first_at (stop h a b) f = absurd (omega arith)
first_at (step {l = l} {us = us} {rest = rest} r i b k) f =
    record { label = l; args = us; rest = rest; is = refl; first = record { row = r; inner = i }; ends = omega (arith, r.size); others = rw r.size k }

-- a sequence in two parts
pub split_at : {L S : List ℕ} {t e : ℕ} (c : ℕ) {us : Forest} → TermsAt L S t e us → (w : ℕ) × TermsAt L S t w (take_t c us) × TermsAt L S w e (drop_t c us)
unfolding take_t drop_t
split_at {t = t} zero h = (t, nothing_at t (omega (arith, terms_end h, terms_le h)) (omega (arith, terms_end h, terms_le h)), h)
split_at {e = e} (suc c) (stop h a b) = (e, stop h a b, stop refl a b)
split_at {t = t} (suc c) (step {us = us} r i b k) =
    let x = split_at {t = t + suc (rows us)} c k in
    (x.0, step {e = x.0} r i (terms_le x.1) x.1, x.2)
