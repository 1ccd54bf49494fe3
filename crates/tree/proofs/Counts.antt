-- The loops that count terms and pass them.
use Prim.Native.Nat.{ℕ, zero, suc, ◌+◌, ◌<◌, ◌≤◌}
use mathlib.Core.Path.{◌≡◌, ap, sym}
use mathlib.Core.List.{List}
use lib.ListN.{length, get_or}
use native.Mathlib.Omega.{arith}
use native.Mathlib.Numerals.{add-one}
use Rattle.meaning.specs.Forest.{Forest, terms, ◌⊕◌}
use Rattle.meaning.specs.Read.{take_t}
use Rattle.meaning.proofs.Laws.{drop_t, take_drop, terms_take, take_of, drop_of, terms_of}
use Rattle.tree.specs.Places.{TermsAt, stop, step, TermAt, Next}
use Rattle.tree.specs.Helpers.{CountPre, CountPost, PastPre, PastPost}
use Rattle.tree.proofs.Terms.{terms_le, terms_end, term_next, alone_at, nothing_at, none_at, first_at}

-- n terms are counted up to the row u: the terms are these and those that are left
pub record Counted (S : List ℕ) (t e n u : ℕ) : Type 0 where
  pub few : n + t ≤ u
  pub rest : (L : List ℕ) (us : Forest) → TermsAt L S t e us → (v : Forest) × TermsAt L S u e v × (terms us ≡ n + terms v)

pub counted_none : (S : List ℕ) (t e : ℕ) → Counted S t e 0 t
counted_none S t e = record { few = omega arith; rest = λ L us h. (us, h, omega arith) }

module _ {S : List ℕ} {t e n u : ℕ} (counted : Counted S t e n u) where
  pub counted_next : CountPre S t e → u < e → (u < length S) × (1 ≤ get_or S u 0) × (u + get_or S u 0 ≤ e)
  counted_next p f =
      let x = first_at (counted.rest _ _ p.some.2).1 f in
      let n = term_next x.first in
      (n.sized, n.positive, x.ends)

  pub counted_more : {r : ℕ} → CountPre S t e → u < e → r ≡ u + get_or S u 0 → Counted S t e (n + 1) r
  unfolding terms
  counted_more {r} p f z =
      record {
        few = omega (arith, counted_next p f, counted.few);
        rest = λ L us h.
            let y = counted.rest L us h in
            let x = first_at y.1 f in
            (x.rest, rw z x.others, omega (arith, y.2, ap terms x.is));
      }

  pub counted_all : e ≤ u → CountPost S t e n
  unfolding terms
  counted_all f =
      record {
        is = λ L us h.
            let y = counted.rest L us h in
            omega (arith, y.2, ap terms (none_at y.1 f));
      }

-- i terms are passed up to the row u: they end there, and the others start there
pub record Passed (S : List ℕ) (t c i u : ℕ) : Type 0 where
  pub both : (L : List ℕ) (e : ℕ) (us : Forest) → TermsAt L S t e us → c ≤ terms us → TermsAt L S t u (take_t i us) × TermsAt L S u e (drop_t i us)

pub passed_none : (S : List ℕ) (t c : ℕ) → Passed S t c 0 t
unfolding take_t drop_t
passed_none S t c = record { both = λ L e us h f. (nothing_at t (omega (arith, terms_end h, terms_le h)) (omega (arith, terms_end h, terms_le h)), h) }

one_more : {L S : List ℕ} {t e u : ℕ} (i : ℕ) {us : Forest} → TermsAt L S t e us → TermsAt L S t u (take_t i us) → TermsAt L S u e (drop_t i us) → i < terms us
    → TermsAt L S t (u + get_or S u 0) (take_t (suc i) us) × TermsAt L S (u + get_or S u 0) e (drop_t (suc i) us) × Next L S u
unfolding take_t drop_t terms
one_more i (stop h a b) x y f = absurd (omega arith)
one_more {L} {S} {t} zero (step {l = l} {us = us} r i b k) (stop h c d) y f =
    let T : TermAt L S t l us = record { row = r; inner = i } in
    rw (sym h) (alone_at T, rw r.size k, term_next T)
one_more {S = S} {u = u} (suc i) (step r a b k) (step r' a' b' x) y f =
    let h = one_more i k x y (omega arith) in
    (step {e = u + get_or S u 0} r a (omega arith) h.0, h.1, h.2)

module _ {S : List ℕ} {t c i u : ℕ} (passed : Passed S t c i u) where
  pub passed_next : PastPre S t c → i < c → u < length S
  passed_next p f =
      let q = p.some in
      let x = passed.both _ _ _ q.3 q.4 in
      (one_more i q.3 x.0 x.1 (omega (arith, q.4))).2.sized

  pub passed_more : {r : ℕ} → i < c → r ≡ u + get_or S u 0 → Passed S t c (i + 1) r
  passed_more {r} f z =
      record {
        both = λ L e us h g.
            let y = passed.both L e us h g in
            let x = one_more i h y.0 y.1 (omega arith) in
            rw (z, add-one) (x.0, x.1);
      }

  pub passed_all : i ≤ c → c ≤ i → PastPost S t c u
  passed_all f g = record { is = go }
    where
      go : (L : List ℕ) (e : ℕ) (front back : Forest) → TermsAt L S t e (front ⊕ back) → terms front ≡ c → TermsAt L S t u front × TermsAt L S u e back
      go L e front back h z =
          let j : i ≡ terms front = omega arith in
          let y = rw j at (passed.both L e (front ⊕ back) h (omega (arith, terms_of front back))) in
          (rw (take_of front back) at y.0, rw (drop_of front back) at y.1)

-- the answer of past, by taking and dropping
pub past_at : {L S : List ℕ} {t c r e : ℕ} {us : Forest} → PastPost S t c r → TermsAt L S t e us → c ≤ terms us → TermsAt L S t r (take_t c us) × TermsAt L S r e (drop_t c us)
past_at {L} {S} {t} {c} {r} {e} {us} h k f = h.is L e (take_t c us) (drop_t c us) (rw (take_drop c us) k) (terms_take c us f)
