-- What stands at a stop: the list that a sequence variable stands in, or the term of a context variable; and where its values land.
use Prim.Native.Nat.{ℕ, zero, suc, ◌+◌, ◌-◌, ◌*◌, ◌<◌, ◌≤◌}
use mathlib.Core.Path.{◌≡◌, refl, ap, ◌∙◌, sym, subst}
use mathlib.Core.Logic.{◌≢◌}
use mathlib.Core.List.{List}
use lib.ListN.{length, get_or}
use native.Mathlib.Omega.{arith}
use Rattle.meaning.specs.Forest.{Forest, none, some, Term, rows, terms}
use Rattle.meaning.specs.Read.{take_t}
use Rattle.meaning.specs.Pattern.{Pattern, Patterns, Kind, GoodT, GoodF, after_f}
use Rattle.meaning.proofs.Laws.{drop_t, take_drop, rows_of}
use Rattle.meaning.proofs.Resume.{Frame, Stop, at_sequence, at_context, least, largest}
use Rattle.tree.specs.Places.{TermsAt, TermAt}
use Rattle.tree.proofs.Terms.{terms_rows, FirstAt}
use Rattle.tree.proofs.Cuts.{cut_at}
use Rattle.pattern.specs.Places.{PatternAt, PatternsAt}
use Rattle.variable.specs.Steps.{Behind}
use Rattle.walk.specs.Packed.{Holds}
use Rattle.walk.specs.Above.{Stands, before_terms, over_term, Held}
use Rattle.walk.specs.Onward.{Lands, at_terms, at_hole}
use Rattle.walk.proofs.Resumes.{stop_row}
use Rattle.choice.specs.Stops.{many, StopAt}

-- terms taken and left, in two steps
pub drop_more : (d k e : ℕ) (us : Forest) → d + k ≡ e → drop_t k (drop_t d us) ≡ drop_t e us
unfolding drop_t
drop_more zero k e us h = let z : k ≡ e = omega arith in rw z
drop_more (suc d) zero zero us h = absurd (omega arith)
drop_more (suc d) zero (suc e) none h = refl
drop_more (suc d) zero (suc e) (some l us rest) h = drop_more d zero e rest (omega arith)
drop_more (suc d) (suc k) zero us h = absurd (omega arith)
drop_more (suc d) (suc k) (suc e) none h = refl
drop_more (suc d) (suc k) (suc e) (some l us rest) h = drop_more d (suc k) e rest (omega arith)

pub take_more : (d k e : ℕ) (us : Forest) → d + k ≡ e → rows (take_t e us) ≡ rows (take_t d us) + rows (take_t k (drop_t d us))
unfolding take_t drop_t rows
take_more zero k e us h = let z : k ≡ e = omega arith in rw z (omega arith)
take_more (suc d) k zero us h = absurd (omega arith)
take_more (suc d) zero (suc e) none h = omega arith
take_more (suc d) (suc k) (suc e) none h = omega arith
take_more (suc d) k (suc e) (some l us rest) h = omega (arith, take_more d k e rest (omega arith))

pub terms_left : (d : ℕ) (us : Forest) → d ≤ terms us → d + terms (drop_t d us) ≡ terms us
unfolding drop_t terms
terms_left zero us h = omega arith
terms_left (suc d) none h = absurd (omega arith)
terms_left (suc d) (some l us rest) h = omega (arith, terms_left d rest (omega arith))

pub behind_more : {L S : List ℕ} {e u r : ℕ} (t d k : ℕ) (us : Forest) → Behind L S t e us u d → Behind L S u e (drop_t d us) r k → Behind L S t e us r (d + k)
behind_more {L} {S} {e} {r = r} t d k us a b =
    (subst (λ (f : Forest). TermsAt L S r e f) (drop_more d k (d + k) us refl) b.0, omega (arith, take_more d k (d + k) us refl, a.1, b.1))

-- the first term is one
pub one_behind : {L S : List ℕ} {u e : ℕ} {us : Forest} → FirstAt L S u e us → Behind L S u e us (u + get_or S u 0) 1
unfolding take_t drop_t rows
one_behind {L} {S} {u} {e} f = subst (λ (g : Forest). Behind L S u e g (u + get_or S u 0) 1) (sym f.is) (f.others, omega (arith, f.first.row.size))

-- some terms are left where not all are taken
pub some_left : (us : Forest) → 0 < terms us → 0 < rows us
unfolding terms rows
some_left none h = absurd (omega arith)
some_left (some l vs rest) h = omega arith

-- the values go from the least to the largest
pub many_range : (w : Stop) (s : ℕ) → least w s + many w ≡ suc (largest w s)
many_range (at_sequence ps us) s = omega arith
many_range (at_context q T) s = omega arith

-- the list that a sequence variable stands in
pub record InList (L S A K N Z : List ℕ) (Q : List Kind) (p x s : ℕ) (w : Stop) (fs : List Frame) : Type 0 where
  pub h : ℕ
  pub pe : ℕ
  pub te : ℕ
  pub ps : Patterns
  pub us : Forest
  pub is : w ≡ at_sequence ps us
  pub holds : Holds Z h p
  pub lower : h < p
  pub pattern : PatternsAt K N Z Q (p + 1) pe ps
  pub good : GoodF Q ps (x + 1)
  pub tree : TermsAt L S s te us
  pub held : Held L S A K N Z Q h pe te (after_f ps (x + 1)) fs

-- the term that a context variable stands at
pub record AtTerm (L S K N Z : List ℕ) (Q : List Kind) (p x s : ℕ) (w : Stop) : Type 0 where
  pub q : Pattern
  pub T : Term
  pub is : w ≡ at_context q T
  pub pattern : PatternAt K N Z Q (p + 1) q
  pub good : GoodT Q q (x + 1)
  pub tree : TermAt L S s T.label T.args

module _ {L S A K N Z : List ℕ} {Q : List Kind} {p x s : ℕ} where
  pub in_list : {w : Stop} {fs : List Frame} → Stands L S A K N Z Q p x s w fs → get_or K p 0 ≡ 2 → InList L S A K N Z Q p x s w fs
  in_list (before_terms {h} {pe} {te} {ps} {us} c nm k e l pt g t hd) two =
      record { h = h; pe = pe; te = te; ps = ps; us = us; is = refl; holds = e; lower = e.past.lower; pattern = pt; good = g; tree = t; held = hd }
  in_list (over_term c nm k z i g t m b) two = absurd (omega arith)

  pub at_term : {w : Stop} {fs : List Frame} → Stands L S A K N Z Q p x s w fs → get_or K p 0 ≢ 2 → AtTerm L S K N Z Q p x s w
  at_term (before_terms c nm k e l pt g t hd) two = absurd (two k)
  at_term (over_term {h} {q} {T} c nm k z i g t m b) two = record { q = q; T = T; is = refl; pattern = i; good = g; tree = t }

-- where a value lands
pub lands_list : {L S : List ℕ} {s u d : ℕ} {ps : Patterns} {us : Forest} → Lands L S s u d (at_sequence ps us) → (e : ℕ) × Behind L S s e us u d
lands_list (at_terms {e = e} b) = (e, b)

pub lands_row : {L S : List ℕ} {s u d : ℕ} {q : Pattern} {T : Term} → Lands L S s u d (at_context q T) → s + d ≡ u
lands_row (at_hole b) = b.0

-- the end of the list is the same from each of its places
pub list_end : {L S : List ℕ} {s e te u : ℕ} {us : Forest} (d : ℕ) → TermsAt L S s te us → Behind L S s e us u d → e ≡ te
list_end {us = us} d t b = omega (arith, terms_rows t, terms_rows b.0, b.1, ap rows (take_drop d us), rows_of (take_t d us) (drop_t d us))

-- the rows and the counts of a term's holes
pub lands_at : {L S : List ℕ} {s d : ℕ} {q : Pattern} {T : Term} → TermAt L S s T.label T.args → d ≤ rows T.args → Lands L S s (s + d) d (at_context q T)
lands_at {L} {S} {s} {d} {T = T} t h =
    let v = cut_at (s + d) t (omega arith) (omega (arith, t.row.size)) in
    let f : s + d - s ≡ d = omega arith in
    at_hole (refl, rw f at v.1)

module _ {L S M A : List ℕ} {p s : ℕ} {K N Z : List ℕ} {Q : List Kind} {x : ℕ} {w : Stop} {fs : List Frame} (a : StopAt L S M A p s K N Z Q x w fs) where
  pub at_row : p < length K
  at_row = stop_row a.packed a.stands

  pub at_room : (p < 256) × (6 * p + 5 < length M)
  at_room = (omega (arith, at_row, a.marks.few), omega (arith, at_row, a.packed.room))

  pub at_kind : {k : ℕ} → k ≡ get_or M (6 * p) 0 → k ≡ get_or K p 0
  at_kind e = e ∙ a.packed.kinds p at_row

  pub at_list : {k : ℕ} → k ≡ get_or M (6 * p) 0 → k ≡ 2 → InList L S A K N Z Q p x s w fs
  at_list e two = in_list a.stands (sym (at_kind e) ∙ two)

  -- the row that holds it, as the code reads it
  pub at_holder : (l : InList L S A K N Z Q p x s w fs) → get_or M (6 * p + 3) 0 ≡ l.h
  at_holder l = a.packed.holders l.h p at_row l.holds

  pub at_the_term : {k : ℕ} → k ≡ get_or M (6 * p) 0 → k ≢ 2 → AtTerm L S K N Z Q p x s w
  at_the_term e two = at_term a.stands (λ f. two (at_kind e ∙ f))
