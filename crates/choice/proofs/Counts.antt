-- How many values a variable has that the walk asked for, and the row of each.
use Prim.Native.Nat.{ℕ, suc, ◌+◌, ◌-◌, ◌*◌, ◌<◌, ◌≤◌}
use mathlib.Core.Path.{◌≡◌, refl, ap, ◌∙◌, sym, subst}
use mathlib.Core.Logic.{◌≢◌}
use mathlib.Core.List.{List}
use lib.ListN.{length, get_or}
use native.Mathlib.Omega.{arith}
use Rattle.meaning.specs.Forest.{Forest, rows, terms}
use Rattle.meaning.specs.Pattern.{Kind}
use Rattle.meaning.proofs.Laws.{drop_t, terms_few}
use Rattle.meaning.proofs.Resume.{Frame, Stop, at_context, largest}
use Rattle.tree.specs.Places.{TermsAt}
use Rattle.tree.specs.Helpers.{CountPre, CountPost, PastPre, PastPost}
use Rattle.tree.proofs.Terms.{terms_le, terms_end, terms_rows, first_at, term_next}
use Rattle.tree.proofs.Compare.{one_sequence}
use Rattle.tree.proofs.Counts.{past_at}
use Rattle.walk.specs.Onward.{Lands, at_terms}
use Rattle.choice.specs.Stops.{many, StopAt, AtStop, LeastPost, ValuesPost, LandingPre, LandingPost, FurtherPost, FewerPre, Fewer, from_there, Before, MorePre, MorePost}
use Rattle.std.specs.Prelude.{Some}
use Rattle.choice.proofs.Stops.{list_end, lands_list, lands_at, terms_left, at_row, at_room, at_list, at_holder, at_the_term}

-- the least value
module _ {M : List ℕ} {p s k : ℕ} (ek : k ≡ get_or M (6 * p) 0) where
  pub least_terms : k ≡ 2 → LeastPost M p s 0
  least_terms two = record { is = λ L S A K N Z Q x w fs a. let i = at_list a ek two in rw i.is }

  pub least_hole : k ≢ 2 → LeastPost M p s s
  least_hole two = record { is = λ L S A K N Z Q x w fs a. let i = at_the_term a ek two in rw i.is }

-- the number of values
module _ {S M A : List ℕ} {p s : ℕ} where
  pub values_room : AtStop S M A p s → (p < 256) × (6 * p + 5 < length M)
  values_room pre = at_room pre.some.8

  module _ {k : ℕ} (ek : k ≡ get_or M (6 * p) 0) where
    pub values_row : k ≢ 2 → AtStop S M A p s → s < length S
    values_row two pre = (term_next (at_the_term pre.some.8 ek two).tree).sized

    pub values_holes : {r : ℕ} → k ≢ 2 → r ≡ get_or S s 0 → ValuesPost S M A p s r
    values_holes two er = record { is = λ L K N Z Q x w fs a. let i = at_the_term a ek two in rw i.is (er ∙ i.tree.row.size) }

    module _ (two : k ≡ 2) {h : ℕ} (eh : h ≡ get_or M (6 * p + 3) 0) where
      holding : {L K N Z : List ℕ} {Q : List Kind} {x : ℕ} {w : Stop} {fs : List Frame} (a : StopAt L S M A p s K N Z Q x w fs) → (at_list a ek two).h ≡ h
      holding a = sym (at_holder a (at_list a ek two)) ∙ sym eh

      pub values_holder : AtStop S M A p s → (h < 256) × (get_or A h 0 < length S)
      values_holder pre =
          let a = pre.some.8 in
          let i = at_list a ek two in
          let e = holding a in
          (omega (arith, i.lower, at_row a, a.marks.few), rw (sym e) i.held.marked.row)

      module _ {g e : ℕ} (eg : g ≡ get_or A h 0) (ee : e ≡ g + get_or S g 0) where
        ends : {L K N Z : List ℕ} {Q : List Kind} {x : ℕ} {w : Stop} {fs : List Frame} (a : StopAt L S M A p s K N Z Q x w fs) → TermsAt L S s e (at_list a ek two).us
        ends {L} a =
            let i = at_list a ek two in
            let j : i.te ≡ e = sym i.held.marked.behind ∙ ap (λ (b : ℕ). get_or A b 0 + get_or S (get_or A b 0) 0) (holding a) ∙ ap (λ (b : ℕ). b + get_or S b 0) (sym eg) ∙ sym ee in
            subst (λ (b : ℕ). TermsAt L S s b i.us) j i.tree

        pub values_counted : AtStop S M A p s → CountPre S s e
        values_counted pre = let a = pre.some.8 in record { some = (pre.some.0, (at_list a ek two).us, ends a) }

        module _ {n : ℕ} (count : CountPost S s e n) where
          pub values_small : AtStop S M A p s → n ≤ length S
          values_small pre =
              let a = pre.some.8 in
              let t = ends a in
              omega (arith, count.is _ _ t, terms_few (at_list a ek two).us, terms_rows t, terms_end t)

          pub values_terms : ValuesPost S M A p s (n + 1)
          values_terms = record { is = λ L K N Z Q x w fs a. let i = at_list a ek two in rw i.is (omega (arith, count.is L i.us (ends a))) }

-- the row at which the walk goes on
module _ {S M : List ℕ} {p s v : ℕ} where
  pub landing_room : LandingPre S M p s v → 6 * p + 5 < length M
  landing_room pre = (at_room pre.some.9).1

  module _ {k : ℕ} (ek : k ≡ get_or M (6 * p) 0) where
    pub landing_past : k ≡ 2 → LandingPre S M p s v → PastPre S s v
    landing_past two pre =
        let z = pre.some in
        let i = at_list z.9 ek two in
        let h : v ≤ largest z.7 s = z.11 in
        record { some = (z.0, i.te, i.us, i.tree, rw i.is at h) }

    pub landing_terms : {u : ℕ} → k ≡ 2 → PastPost S s v u → LandingPost S M p s v u
    landing_terms {u} two past =
        record {
          is = λ L A K N Z Q x w fs a low high.
              let i = at_list a ek two in
              let h : v ≤ terms i.us = rw i.is at high in
              let y = past_at past i.tree h in
              let z : v - 0 ≡ v = omega arith in
              rw i.is (at_terms {e = i.te} {us = i.us} (rw z (y.1, terms_rows y.0)));
        }

    pub landing_hole : k ≢ 2 → LandingPost S M p s v v
    landing_hole two =
        record {
          is = λ L A K N Z Q x w fs a low high.
              let i = at_the_term a ek two in
              let g : s ≤ v = rw i.is at low in
              let h : v ≤ s + rows i.T.args = rw i.is at high in
              let z : s + (v - s) ≡ v = omega arith in
              rw i.is (subst (λ (u : ℕ). Lands L S s u (v - s) (at_context i.q i.T)) z (lands_at {q = i.q} i.tree (omega arith)));
        }

-- the row of the next value
module _ {S M : List ℕ} {p u left : ℕ} where
  pub further_last : left ≡ 0 → FurtherPost S M p u left u
  further_last e = record { terms = λ h. absurd (omega arith); hole = λ h. absurd (omega arith) }

  pub further_terms : {k r : ℕ} → k ≡ get_or M (6 * p) 0 → k ≡ 2 → r ≡ u + get_or S u 0 → FurtherPost S M p u left r
  further_terms ek two er = record { terms = λ h g. er; hole = λ h n. absurd (n (omega arith)) }

  pub further_hole : {k : ℕ} → k ≡ get_or M (6 * p) 0 → k ≢ 2 → FurtherPost S M p u left (u + 1)
  further_hole ek two = record { terms = λ h g. absurd (two (ek ∙ g)); hole = λ h n. refl }

-- fewer terms: n are left from the row on
pub record Leaving (S : List ℕ) (u left row n : ℕ) : Type 0 where
  pub is : (L : List ℕ) (e : ℕ) (us : Forest) → TermsAt L S u e us → terms us ≡ left → (v : Forest) × TermsAt L S row e v × (terms v ≡ n)

module _ {S : List ℕ} {u left : ℕ} where
  pub leaving_all : Leaving S u left u left
  leaving_all = record { is = λ L e us t h. (us, t, h) }

  module _ {s row n : ℕ} (leaving : Leaving S u left row n) where
    pub leaving_next : FewerPre S u s left → row < s → (row < length S) × (1 ≤ get_or S row 0) × (0 < n)
    unfolding terms
    leaving_next pre h =
        let z = pre.some in
        let y = leaving.is z.0 z.1 z.2 z.3 z.4 in
        let f = first_at y.1 (omega (arith, z.5)) in
        let w = term_next f.first in
        (w.sized, w.positive, omega (arith, y.2, ap terms f.is))

    pub leaving_more : {r : ℕ} → FewerPre S u s left → row < s → r ≡ row + get_or S row 0 → Leaving S u left r (n - 1)
    unfolding terms
    leaving_more pre h er =
        record {
          is = λ L e us t k.
              let y = leaving.is L e us t k in
              let f = first_at y.1 (inside L e us t k) in
              (f.rest, subst (λ (i : ℕ). TermsAt L S i e f.rest) (sym er) f.others, omega (arith, y.2, ap terms f.is));
        }
      where
        -- some terms are left, since n is not 0
        inside : (L : List ℕ) (e : ℕ) (us : Forest) → TermsAt L S u e us → terms us ≡ left → row < e
        inside L e us t k =
            let y = leaving.is L e us t k in
            omega (arith, y.2, terms_few y.0, terms_rows y.1, (leaving_next pre h).2)

    pub leaving_there : row ≡ s → Fewer S u s left (Some n)
    leaving_there e = from_there λ L f us vs t k w. let y = leaving.is L f us t k in ap terms (one_sequence w (rw e at y.1)) ∙ y.2

-- n terms stand from the row u up to e
record Left (L S : List ℕ) (u e n : ℕ) : Type 0 where
  behind : Forest
  from : TermsAt L S u e behind
  count : terms behind ≡ n

-- the number of values, behind a variable that has a value
module _ {S M A : List ℕ} {q u left p s : ℕ} where
  pub more_at : MorePre S M A q u left p s → AtStop S M A p s
  more_at pre = let z = pre.some in record { some = (z.0, z.1, z.2, z.3, z.4, z.5, z.6, z.7, z.8) }

  pub more_all : {r : ℕ} → ValuesPost S M A p s r → MorePost S M A q u left p s r
  more_all post = record { is = λ L K N Z Q x w fs a b. post.is L K N Z Q x w fs a }

  more_before : {L K N Z : List ℕ} {Q : List Kind} {x : ℕ} {w : Stop} {fs : List Frame} → StopAt L S M A p s K N Z Q x w fs → (b : Before L S A q u left K N Z Q) → StopAt L S M A q b.s K N Z Q b.x b.stop b.frames
  more_before a b = record { packed = a.packed; marks = a.marks; stands = b.stands }

  pub more_room : MorePre S M A q u left p s → (q < 256) × (6 * q + 5 < length M)
  more_room pre = let z = pre.some in at_room (more_before z.8 z.9)

  -- both stand in one list
  module _ {k j h g : ℕ} (ek : k ≡ get_or M (6 * q) 0) (ek2 : k ≡ 2) (ej : j ≡ get_or M (6 * p) 0) (ej2 : j ≡ 2) (eh : h ≡ get_or M (6 * q + 3) 0) (eg : g ≡ get_or M (6 * p + 3) 0) (one : h ≡ g) where
    both : {L K N Z : List ℕ} {Q : List Kind} {x : ℕ} {w : Stop} {fs : List Frame} (a : StopAt L S M A p s K N Z Q x w fs) → Before L S A q u left K N Z Q → Left L S u (at_list a ej ej2).te left
    both {L} a b =
        let i = at_list a ej ej2 in
        let o = at_list (more_before a b) ek ek2 in
        let m : o.h ≡ i.h = sym (at_holder (more_before a b) o) ∙ sym eh ∙ one ∙ eg ∙ at_holder a i in
        let l = lands_list (subst (Lands L S b.s u b.above) o.is b.lands) in
        let e : l.0 ≡ o.te = list_end b.above o.tree l.1 in
        let f : o.te ≡ i.te = sym o.held.marked.behind ∙ ap (λ (c : ℕ). get_or A c 0 + get_or S (get_or A c 0) 0) m ∙ i.held.marked.behind in
        let y : suc (b.above + left) ≡ suc (terms o.us) = b.left_over ∙ ap many o.is in
        record {
          behind = drop_t b.above o.us;
          from = subst (λ (c : ℕ). TermsAt L S u c (drop_t b.above o.us)) (e ∙ f) l.1.0;
          count = omega (arith, y, terms_left b.above o.us (omega arith));
        }

    pub more_fewer : MorePre S M A q u left p s → FewerPre S u s left
    more_fewer pre =
        let z = pre.some in
        let t = both z.8 z.9 in
        let i = at_list z.8 ej ej2 in
        record { some = (z.0, i.te, t.behind, t.from, t.count, terms_le i.tree) }

    pub more_terms : {n : ℕ} → Fewer S u s left (Some n) → MorePost S M A q u left p s (n + 1)
    more_terms {n} f =
        record {
          is = λ L K N Z Q x w fs a b.
              let t = both a b in
              let i = at_list a ej ej2 in
              rw i.is (omega (arith, said f L i.te t.behind i.us t.from t.count i.tree));
        }
      where
        said : {n : ℕ} → Fewer S u s left (Some n) → (L : List ℕ) (e : ℕ) (us vs : Forest) → TermsAt L S u e us → terms us ≡ left → TermsAt L S s e vs → terms vs ≡ n
        said (from_there g) = g

    pub more_fewer_small : {n : ℕ} → Fewer S u s left (Some n) → MorePre S M A q u left p s → n ≤ length S
    more_fewer_small {n} f pre =
        let z = pre.some in
        let i = at_list z.8 ej ej2 in
        let y = (more_terms f).is _ _ _ _ _ _ _ _ z.8 z.9 ∙ ap many i.is in
        omega (arith, y, terms_few i.us, terms_rows i.tree, terms_end i.tree)
