-- Values that fail at once: so many tries that fail are one step.
use Prim.Native.Nat.{ℕ, suc, ◌+◌, ◌*◌, ◌<◌, ◌≤◌}
use mathlib.Core.Path.{◌≡◌, refl, ap, ◌∙◌, sym, subst}
use mathlib.Core.Logic.{◌≢◌}
use mathlib.Core.List.{List}
use lib.ListN.{length, get_or}
use native.Mathlib.Omega.{arith}
use native.Mathlib.Decide.{ℕ_discrete}
use Rattle.meaning.specs.Forest.{Forest, none, some, Term, rows, terms}
use Rattle.meaning.specs.Read.{take_t, cut}
use Rattle.meaning.specs.Pattern.{Pattern, symbol, Patterns, nil, cons, Kind, GoodT}
use Rattle.meaning.specs.Record.{Entry}
use Rattle.meaning.proofs.Laws.{drop_t, terms_few}
use Rattle.meaning.proofs.Walk.{fail, walk_t, walk_f}
use Rattle.meaning.proofs.Resume.{Frame, Stop, at_sequence, at_context, onward}
use Rattle.meaning.proofs.Next.{Any, any?}
use Rattle.tree.specs.Places.{TermsAt}
use Rattle.tree.specs.Helpers.{PastPre, PastPost}
use Rattle.tree.proofs.Terms.{terms_end, terms_rows, nothing_at, first_at, term_next}
use Rattle.tree.proofs.Counts.{past_at}
use Rattle.pattern.specs.Places.{PatternAt}
use Rattle.variable.specs.Steps.{Behind}
use Rattle.variable.proofs.Choices.{when_no}
use Rattle.walk.specs.Packed.{Packed}
use Rattle.walk.specs.Onward.{Lands, at_terms, at_hole}
use Rattle.walk.proofs.Views.{term_seen, list_seen, TermView, v_symbol, v_individual, v_function, v_context, term_view, term_first, no_arguments}
use Rattle.choice.specs.Stops.{many}
use Rattle.choice.specs.Runs.{HolesPost, Unlike, NeighboursPre, NeighboursPost, WholePre, WholePost, Level, LevelPre, SkipPost}
use Rattle.choice.proofs.Stops.{drop_more, terms_left, behind_more, one_behind, some_left, InList, AtTerm, lands_list, lands_row, lands_at, list_end, at_room, at_list, at_holder, at_the_term}

-- the rows of holes
module _ {L : List ℕ} {symbol row limit : ℕ} where
  pub holes_none : HolesPost L symbol row limit 0
  holes_none = record { few = omega arith; unlike = λ j h. absurd (omega arith) }

  pub holes_more : {count : ℕ} → HolesPost L symbol row limit count → count < limit → get_or L (row + count) 0 ≢ symbol → HolesPost L symbol row limit (count + 1)
  holes_more {count} h l n =
      record {
        few = omega arith;
        unlike = λ j g. elim (ℕ_discrete j count) [
          | yes e ↦ rw e n
          | no e ↦ h.unlike j (omega arith)
        ];
      }

-- neighbours
module _ {L S : List ℕ} {symbol row limit : ℕ} where
  pub neighbours_none : NeighboursPost L S symbol row limit 0 row
  unfolding take_t drop_t rows
  neighbours_none = record { few = omega arith; is = λ e us t h. ((t, omega arith), λ j g. absurd (omega arith)) }

  module _ {count u : ℕ} (passed : NeighboursPost L S symbol row limit count u) (more : count < limit) where
    pub neighbours_next : NeighboursPre L S row limit → (u < length L) × (u < length S)
    neighbours_next pre =
        let z = pre.some in
        let b = (passed.is z.0 z.1 z.2 z.3).0 in
        let o = some_left (drop_t count z.1) (omega (arith, terms_left count z.1 (omega (arith, z.3)), z.3)) in
        let w = term_next (first_at b.0 (omega (arith, terms_rows b.0))).first in
        (w.labelled, w.sized)

    pub neighbours_more : {r : ℕ} → get_or L u 0 ≢ symbol → r ≡ u + get_or S u 0 → NeighboursPost L S symbol row limit (count + 1) r
    neighbours_more {r} n er =
        record {
          few = omega arith;
          is = λ e us t h.
              let y = passed.is e us t h in
              let b = y.0 in
              let o = some_left (drop_t count us) (omega (arith, terms_left count us (omega arith))) in
              let f = first_at b.0 (omega (arith, terms_rows b.0)) in (
                subst (λ (i : ℕ). Behind L S row e us i (count + 1)) (sym er) (behind_more row count 1 us b (one_behind f)),
                λ j g. elim (ℕ_discrete j count) [
                  | yes k ↦ rw k (record { label = f.label; args = f.args; rest = f.rest; is = f.is; other = λ i. n (f.first.row.label ∙ i) })
                  | no k ↦ y.1 j (omega arith)
                ],
              );
        }

-- all terms
all_terms : (us : Forest) → (drop_t (terms us) us ≡ none) × (take_t (terms us) us ≡ us)
unfolding drop_t take_t terms
all_terms none = (refl, refl)
all_terms (some l vs rest) = let h = all_terms rest in (h.0, ap (some l vs) h.1)

module _ {S A : List ℕ} {h u left limit : ℕ} where
  pub whole_end : {g r : ℕ} → limit + 1 ≡ left → g ≡ get_or A h 0 → r ≡ g + get_or S g 0 → WholePost S A h u left limit limit r
  whole_end {g} {r} e eg er =
      record {
        all = refl;
        is = λ L us t k.
            let i : get_or A h 0 + get_or S (get_or A h 0) 0 ≡ r = ap (λ (b : ℕ). b + get_or S b 0) (sym eg) ∙ sym er in
            let j : limit ≡ terms us = omega arith in
            let a = all_terms us in
            let n = terms_end t in
            let o : TermsAt L S (get_or A h 0 + get_or S (get_or A h 0) 0) (get_or A h 0 + get_or S (get_or A h 0) 0) none = nothing_at _ n.0 n.1 in
            subst (λ (b : ℕ). Behind L S u (get_or A h 0 + get_or S (get_or A h 0) 0) us b limit) i
            (rw (j, a.0, a.1) (o, terms_rows t));
      }

  pub whole_pre : WholePre S A h u left limit → PastPre S u limit
  whole_pre pre = let z = pre.some in record { some = (z.0, _, z.1, z.2, omega (arith, z.3, pre.fewer)) }

  pub whole_past : {r : ℕ} → limit < left → PastPost S u limit r → WholePost S A h u left limit limit r
  whole_past f past =
      record {
        all = refl;
        is = λ L us t k.
            let y = past_at past t (omega arith) in
            (y.1, terms_rows y.0);
      }

-- the label of what fills a hole
hole_label : {L S : List ℕ} {s u d : ℕ} {q : Pattern} {T : Term} → Lands L S s u d (at_context q T) → get_or L u 0 ≡ (cut T d).at.label
hole_label (at_hole b) = b.1.row.label

-- a symbol of the pattern
symbol_at : {K N Z M : List ℕ} {Q : List Kind} {p k y : ℕ} {q : Pattern} (n : ℕ) → Packed K N Z M → PatternAt K N Z Q p q → GoodT Q q n → k ≡ get_or M (6 * p) 0 → k ≡ 0 → y ≡ get_or M (6 * p + 1) 0
    → (qs : Patterns) × (q ≡ symbol y qs)
symbol_at n m a g ek zero ey = go zero (term_view m a g ek ey)
  where
    go : {K N Z : List ℕ} {Q : List Kind} {p k y n : ℕ} {q : Pattern} → k ≡ 0 → TermView K N Z Q p k y n q → (qs : Patterns) × (q ≡ symbol y qs)
    go z (v_symbol {ps = qs} e i h) = (qs, refl)
    go z (v_individual e c) = absurd (omega arith)
    go z (v_function e c i h) = absurd (omega arith)
    go z (v_context e c s i h) = absurd (omega arith)

-- the walk fails at once: at a hole with another label, before a term with another label, and where terms are left behind the list
hole_fails : (y : ℕ) (qs : Patterns) (T : Term) (s d : ℕ) (fs : List Frame) (B : List Entry) (cs : List ℕ) → (cut T d).at.label ≢ y → onward Any any? (at_context (symbol y qs) T) s fs d B cs ≡ fail
unfolding walk_t
hole_fails y qs T s d fs B cs n = rw (when_no (ℕ_discrete y (cut T d).at.label) (walk_f Any any? qs (cut T d).at.args (s + d + 1) B cs) (λ e. n (sym e)))

term_fails : (y : ℕ) (qs ps : Patterns) (us : Forest) (s d : ℕ) (fs : List Frame) (B : List Entry) (cs : List ℕ) → Unlike y (drop_t d us)
    → onward Any any? (at_sequence (cons (symbol y qs) ps) us) s fs d B cs ≡ fail
unfolding walk_f walk_t
term_fails y qs ps us s d fs B cs u =
    rw (u.is, when_no (ℕ_discrete y u.label) (walk_f Any any? qs u.args (s + rows (take_t d us) + 1) B cs) (λ e. u.other (sym e)))

nil_fails : (us : Forest) (t : ℕ) (B : List Entry) (cs : List ℕ) → 0 < terms us → walk_f Any any? nil us t B cs ≡ fail
unfolding walk_f terms
nil_fails none t B cs h = absurd (omega arith)
nil_fails (some l us rest) t B cs h = refl

list_fails : (us : Forest) (s d : ℕ) (fs : List Frame) (B : List Entry) (cs : List ℕ) → d < terms us → onward Any any? (at_sequence nil us) s fs d B cs ≡ fail
list_fails us s d fs B cs h = rw (nil_fails (drop_t d us) (s + rows (take_t d us)) B cs (omega (arith, terms_left d us (omega arith))))

-- nothing is skipped
pub skip_none : {L S M A : List ℕ} {p u left limit : ℕ} → SkipPost L S M A p u left limit 0 u
skip_none {L} {S} {u = u} =
    record {
      few = omega arith;
      is = λ K N Z Q x s w fs above v. (subst (λ (d : ℕ). Lands L S s u d w) (omega arith) v.lands, λ j h. absurd (omega arith));
    }

pub skip_room : {L S M A : List ℕ} {p u left limit : ℕ} → LevelPre L S M A p u left limit → (p < 256) × (6 * p + 5 < length M)
skip_room pre = at_room pre.some.9.at

-- a sequence variable
module _ {L S M A : List ℕ} {p u left k : ℕ} (ek : k ≡ get_or M (6 * p) 0) (two : k ≡ 2) where
  module _ {K N Z : List ℕ} {Q : List Kind} {x s : ℕ} {w : Stop} {fs : List Frame} {above : ℕ} (v : Level L S M A p u left K N Z Q x s w fs above) where
    -- the list that it stands in
    list : InList L S A K N Z Q p x s w fs
    list = at_list v.at ek two

    behind : Behind L S s list.te list.us u above
    behind =
        let b = lands_list (subst (Lands L S s u above) list.is v.lands) in
        subst (λ (e : ℕ). Behind L S s e list.us u above) (list_end above list.tree b.1) b.1

    all : above + left ≡ suc (terms list.us)
    all = v.left_over ∙ ap many list.is

    landed : {r : ℕ} (count : ℕ) → Behind L S u list.te (drop_t above list.us) r count → Lands L S s r (above + count) w
    landed count b = rw list.is (at_terms (behind_more s above count list.us behind b))

    -- how many terms are left, where some values are
    some_terms : 0 < left → suc (terms (drop_t above list.us)) ≡ left
    some_terms h = omega (arith, all, terms_left above list.us (omega (arith, all)))

    -- the row that holds it
    module _ {h : ℕ} (eh : h ≡ get_or M (6 * p + 3) 0) where
      held : list.h ≡ h
      held = sym (at_holder v.at list) ∙ sym eh

      ends : list.te ≡ get_or A h 0 + get_or S (get_or A h 0) 0
      ends = sym list.held.marked.behind ∙ ap (λ (b : ℕ). get_or A b 0 + get_or S (get_or A b 0) 0) held

      bounds : {pe : ℕ} → pe ≡ h + get_or M (6 * h + 2) 0 → list.pe ≡ pe
      bounds ep =
          sym list.held.ends ∙ ap (λ (b : ℕ). b + get_or Z b 0) held ∙ ap (λ (b : ℕ). h + b) (sym (v.at.packed.sizes h (rw held at list.held.inside))) ∙ sym ep

  module _ {h : ℕ} (eh : h ≡ get_or M (6 * p + 3) 0) where
    pub skip_holder : {limit : ℕ} → LevelPre L S M A p u left limit → (h < 256) × (6 * h + 5 < length M)
    skip_holder pre =
        let v = pre.some.9 in
        let e = held v eh in
        let i = (list v).held.inside in
        (omega (arith, v.at.marks.few), omega (arith, v.at.packed.room))

    pub skip_whole_pre : {limit : ℕ} → LevelPre L S M A p u left limit → WholePre S A h u left limit
    skip_whole_pre pre =
        let v = pre.some.9 in
        let f = pre.fewer in
        let b = (behind v).0 in
        let n = some_terms v (omega arith) in
        record {
          inside = (skip_holder pre).0;
          row = rw (sym (held v eh)) (list v).held.marked.row;
          fewer = pre.fewer;
          small = omega (arith, n, terms_few (drop_t pre.some.8 (list v).us), terms_rows b, terms_end b);
          some = (L, drop_t pre.some.8 (list v).us, rw (ends v eh) at b, sym n);
        }

    module _ {pe : ℕ} (ep : pe ≡ h + get_or M (6 * h + 2) 0) where
      -- it ends its list
      pub skip_whole : {limit count r : ℕ} → p + 1 ≡ pe → limit < left → WholePost S A h u left limit count r → SkipPost L S M A p u left limit count r
      skip_whole {limit} {count} {r} last fewer whole =
          record {
            few = omega (arith, whole.all);
            is = λ K N Z Q x s w fs above v.
                let i = list v in
                let n = some_terms v (omega arith) in
                let b = whole.is L (drop_t above i.us) (rw (ends v eh) at (behind v).0) (sym n) in
                let z : i.ps ≡ nil = no_arguments v.at.packed i.pattern (last ∙ sym (bounds v eh ep)) in (
                  landed v count (rw (ends v eh) b),
                  λ j h B cs. rw (i.is, z) (list_fails i.us s (above + j) fs B cs (omega (arith, all v, whole.all))),
                );
          }

      -- another row of the pattern stands behind it
      module _ (more : p + 1 ≢ pe) where
        follows : {K N Z : List ℕ} {Q : List Kind} {x s : ℕ} {w : Stop} {fs : List Frame} {above : ℕ} (v : Level L S M A p u left K N Z Q x s w fs above) → p + 1 ≢ (list v).pe
        follows v e = more (e ∙ bounds v eh ep)

        pub skip_next : {limit : ℕ} → LevelPre L S M A p u left limit → 6 * (p + 1) + 5 < length M
        skip_next pre = let v = pre.some.9 in (list_seen v.at.packed (list v).pattern (follows v)).room

        pub skip_neighbours_pre : {limit : ℕ} → LevelPre L S M A p u left limit → NeighboursPre L S u limit
        skip_neighbours_pre pre =
            let v = pre.some.9 in
            let f = pre.fewer in
            record { some = ((list v).te, drop_t pre.some.8 (list v).us, (behind v).0, omega (arith, some_terms v (omega arith))) }

        pub skip_neighbours : {limit count r j y : ℕ} → limit < left → j ≡ get_or M (6 * (p + 1)) 0 → j ≡ 0 → y ≡ get_or M (6 * (p + 1) + 1) 0 → NeighboursPost L S y u limit count r
            → SkipPost L S M A p u left limit count r
        skip_neighbours {count = count} fewer ej zero ey post =
            record {
              few = post.few;
              is = λ K N Z Q x s w fs above v.
                  let i = list v in
                  let f = term_first v.at.packed (follows v) ej i.pattern i.good (λ e. omega arith) in
                  let q = symbol_at (x + 1) v.at.packed f.here f.good ej zero ey in
                  let n = some_terms v (omega arith) in
                  let b = post.is i.te (drop_t above i.us) (behind v).0 (omega arith) in (
                    landed v count b.0,
                    λ j h B cs. rw (i.is, f.is, q.1) (term_fails _ q.0 f.rest i.us s (above + j) fs B cs (rw (drop_more above j (above + j) i.us refl) at (b.1 j h))),
                  );
            }

-- a context variable
module _ {L S M A : List ℕ} {p u left k : ℕ} (ek : k ≡ get_or M (6 * p) 0) (two : k ≢ 2) where
  module _ {K N Z : List ℕ} {Q : List Kind} {x s : ℕ} {w : Stop} {fs : List Frame} {above : ℕ} (v : Level L S M A p u left K N Z Q x s w fs above) where
    place : AtTerm L S K N Z Q p x s w
    place = at_the_term v.at ek two

    starts : s + above ≡ u
    starts = lands_row (subst (Lands L S s u above) place.is v.lands)

    holes_all : above + left ≡ suc (rows place.T.args)
    holes_all = v.left_over ∙ ap many place.is

  pub skip_under : {limit : ℕ} → LevelPre L S M A p u left limit → 6 * (p + 1) + 5 < length M
  skip_under pre = let v = pre.some.9 in (term_seen v.at.packed (place v).pattern).room

  pub skip_holes_pre : {limit : ℕ} → LevelPre L S M A p u left limit → u + limit ≤ length L
  skip_holes_pre pre =
      let v = pre.some.9 in
      let t = (place v).tree in
      omega (arith, pre.fewer, starts v, holes_all v, t.row.size, (term_next t).in_labels)

  pub skip_holes : {limit count j y : ℕ} → limit < left → j ≡ get_or M (6 * (p + 1)) 0 → j ≡ 0 → y ≡ get_or M (6 * (p + 1) + 1) 0 → HolesPost L y u limit count
      → SkipPost L S M A p u left limit count (u + count)
  skip_holes {count = count} {y = y} fewer ej zero ey post =
      record {
        few = post.few;
        is = λ K N Z Q x s w fs above v.
            let i = place v in
            let q = symbol_at (x + 1) v.at.packed i.pattern i.good ej zero ey in
            let e : s + (above + count) ≡ u + count = omega (arith, starts v) in (
              rw i.is (subst (λ (r : ℕ). Lands L S s r (above + count) (at_context i.q i.T)) e (lands_at i.tree (omega (arith, holes_all v, post.few)))),
              λ j h B cs.
                  rw (i.is, q.1)
                  (hole_fails y q.0 i.T s (above + j) fs B cs
                  (λ o. post.unlike j h (labelled v j (omega (arith, holes_all v, post.few)) ∙ o))),
            );
      }
    where
      labelled : {K N Z : List ℕ} {Q : List Kind} {x s : ℕ} {w : Stop} {fs : List Frame} {above : ℕ} (v : Level L S M A p u left K N Z Q x s w fs above) (j : ℕ) → above + j ≤ rows (place v).T.args
          → get_or L (u + j) 0 ≡ (cut (place v).T (above + j)).at.label
      labelled {s = s} {above = above} v j l =
          let e : u + j ≡ s + (above + j) = omega (arith, starts v) in
          rw e (hole_label (lands_at {q = (place v).q} (place v).tree l))
