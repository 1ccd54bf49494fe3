-- A variable that the walk asked for takes a value.
use Prim.Native.Nat.{ℕ, ◌+◌, ◌-◌, ◌<◌, ◌≤◌}
use mathlib.Core.Path.{◌≡◌, refl, ap, ◌∙◌, sym, subst}
use mathlib.Core.List.{List, [], ◌∷◌, ◌++◌}
use lib.ListN.{length, set}
use native.Mathlib.Omega.{arith}
use native.Mathlib.Decide.{dec_le}
use Rattle.meaning.specs.Forest.{hole_row}
use Rattle.meaning.specs.Read.{cut}
use Rattle.meaning.specs.Pattern.{Kind, a_sequence, a_context, Comes}
use Rattle.meaning.specs.Matcher.{kind}
use Rattle.meaning.specs.Record.{Entry, entry, second}
use Rattle.meaning.proofs.Laws.{terms_take, terms_few, cut_holds}
use Rattle.meaning.proofs.Walk.{Res, when}
use Rattle.meaning.proofs.Steps.{when_yes}
use Rattle.meaning.proofs.Resume.{Frame, Stop, least, largest, taken, onward, then_done}
use Rattle.meaning.proofs.Next.{Any, any?}
use Rattle.tree.specs.Places.{ContextAt}
use Rattle.tree.proofs.Terms.{terms_le, terms_end, terms_rows, split_at, term_next}
use Rattle.tree.proofs.Cuts.{cut_at}
use Rattle.variable.specs.State.{ValueAt, some_terms, a_context_value, Written, row_of, zero_of_individual, zero_of_function}
use Rattle.variable.proofs.Lists.{same_before}
use Rattle.variable.proofs.States.{put_both, state_more}
use Rattle.walk.specs.Above.{Unchanged, Stands, before_terms, over_term}
use Rattle.walk.specs.Cycle.{Needs}
use Rattle.walk.specs.Onward.{Lands, at_terms, at_hole, ResumeAsked, ResumePre, ResumePost}
use Rattle.walk.specs.Taken.{TakeAsked, TakePre, TakePost}
use Rattle.std.specs.Prelude.{Result}
use Rattle.walk.specs.declared.Halt.{Halt}
use Rattle.walk.proofs.Marks.{marked_kept, behind_kept, held_kept}
use Rattle.walk.proofs.Views.{agree_same}

-- what is before a stop stays, and so does the stop
pub stands_kept : {L S A A' K N Z : List ℕ} {Q : List Kind} {p x s q : ℕ} {w : Stop} {fs : List Frame} → p < q → Unchanged q A A' → Stands L S A K N Z Q p x s w fs
    → Stands L S A' K N Z Q p x s w fs
stands_kept l u (before_terms c nm k e h pt g t hd) = before_terms c nm k e h pt g t (held_kept u (omega (arith, e.past.lower)) hd)
stands_kept l u (over_term c nm k z i g t m b) = over_term c nm k z i g t (marked_kept u l m) (behind_kept u (omega arith) b)

unfoldable pub needs_kept : {L S R R' A A' K N Z : List ℕ} {Q : List Kind} {fs : List Frame} {f : List ℕ → Res} {p x s lo hi y q : ℕ} → x ≤ y → Unchanged (y + y) R R' → p < q → Unchanged q A A'
    → Needs L S R A K N Z Q fs f p x s lo hi → Needs L S R' A' K N Z Q fs f p x s lo hi
needs_kept {R = R} {R' = R'} {x = x} h r l u w =
    record {
      bound = w.bound;
      stop = w.stop;
      frames = w.frames;
      within = w.within;
      state =
          record {
            small = w.state.small;
            room = omega (arith, w.state.room, r.long);
            bound = w.state.bound;
            stand = w.state.stand;
            numbered = same_before R' R r.long (x + x) (λ i j. r.before i (omega arith)) ∙ w.state.numbered;
          };
      stands = stands_kept l u w.stands;
      low = w.low;
      high = w.high;
      asks = w.asks;
      goes = w.goes;
    }

-- the variable at a stop, and its value d above the least
record Value-at (L S : List ℕ) (Q : List Kind) (x s v d : ℕ) (w : Stop) : Type 0 where
  its : Kind
  comes : Comes Q x its x
  is : kind (taken w d) ≡ its
  here : ValueAt L S s (taken w d)
  second_is : second (taken w d) s ≡ v
  row : s < 4294967296

value_at_lem : {L S A K N Z : List ℕ} {Q : List Kind} {p x s u v : ℕ} {w : Stop} {fs : List Frame} → length L < 4294967296 → Stands L S A K N Z Q p x s w fs → least w s ≤ v → v ≤ largest w s
    → Lands L S s u (v - least w s) w → Value-at L S Q x s v (v - least w s) w
value_at_lem {v = v} small (before_terms {us = us} c nm k e h pt g t hd) a b (at_terms y) =
    let r = split_at v t in
    let z : v - 0 ≡ v = omega arith in
    record {
      its = a_sequence;
      comes = record { near = omega arith; kept = c };
      is = refl;
      here = rw z (some_terms r.1);
      second_is = rw z (terms_take v us b);
      row = omega (arith, terms_le t, terms_end t);
    }
value_at_lem {L} {S} {s = s} {v = v} small (over_term {T = T} c nm k z i g t m b) a d (at_hole y) =
    let q = cut_at v t a (omega (arith, t.row.size)) in
    let e : s + hole_row (cut T (v - s)).around ≡ v = omega (arith, cut_holds T (v - s) (omega arith)) in
    record {
      its = a_context;
      comes = record { near = omega arith; kept = c };
      is = refl;
      here = a_context_value (subst (λ (i : ℕ). ContextAt L S s i (cut T (v - s)).around) (sym e) q.0);
      second_is = e;
      row = omega (arith, (term_next t).labelled);
    }

-- the values of a variable are rows or counts of the tree
small_value : {L S A K N Z : List ℕ} {Q : List Kind} {p x s v : ℕ} {w : Stop} {fs : List Frame} → length L < 4294967296 → Stands L S A K N Z Q p x s w fs → v ≤ largest w s → v < 4294967296
small_value small (before_terms {us = us} c nm k e h pt g t hd) b = omega (arith, terms_few us, terms_rows t, terms_end t)
small_value small (over_term c nm k z i g t m o) b = omega (arith, t.row.size, (term_next t).in_labels)

-- a choice in its range
in_range : {A B C : Type 0} (a : Dec A) (b : Dec B) (c : Dec C) (r : Res) → A → B → C → when a (when b (when c r)) ≡ r
in_range a b c r x y z = when_yes a _ x ∙ when_yes b _ y ∙ when_yes c r z

-- with a value as one more choice the walk goes on behind the stop
pub needs_onward : {L S R A K N Z : List ℕ} {Q : List Kind} {f : List ℕ → Res} {p x s lo hi : ℕ} (n : Needs L S R A K N Z Q [] f p x s lo hi) (v : ℕ) → lo ≤ v → v ≤ hi → (cs : List ℕ)
    → f (v ∷ cs) ≡ onward Any any? n.stop s n.frames (v - lo) (n.bound ++ (entry (taken n.stop (v - lo)) s ∷ [])) cs
needs_onward {f = f} {x = x} {s = s} n v low high cs =
    let w = n.stop in
    sym (then_done Any any? (f (v ∷ cs))) ∙ n.goes v cs
    ∙ in_range (dec_le (least w s) v) (dec_le v (largest w s)) (any? x (taken w (v - least w s))) _ (omega (arith, n.low)) (omega (arith, n.high)) tt
    ∙ ap (λ (i : ℕ). onward Any any? w s n.frames (v - i) (n.bound ++ (entry (taken w (v - i)) s ∷ [])) cs) n.low

module _ {L S M R A : List ℕ} {p x s u v : ℕ} where
  -- the value stands there, in the bounds that the stop has
  value : {K N Z : List ℕ} {Q : List Kind} {f : List ℕ → Res} {lo hi : ℕ} (a : TakeAsked L S M R A p x s u v K N Z Q f lo hi) → Value-at L S Q x s v (v - lo) a.needs.stop
  value {Q = Q} {lo = lo} a =
      let n = a.needs in
      let y = n.low in
      subst (λ (i : ℕ). Value-at L S Q x s v (v - i) n.stop) y
      (value_at_lem n.state.small n.stands (omega (arith, a.low)) (omega (arith, a.high, n.high)) (subst (λ (i : ℕ). Lands L S s u (v - i) n.stop) (sym y) a.lands))

  pub take_room : TakePre L S M R A p x s u v → (x + x + 1 < length R) × (s < 4294967296) × (v < 4294967296) × (x < 16)
  take_room pre =
      let a = pre.some.7 in
      let n = a.needs in
      (omega (arith, n.within, n.state.room), (value a).row, small_value n.state.small n.stands (omega (arith, a.high, n.high)), omega (arith, a.long, n.within, n.state.room))

  bound : {K N Z : List ℕ} {Q : List Kind} {f : List ℕ → Res} {lo hi : ℕ} → TakeAsked L S M R A p x s u v K N Z Q f lo hi → List Entry
  bound {lo = lo} a = a.needs.bound ++ (entry (taken a.needs.stop (v - lo)) s ∷ [])

  -- with the value as one more choice the walk goes on behind the stop
  goes : {K N Z : List ℕ} {Q : List Kind} {f : List ℕ → Res} {lo hi : ℕ} (a : TakeAsked L S M R A p x s u v K N Z Q f lo hi) (cs : List ℕ)
      → f (v ∷ cs) ≡ onward Any any? a.needs.stop s a.needs.frames (v - lo) (bound a) cs
  unfolding bound
  goes a cs = needs_onward a.needs v a.low a.high cs

  module _ {R₁ : List ℕ} (er : R₁ ≡ set (set R (x + x) s) (x + x + 1) v) where
    resume_asked : {K N Z : List ℕ} {Q : List Kind} {f : List ℕ → Res} {lo hi : ℕ} (a : TakeAsked L S M R A p x s u v K N Z Q f lo hi)
        → ResumeAsked L S M R₁ A p u (x + 1) K N Z Q (bound a) x s a.needs.stop a.needs.frames (v - lo)
    unfolding bound
    resume_asked {lo = lo} a =
        let n = a.needs in
        let y = value a in
        let put = put_both {R = R} {n = x} {t = s} {v = v} (omega (arith, n.within, n.state.room)) er in
        record {
          packed = a.packed;
          state = state_more n.state y.comes refl y.is y.here (rw y.second_is put);
          marks = a.marks;
          stands = n.stands;
          last = refl;
          lands = a.lands;
        }

    pub take_resume : TakePre L S M R A p x s u v → ResumePre L S M R₁ A p u (x + 1)
    take_resume pre =
        let h = pre.some in
        let a = h.7 in
        record { some = (h.0, h.1, h.2, h.3, bound a, x, s, a.needs.stop, a.needs.frames, v - h.5, resume_asked a) }

    pub take_is : {o : Result ℕ Halt} {R₂ A₂ : List ℕ} → ResumePost L S M R₁ A p u (x + 1) o R₂ A₂ → TakePost L S M R A p x s u v o R₂ A₂
    take_is {R₂ = R₂} post =
        record {
          is = λ K N Z Q f lo hi a.
              let n = a.needs in
              let y = post.is K N Z Q (bound a) x s n.stop n.frames (v - lo) (resume_asked a) in
              let put = put_both {R = R} {n = x} {t = s} {v = v} (omega (arith, n.within, n.state.room)) er in (
                y.0,
                agree_same (goes a) y.1,
                record {
                  long = y.2.long ∙ put.long;
                  before = λ i l. y.2.rest i (λ w. unwritten w l) ∙ put.rest i (omega arith) (omega arith);
                },
                y.3,
              );
        }
      where
        unwritten : {Q : List Kind} {i : ℕ} → Written Q (x + 1) i → i < x + x → ⊥
        unwritten (row_of y a b c) l = omega arith
        unwritten (zero_of_individual y a b c) l = omega arith
        unwritten (zero_of_function y a b c) l = omega arith
