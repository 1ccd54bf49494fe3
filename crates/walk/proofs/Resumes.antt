-- The walk goes on from a stop.
use Prim.Native.Nat.{ℕ, ◌+◌, ◌*◌, ◌<◌, ◌≤◌}
use mathlib.Core.Path.{◌≡◌, ap, ◌∙◌, sym, subst}
use mathlib.Core.Logic.{◌≢◌}
use mathlib.Core.List.{List, []}
use lib.ListN.{length, get_or}
use native.Mathlib.Omega.{arith}
use Rattle.meaning.specs.Forest.{Forest, Term, rows}
use Rattle.meaning.specs.Read.{take_t, cut}
use Rattle.meaning.specs.Pattern.{Pattern, Patterns, Kind, GoodT, GoodF, after_t, after_f}
use Rattle.meaning.specs.Record.{Entry}
use Rattle.meaning.proofs.Laws.{drop_t, take_drop, rows_of}
use Rattle.meaning.proofs.Complete.{after_ge_t, after_ge_f}
use Rattle.meaning.proofs.Walk.{Res, ok, and_then, walk_t, walk_f}
use Rattle.meaning.proofs.Resume.{Frame, Stop, run, onward}
use Rattle.meaning.proofs.Next.{Any, any?}
use Rattle.tree.specs.Places.{TermsAt, TermAt}
use Rattle.tree.proofs.Terms.{terms_rows}
use Rattle.pattern.specs.Places.{PatternAt, PatternsAt, at_nil, at_cons, at_sequence}
use Rattle.variable.specs.State.{Kept}
use Rattle.variable.proofs.States.{kept_then}
use Rattle.walk.specs.Packed.{Past, Holds, Packed}
use Rattle.walk.specs.Above.{Marked, Unchanged, Behind, in_context, Held, Stands, before_terms, over_term}
use Rattle.walk.specs.Cycle.{Agree, TermAsked, TermPre, TermPost, ListAsked, ListPre, ListPost}
use Rattle.walk.specs.Onward.{UpAsked, UpPre, UpPost, Lands, at_terms, at_hole, ResumeAsked, ResumePre, ResumePost}
use Rattle.std.specs.Prelude.{Result, Ok, Err}
use Rattle.walk.specs.declared.Halt.{Halt}
use Rattle.walk.proofs.Marks.{unchanged_then, marks_kept, marked_kept, behind_kept, past_first}
use Rattle.walk.proofs.Views.{term_seen, ok_agree, agree_same, agree_before}
use Rattle.walk.proofs.Ups.{patterns_le, halts_run}

patterns_end : {K N Z : List ℕ} {Q : List Kind} {p e : ℕ} {ps : Patterns} → PatternsAt K N Z Q p e ps → e ≤ length K
patterns_end (at_nil h e) = e
patterns_end (at_cons a b i) = patterns_end i
patterns_end (at_sequence r v z b i) = patterns_end i

-- a part f of the walk g, and then the frames
module _ {L S R A K N Z : List ℕ} {Q : List Kind} {p₀ m : ℕ} (fs : List Frame) (f : List ℕ → Res) {g : List ℕ → Res} (goes : (cs : List ℕ) → g cs ≡ and_then (f cs) (run Any any? fs)) where
  part_halts : {h : Halt} → Agree L S R A K N Z Q p₀ m fs f (Err h) → Agree L S R A K N Z Q p₀ m [] g (Err h)
  part_halts a = agree_same goes (halts_run fs a)

  part_goes : {B : List Entry} {o : Result ℕ Halt} → ((cs : List ℕ) → f cs ≡ ok B cs) → Agree L S R A K N Z Q p₀ m [] (run Any any? fs B) o → Agree L S R A K N Z Q p₀ m [] g o
  part_goes e a = agree_same (λ cs. goes cs ∙ rw (e cs)) a

-- the walk goes on in the list that a sequence variable stands in
record InList (L S A K N Z : List ℕ) (Q : List Kind) (p u x s d : ℕ) (w : Stop) (fs : List Frame) : Type 0 where
  h : ℕ
  pe : ℕ
  te : ℕ
  ps : Patterns
  us : Forest
  holds : Holds Z h p
  past : Past Z h (p + 1)
  pattern : PatternsAt K N Z Q (p + 1) pe ps
  good : GoodF Q ps (x + 1)
  tree : TermsAt L S u te us
  held : Held L S A K N Z Q h pe te (after_f ps (x + 1)) fs
  goes : (B : List Entry) (cs : List ℕ) → onward Any any? w s fs d B cs ≡ and_then (walk_f Any any? ps us u B cs) (run Any any? fs)

-- or at the hole of a context variable
record AtHole (L S A K N Z : List ℕ) (Q : List Kind) (p u x s d : ℕ) (w : Stop) (fs : List Frame) : Type 0 where
  h : ℕ
  end : ℕ
  q : Pattern
  T : Term
  kind : get_or K p 0 ≡ 4
  within : p + 1 + get_or Z (p + 1) 0 ≤ p + get_or Z p 0
  pattern : PatternAt K N Z Q (p + 1) q
  good : GoodT Q q (x + 1)
  tree : TermAt L S u T.label T.args
  marked : Marked S A p end
  above : Behind L S A K N Z Q h p end (after_t q (x + 1)) fs
  goes : (B : List Entry) (cs : List ℕ) → onward Any any? w s fs d B cs ≡ and_then (walk_t Any any? q T u B cs) (run Any any? fs)

module _ {L S A K N Z : List ℕ} {Q : List Kind} {p u x s d : ℕ} where
  in_list : {w : Stop} {fs : List Frame} → Stands L S A K N Z Q p x s w fs → Lands L S s u d w → get_or K p 0 ≡ 2 → InList L S A K N Z Q p u x s d w fs
  in_list (before_terms {h} {pe} {te} {ps} {us} {fs} c nm k e l pt g t hd) (at_terms b) two =
      let r : rows us ≡ rows (take_t d us) + rows (drop_t d us) = ap rows (sym (take_drop d us)) ∙ rows_of (take_t d us) (drop_t d us) in
      record {
        h = h;
        pe = pe;
        te = te;
        ps = ps;
        us = drop_t d us;
        holds = e;
        past = l;
        pattern = pt;
        good = g;
        tree = subst (λ (i : ℕ). TermsAt L S u i (drop_t d us)) (omega (arith, terms_rows t, terms_rows b.0, b.1)) b.0;
        held = hd;
        goes = λ B cs. ap (λ (i : ℕ). and_then (walk_f Any any? ps (drop_t d us) i B cs) (run Any any? fs)) b.1;
      }
  in_list (over_term c nm k z q g t m b) l two = absurd (omega arith)

  at_the_hole : {w : Stop} {fs : List Frame} → Stands L S A K N Z Q p x s w fs → Lands L S s u d w → get_or K p 0 ≢ 2 → AtHole L S A K N Z Q p u x s d w fs
  at_the_hole (before_terms c nm k e l pt g t hd) b two = absurd (two k)
  at_the_hole (over_term {h} {q} {T} {fs} y nm k z i g t m b) (at_hole c) two =
      record {
        h = h;
        end = s + get_or S s 0;
        q = q;
        T = (cut T d).at;
        kind = k;
        within = omega arith;
        pattern = i;
        good = g;
        tree = c.1;
        marked = m;
        above = b;
        goes = λ B cs. ap (λ (i : ℕ). and_then (walk_t Any any? q (cut T d).at i B cs) (run Any any? fs)) c.0;
      }

pub stop_row : {L S M A K N Z : List ℕ} {Q : List Kind} {p x s : ℕ} {w : Stop} {fs : List Frame} → Packed K N Z M → Stands L S A K N Z Q p x s w fs → p < length K
stop_row m (before_terms c nm k e l pt g t hd) = omega (arith, patterns_le pt, patterns_end pt)
stop_row m (over_term c nm k z i g t o b) = omega (arith, (term_seen m i).inside)

module _ {L S M R A : List ℕ} {p u n : ℕ} where
  pub resume_row : ResumePre L S M R A p u n → (p < 256) × (6 * p + 5 < length M)
  resume_row pre =
      let a = pre.some.10 in
      let l = stop_row a.packed a.stands in
      (omega (arith, a.marks.few), omega (arith, a.packed.room))

  kinded : {K N Z : List ℕ} {Q : List Kind} {B : List Entry} {x s : ℕ} {w : Stop} {fs : List Frame} {d : ℕ} → ResumeAsked L S M R A p u n K N Z Q B x s w fs d → get_or M (6 * p) 0 ≡ get_or K p 0
  kinded a = a.packed.kinds p (stop_row a.packed a.stands)

  -- a sequence variable: the rest of the list that it stands in
  module _ (two : get_or M (6 * p) 0 ≡ 2) where
    list : {K N Z : List ℕ} {Q : List Kind} {B : List Entry} {x s : ℕ} {w : Stop} {fs : List Frame} {d : ℕ} → ResumeAsked L S M R A p u n K N Z Q B x s w fs d
        → InList L S A K N Z Q p u x s d w fs
    list a = in_list a.stands a.lands (sym (kinded a) ∙ two)

    module _ {h : ℕ} (eh : h ≡ get_or M (6 * p + 3) 0) where
      its_holder : {K N Z : List ℕ} {Q : List Kind} {B : List Entry} {x s : ℕ} {w : Stop} {fs : List Frame} {d : ℕ} (a : ResumeAsked L S M R A p u n K N Z Q B x s w fs d) → (list a).h ≡ h
      its_holder a = sym (a.packed.holders (list a).h p (stop_row a.packed a.stands) (list a).holds) ∙ sym eh

      pub resume_holder : ResumePre L S M R A p u n → (h < 256) × (6 * h + 5 < length M) × (get_or A h 0 < length S)
      resume_holder pre =
          let a = pre.some.10 in
          let l = list a in
          let e = its_holder a in
          let k = stop_row a.packed a.stands in
          let m = l.holds.past.lower in
          (omega (arith, a.marks.few), omega (arith, a.packed.room), rw (sym e) l.held.marked.row)

      module _ {pe b te : ℕ} (ep : pe ≡ h + get_or M (6 * h + 2) 0) (eb : b ≡ get_or A h 0) (ed : te ≡ b + get_or S b 0) where
        list_asked : {K N Z : List ℕ} {Q : List Kind} {B : List Entry} {x s : ℕ} {w : Stop} {fs : List Frame} {d : ℕ} (a : ResumeAsked L S M R A p u n K N Z Q B x s w fs d)
            → ListAsked L S M R A (p + 1) pe u te n K N Z Q (list a).ps (list a).us B fs
        list_asked {K} {N} {Z} {Q} {x = x} {fs = fs} a =
            let l = list a in
            let e = its_holder a in
            let hd : Held L S A K N Z Q h l.pe l.te (after_f l.ps n) fs =
            subst (λ (i : ℕ). Held L S A K N Z Q h l.pe l.te (after_f l.ps i) fs) (sym a.last)
            (subst (λ (i : ℕ). Held L S A K N Z Q i l.pe l.te (after_f l.ps (x + 1)) fs) e l.held)
            in
            let i : l.pe ≡ pe = sym hd.ends ∙ ap (λ (z : ℕ). h + z) (sym (a.packed.sizes h hd.inside)) ∙ sym ep in
            let j : l.te ≡ te = sym hd.marked.behind ∙ ap (λ (z : ℕ). z + get_or S z 0) (sym eb) ∙ sym ed in
            record {
              packed = a.packed;
              pattern = subst (λ (z : ℕ). PatternsAt K N Z Q (p + 1) z l.ps) i l.pattern;
              good = subst (GoodF Q l.ps) (sym a.last) l.good;
              tree = subst (λ (z : ℕ). TermsAt L S u z l.us) j l.tree;
              state = a.state;
              marks = a.marks;
              holder = h;
              below = subst (λ (i : ℕ). Past Z i (p + 1)) e l.past;
              held = subst (λ (z : ℕ). Held L S A K N Z Q h pe z (after_f l.ps n) fs) j (subst (λ (z : ℕ). Held L S A K N Z Q h z l.te (after_f l.ps n) fs) i hd);
            }

        pub resume_list_pre : ResumePre L S M R A p u n → ListPre L S M R A (p + 1) pe u te n
        resume_list_pre pre =
            let s = pre.some in
            let a = s.10 in
            record { K = s.0; N = s.1; Z = s.2; Q = s.3; ps = (list a).ps; us = (list a).us; B = s.4; fs = s.8; asked = list_asked a }

        walked : {o : Result ℕ Halt} {R₁ A₁ : List ℕ} → ListPost L S M R A (p + 1) pe u te n o R₁ A₁ → {K N Z : List ℕ} {Q : List Kind} {B : List Entry} {x s : ℕ} {w : Stop} {fs : List Frame} {d : ℕ} (a : ResumeAsked L S M R A p u n K N Z Q B x s w fs d)
            → Agree L S R₁ A₁ K N Z Q (p + 1) (after_f (list a).ps n) fs (walk_f Any any? (list a).ps (list a).us u B) o × Kept Q n R R₁ × Unchanged (p + 1) A A₁
        walked post {K} {N} {Z} {Q} {B} {fs = fs} a = post.is K N Z Q (list a).ps (list a).us B fs (list_asked a)

        pub resume_list_halts : {i : Halt} {R₁ A₁ : List ℕ} → ListPost L S M R A (p + 1) pe u te n (Err i) R₁ A₁ → ResumePost L S M R A p u n (Err i) R₁ A₁
        resume_list_halts post =
            record {
              is = λ K N Z Q B x s w fs d a.
                  let y = walked post a in
                  let l = list a in
                  (_, part_halts fs (walk_f Any any? l.ps l.us u B) (l.goes B) y.0, y.1, y.2);
            }

        module _ {m : ℕ} {R₁ A₁ : List ℕ} (post : ListPost L S M R A (p + 1) pe u te n (Ok m) R₁ A₁) where
          list_up : {K N Z : List ℕ} {Q : List Kind} {B : List Entry} {x s : ℕ} {w : Stop} {fs : List Frame} {d : ℕ} (a : ResumeAsked L S M R A p u n K N Z Q B x s w fs d)
              → (C : List Entry) × UpAsked L S M R₁ A₁ h m K N Z Q C fs × ((cs : List ℕ) → walk_f Any any? (list a).ps (list a).us u B cs ≡ ok C cs) × (n ≤ m)
          unfolding list_asked
          list_up a =
              let y = walked post a in
              let c = ok_agree y.0 in
              let k = list_asked a in
              let l : h < p + 1 = k.below.lower in
              let l' : h ≤ p + 1 = omega arith in (
                c.0,
                record {
                  packed = a.packed;
                  state = c.3;
                  marks = marks_kept y.2 a.marks;
                  holder = k.held.holder;
                  end = te;
                  marked = marked_kept y.2 l k.held.marked;
                  above = behind_kept y.2 l' (rw c.2 k.held.above);
                },
                c.1,
                omega (arith, c.2, after_ge_f (list a).ps n),
              )

          pub resume_up_pre : ResumePre L S M R A p u n → UpPre L S M R₁ A₁ h m
          resume_up_pre pre =
              let s = pre.some in
              let y = list_up s.10 in
              record { some = (s.0, s.1, s.2, s.3, y.0, s.8, y.1) }

          pub resume_up_is : {o₂ : Result ℕ Halt} {R₂ A₂ : List ℕ} → UpPost L S M R₁ A₁ h m o₂ R₂ A₂ → ResumePost L S M R A p u n o₂ R₂ A₂
          unfolding list_asked
          resume_up_is up =
              record {
                is = λ K N Z Q B x s w fs d a.
                    let l = list a in
                    let y = list_up a in
                    let v = up.is K N Z Q y.0 fs y.1 in
                    let b : p + 1 ≤ h + get_or Z h 0 = omega (arith, patterns_le (list_asked a).pattern, (list_asked a).held.ends) in (
                      v.0,
                      agree_before b (part_goes fs (walk_f Any any? l.ps l.us u B) (l.goes B) y.2 v.1),
                      kept_then y.3 (walked post a).1 v.2,
                      unchanged_then b (walked post a).2 v.3,
                    );
              }

  -- a context variable: what fills its hole
  module _ (two : get_or M (6 * p) 0 ≢ 2) where
    hole : {K N Z : List ℕ} {Q : List Kind} {B : List Entry} {x s : ℕ} {w : Stop} {fs : List Frame} {d : ℕ} → ResumeAsked L S M R A p u n K N Z Q B x s w fs d
        → AtHole L S A K N Z Q p u x s d w fs
    hole a = at_the_hole a.stands a.lands (λ e. two (kinded a ∙ e))

    hole_asked : {K N Z : List ℕ} {Q : List Kind} {B : List Entry} {x s : ℕ} {w : Stop} {fs : List Frame} {d : ℕ} (a : ResumeAsked L S M R A p u n K N Z Q B x s w fs d)
        → TermAsked L S M R A (p + 1) u n K N Z Q (hole a).q (hole a).T B fs
    hole_asked {K} {N} {Z} {Q} {fs = fs} a =
        let l = hole a in
        let v = term_seen a.packed l.pattern in
        record {
          packed = a.packed;
          pattern = l.pattern;
          good = subst (GoodT Q l.q) (sym a.last) l.good;
          tree = l.tree;
          state = a.state;
          marks = a.marks;
          holder = p;
          above = in_context {h = p} (record { past = past_first; inside = omega (arith, l.within, v.some) }) v.inside l.kind l.within l.marked
              (subst (λ (i : ℕ). Behind L S A K N Z Q l.h p l.end (after_t l.q i) fs) (sym a.last) l.above);
        }

    pub resume_term_pre : ResumePre L S M R A p u n → TermPre L S M R A (p + 1) u n
    resume_term_pre pre =
        let s = pre.some in
        let a = s.10 in
        record { K = s.0; N = s.1; Z = s.2; Q = s.3; q = (hole a).q; T = (hole a).T; B = s.4; fs = s.8; asked = hole_asked a }

    filled : {o : Result ℕ Halt} {R₁ A₁ : List ℕ} → TermPost L S M R A (p + 1) u n o R₁ A₁ → {K N Z : List ℕ} {Q : List Kind} {B : List Entry} {x s : ℕ} {w : Stop} {fs : List Frame} {d : ℕ} (a : ResumeAsked L S M R A p u n K N Z Q B x s w fs d)
        → Agree L S R₁ A₁ K N Z Q (p + 1) (after_t (hole a).q n) fs (walk_t Any any? (hole a).q (hole a).T u B) o × Kept Q n R R₁ × Unchanged (p + 1) A A₁
    filled post {K} {N} {Z} {Q} {B} {fs = fs} a = post.is K N Z Q (hole a).q (hole a).T B fs (hole_asked a)

    pub resume_term_halts : {i : Halt} {R₁ A₁ : List ℕ} → TermPost L S M R A (p + 1) u n (Err i) R₁ A₁ → ResumePost L S M R A p u n (Err i) R₁ A₁
    resume_term_halts post =
        record {
          is = λ K N Z Q B x s w fs d a.
              let y = filled post a in
              let l = hole a in
              (_, part_halts fs (walk_t Any any? l.q l.T u B) (l.goes B) y.0, y.1, y.2);
        }

    module _ {m : ℕ} {R₁ A₁ : List ℕ} (post : TermPost L S M R A (p + 1) u n (Ok m) R₁ A₁) where
      term_up : {K N Z : List ℕ} {Q : List Kind} {B : List Entry} {x s : ℕ} {w : Stop} {fs : List Frame} {d : ℕ} (a : ResumeAsked L S M R A p u n K N Z Q B x s w fs d)
          → (C : List Entry) × UpAsked L S M R₁ A₁ p m K N Z Q C fs × ((cs : List ℕ) → walk_t Any any? (hole a).q (hole a).T u B cs ≡ ok C cs) × (n ≤ m)
      term_up {K} {N} {Z} {Q} {fs = fs} a =
          let y = filled post a in
          let c = ok_agree y.0 in
          let k = hole a in
          let l : p < p + 1 = omega arith in
          let l' : p ≤ p + 1 = omega arith in (
            c.0,
            record {
              packed = a.packed;
              state = c.3;
              marks = marks_kept y.2 a.marks;
              holder = k.h;
              end = k.end;
              marked = marked_kept y.2 l k.marked;
              above = behind_kept y.2 l'
                  (subst (λ (i : ℕ). Behind L S A K N Z Q k.h p k.end i fs) (ap (after_t k.q) (sym a.last) ∙ sym c.2) k.above);
            },
            c.1,
            omega (arith, c.2, after_ge_t (hole a).q n),
          )

      pub resume_over_pre : ResumePre L S M R A p u n → UpPre L S M R₁ A₁ p m
      resume_over_pre pre =
          let s = pre.some in
          let y = term_up s.10 in
          record { some = (s.0, s.1, s.2, s.3, y.0, s.8, y.1) }

      pub resume_over_is : {o₂ : Result ℕ Halt} {R₂ A₂ : List ℕ} → UpPost L S M R₁ A₁ p m o₂ R₂ A₂ → ResumePost L S M R A p u n o₂ R₂ A₂
      resume_over_is up =
          record {
            is = λ K N Z Q B x s w fs d a.
                let l = hole a in
                let y = term_up a in
                let v = up.is K N Z Q y.0 fs y.1 in
                let b : p + 1 ≤ p + get_or Z p 0 = omega (arith, l.within) in (
                  v.0,
                  agree_before b (part_goes fs (walk_t Any any? l.q l.T u B) (l.goes B) y.2 v.1),
                  kept_then y.3 (filled post a).1 v.2,
                  unchanged_then b (filled post a).2 v.3,
                );
          }
