-- Laws of the term walk.
use Prim.Native.Nat.{ℕ, suc, ◌+◌, ◌*◌, ◌<◌, ◌≤◌}
use mathlib.Core.Path.{◌≡◌, refl, ap, ◌∙◌, sym, subst}
use mathlib.Core.Logic.{◌≢◌}
use mathlib.Core.List.{List}
use lib.ListN.{length, get_or}
use native.Mathlib.Omega.{arith}
use native.Mathlib.Decide.{ℕ_discrete}
use Rattle.meaning.specs.Forest.{Term, rows, ◌◂◌, Context, hole, node, plug}
use Rattle.meaning.specs.Read.{cut}
use Rattle.meaning.specs.Pattern.{Pattern, individual, context, Patterns, Kind, an_individual, a_function, a_context, Comes, after, after_t, after_f, GoodT, GoodF}
use Rattle.meaning.specs.Matcher.{of_function}
use Rattle.meaning.specs.Record.{Entry}
use Rattle.meaning.proofs.Laws.{rows_of, cut_plugs}
use Rattle.meaning.proofs.Lists.{look_old}
use Rattle.meaning.proofs.Walk.{Res, ok, when, and_then, meet, walk_t, walk_f}
use Rattle.meaning.proofs.Resume.{Frame, at_context}
use Rattle.tree.specs.Places.{TermsAt, Next}
use Rattle.tree.proofs.Terms.{term_next, term_size}
use Rattle.pattern.specs.Places.{PatternAt, PatternsAt}
use Rattle.meaning.proofs.Next.{Any, any?}
use Rattle.variable.specs.State.{Kept}
use Rattle.variable.specs.Steps.{Meets, VariablePre, IndividualPre, IndividualPost, HeadPre, HeadPost, ContextPre, ContextPost}
use Rattle.walk.specs.Above.{Marked, Came, Unchanged, Behind, in_context, over_term}
use Rattle.walk.specs.Cycle.{stop_at, Agree, both_fail, both_need, TermAsked, TermPre, TermPost, ListAsked, ListPre, ListPost}
use Rattle.std.specs.Prelude.{Option, Some, None, Result, Err}
use Rattle.walk.specs.declared.Halt.{Halt}
use Rattle.walk.specs.declared.Halt.TheVariants as halt
use Rattle.std.specs.Option.{ok_or}
use Rattle.variable.specs.declared.Step.{Step}
use Rattle.variable.specs.declared.Step.TheVariants as step
use Rattle.variable.proofs.States.{kept_same, kept_then, is_new}
use Rattle.walk.proofs.Marks.{marks_kept, unchanged_then, come_unchanged, come_marked, behind_kept, past_first}
use Rattle.walk.proofs.Stops.{context_asks, context_goes}
use Rattle.walk.proofs.Views.{Seen, term_seen, TermView, v_symbol, v_individual, v_function, v_context, term_view, agree_same, agree_before, meets_agree, fail_meets, ok_meets, fail_chose, need_chose, go_chose}

module _ {L S M R A : List ℕ} {p t n : ℕ} where
  pub term_row : (w : TermPre L S M R A p t n) → Seen w.K w.Z M p
  term_row w = term_seen w.asked.packed w.asked.pattern

  pub term_marks : TermPre L S M R A p t n → p < 256
  term_marks w = omega (arith, (term_row w).inside, w.asked.marks.few)

  pub term_tree : TermPre L S M R A p t n → Next L S t
  term_tree w = term_next w.asked.tree

-- what fills a hole has no more rows than the whole
fills : (c : Context) (T : Term) → rows T.args ≤ rows (plug c T).args
unfolding plug rows
fills hole T = omega arith
fills (node l left c right) T = omega (arith, fills c T, rows_of left (plug c T ◂ right))

in_hole : (T : Term) (d : ℕ) → rows (cut T d).at.args ≤ rows T.args
in_hole T d = rw (cut_plugs T d) at (fills (cut T d).around (cut T d).at)

-- the pattern at an individual variable's row
as_individual : {K N Z : List ℕ} {Q : List Kind} {p k x n : ℕ} {q : Pattern} → k ≡ 1 → TermView K N Z Q p k x n q → (q ≡ individual x) × Comes Q x an_individual n
as_individual one (v_symbol e i g) = absurd (omega arith)
as_individual one (v_individual e c) = (refl, c)
as_individual one (v_function e c i g) = absurd (omega arith)
as_individual one (v_context e c z i g) = absurd (omega arith)

-- and at a context variable's: over the pattern below
record Over (K N Z : List ℕ) (Q : List Kind) (p x n : ℕ) (q : Pattern) : Type 0 where
  inner : Pattern
  is : q ≡ context x inner
  comes : Comes Q x a_context n
  size : get_or Z p 0 ≡ suc (get_or Z (p + 1) 0)
  here : PatternAt K N Z Q (p + 1) inner
  good : GoodT Q inner (after x n)

as_context_lem : {K N Z : List ℕ} {Q : List Kind} {p k x n : ℕ} {q : Pattern} → k ≡ 4 → TermView K N Z Q p k x n q → Over K N Z Q p x n q
as_context_lem four (v_symbol e i g) = absurd (omega arith)
as_context_lem four (v_individual e c) = absurd (omega arith)
as_context_lem four (v_function e c i g) = absurd (omega arith)
as_context_lem four (v_context {q = q} e c z i g) = record { inner = q; is = refl; comes = c; size = z; here = i; good = g }

-- the walk of a term with a head and arguments: r is what the head gives, where m variables are bound then
record Headed (L S R R₁ : List ℕ) (p t n : ℕ) (o : Option ℕ) (K N Z : List ℕ) (Q : List Kind) (q : Pattern) (T : Term) (B : List Entry) : Type 0 where
  m : ℕ
  ps : Patterns
  r : List ℕ → Res
  later : n ≤ m
  kind : get_or K p 0 ≢ 4
  here : PatternsAt K N Z Q (p + 1) (p + get_or Z p 0) ps
  good : GoodF Q ps m
  heads : Meets L S R₁ Q m r o
  kept : Kept Q n R R₁
  is : (cs : List ℕ) → walk_t Any any? q T t B cs ≡ and_then (r cs) (walk_f Any any? ps T.args (t + 1))
  count : after_t q n ≡ after_f ps m

when_then : {A : Type 0} (d : Dec A) (B : List Entry) (cs : List ℕ) (f : List Entry → List ℕ → Res) → when d (f B cs) ≡ and_then (when d (ok B cs)) f
when_then (yes a) B cs f = refl
when_then (no b) B cs f = refl

-- the walk of the term at the pattern row p, which has the kind k and the name x; the walk has come to it
pub record AtRow (L S M R A A₁ : List ℕ) (p t n k x : ℕ) : Type 0 where
  pub pre : TermPre L S M R A p t n
  pub came : Came A p t A₁
  pub kind : k ≡ get_or M (6 * p) 0
  pub name : x ≡ get_or M (6 * p + 1) 0

pub at_row : {L S M R A A₁ : List ℕ} {p t n k x : ℕ} → TermPre L S M R A p t n → Came A p t A₁ → k ≡ get_or M (6 * p) 0 → x ≡ get_or M (6 * p + 1) 0 → AtRow L S M R A A₁ p t n k x
at_row pre came ek ex = record { pre = pre; came = came; kind = ek; name = ex }

module _ {L S M R A A₁ : List ℕ} {p t n k x : ℕ} (row : AtRow L S M R A A₁ p t n k x) where
  view : {K N Z : List ℕ} {Q : List Kind} {q : Pattern} {T : Term} {B : List Entry} {fs : List Frame} → TermAsked L S M R A p t n K N Z Q q T B fs → TermView K N Z Q p k x n q
  view a = term_view a.packed a.pattern a.good row.kind row.name

  pub here : Unchanged p A A₁
  here = come_unchanged row.came

  -- what is left behind it
  marked : {K N Z : List ℕ} {Q : List Kind} {q : Pattern} {T : Term} {B : List Entry} {fs : List Frame} → TermAsked L S M R A p t n K N Z Q q T B fs → Marked S A₁ p (t + get_or S t 0)
  marked a = come_marked row.came (omega (arith, (term_seen a.packed a.pattern).inside, a.marks.few, a.marks.long)) (term_next a.tree).sized

  above : {K N Z : List ℕ} {Q : List Kind} {q : Pattern} {T : Term} {B : List Entry} {fs : List Frame} (a : TermAsked L S M R A p t n K N Z Q q T B fs)
      → Behind L S A₁ K N Z Q a.holder p (t + get_or S t 0) (after_t q n) fs
  above a = let l : p ≤ p = omega arith in behind_kept here l a.above

  kinded : {K N Z : List ℕ} {Q : List Kind} {q : Pattern} {T : Term} {B : List Entry} {fs : List Frame} → TermAsked L S M R A p t n K N Z Q q T B fs → get_or K p 0 ≡ k
  kinded a = sym (row.kind ∙ a.packed.kinds p (term_seen a.packed a.pattern).inside)

  named : {K N Z : List ℕ} {Q : List Kind} {q : Pattern} {T : Term} {B : List Entry} {fs : List Frame} → TermAsked L S M R A p t n K N Z Q q T B fs → get_or N p 0 ≡ x
  named a = sym (row.name ∙ a.packed.names p (term_seen a.packed a.pattern).inside)

  -- at an individual variable
  module _ (one : k ≡ 1) where
    pub term_individual_pre : IndividualPre L S R x t n
    term_individual_pre =
        let w = row.pre in
        let a = w.asked in
        record { variable = record { some = (w.Q, w.B, a.state, (as_individual one (view a)).1) }; tree = (w.T.label, w.T.args, a.tree) }

    module _ {o : Option ℕ} {R₁ : List ℕ} (post : IndividualPost L S R x t n o R₁) where
      met : {K N Z : List ℕ} {Q : List Kind} {q : Pattern} {T : Term} {B : List Entry} {fs : List Frame} → TermAsked L S M R A p t n K N Z Q q T B fs
          → Meets L S R₁ Q (after_t q n) (walk_t Any any? q T t B) o × Kept Q n R R₁
      unfolding walk_t after_t
      met {Q = Q} {T = T} {B = B} a =
          let w = as_individual one (view a) in
          let y = post.is Q T.label T.args B a.tree w.1 a.state in
          (subst (λ (q : Pattern). Meets L S R₁ Q (after_t q n) (walk_t Any any? q T t B) o) (sym w.0) y.0, y.1)

      pub term_individual_is : TermPost L S M R A p t n (ok_or o halt.Fail) R₁ A₁
      term_individual_is =
          record {
            is = λ K N Z Q q T B fs a.
                let y = met a in
                (meets_agree y.0, y.1, here);
          }

  -- at a context variable
  module _ (four : k ≡ 4) where
    pub term_context_pre : ContextPre L S R x t n
    term_context_pre =
        let w = row.pre in
        let a = w.asked in
        record { variable = record { some = (w.Q, w.B, a.state, (as_context_lem four (view a)).comes) }; tree = (w.T.label, w.T.args, a.tree) }

    -- the row below is within the pattern, and its size is less
    pub term_under : (p + 1 < length M) × (get_or M (6 * (p + 1) + 2) 0 < get_or M (6 * p + 2) 0)
    term_under =
        let a = row.pre.asked in
        let w = as_context_lem four (view a) in
        let s = term_seen a.packed w.here in
        (omega (arith, s.room), omega (arith, s.size, (term_row row.pre).size, w.size))

    module _ {o : Step} (post : ContextPost L S R x t n o) where
      pub term_context_fails : o ≡ step.Fail → TermPost L S M R A p t n (Err halt.Fail) R A₁
      unfolding walk_t
      term_context_fails g =
          record {
            is = λ K N Z Q q T B fs a.
                let w = as_context_lem four (view a) in
                let y = fail_chose (rw g at (post.is Q T B a.tree w.comes a.state)) in
                (both_fail (λ cs. rw w.is (y cs (λ d B' cs'. walk_t Any any? w.inner (cut T d).at (t + d) B' cs'))), kept_same, here);
          }

      pub term_context_needs : o ≡ step.Need → TermPost L S M R A p t n (Err (halt.Need (stop_at p x t))) R A₁
      unfolding after_t
      term_context_needs g =
          record {
            is = λ K N Z Q q T B fs a.
                let w = as_context_lem four (view a) in
                let y = need_chose (rw g at (post.is Q T B a.tree w.comes a.state)) in
                let i = is_new a.state y in
                let z : after x n ≡ x + 1 = omega (arith, y) in
                let l : p ≤ p = omega arith in
                let b : Behind L S A₁ K N Z Q a.holder p (t + get_or S t 0) (after_t w.inner (x + 1)) fs =
                subst (λ (m : ℕ). Behind L S A₁ K N Z Q a.holder p (t + get_or S t 0) (after_t w.inner m) fs) z
                (subst (λ (r : Pattern). Behind L S A₁ K N Z Q a.holder p (t + get_or S t 0) (after_t r n) fs) w.is (above a))
                in (
                  both_need l
                      (record {
                        bound = B;
                        stop = at_context w.inner T;
                        frames = fs;
                        within = look_old Q x a_context w.comes.kept;
                        state = rw y a.state;
                        stands = over_term w.comes.kept (named a) (kinded a ∙ four) w.size w.here (subst (GoodT Q w.inner) z w.good) a.tree (marked a) b;
                        low = refl;
                        high = refl;
                        asks = context_asks T t B w.is i;
                        goes = λ v cs. context_goes T t B w.is i fs v cs;
                      }),
                  kept_same,
                  here,
                );
          }

      module _ {u : ℕ} (g : o ≡ step.Go u) where
        -- what is asked of the walk below
        below : {K N Z : List ℕ} {Q : List Kind} {q : Pattern} {T : Term} {B : List Entry} {fs : List Frame} (a : TermAsked L S M R A p t n K N Z Q q T B fs) (w : Over K N Z Q p x n q)
            → (d : ℕ) × TermAsked L S M R A₁ (p + 1) u n K N Z Q w.inner (cut T d).at B fs × (after x n ≡ n) × (t + d ≡ u) × (get_or S u 0 ≤ get_or S t 0)
            × ((cs : List ℕ) → walk_t Any any? (context x w.inner) T t B cs ≡ walk_t Any any? w.inner (cut T d).at (t + d) B cs)
        unfolding walk_t after_t
        below {K} {N} {Z} {Q} {q} {T} {B} {fs} a w =
            let c = go_chose (rw g at (post.is Q T B a.tree w.comes a.state)) in
            let d = c.0 in
            let z : after x n ≡ n = omega (arith, c.2) in
            let s = term_seen a.packed w.here in
            let b : Behind L S A₁ K N Z Q a.holder p (t + get_or S t 0) (after_t w.inner n) fs =
            subst (λ (m : ℕ). Behind L S A₁ K N Z Q a.holder p (t + get_or S t 0) (after_t w.inner m) fs) z
            (subst (λ (r : Pattern). Behind L S A₁ K N Z Q a.holder p (t + get_or S t 0) (after_t r n) fs) w.is (above a))
            in
            let r : p + 1 + get_or Z (p + 1) 0 ≤ p + get_or Z p 0 = omega (arith, w.size) in (
              d,
              record {
                packed = a.packed;
                pattern = w.here;
                good = subst (GoodT Q w.inner) z w.good;
                tree = c.3.1;
                state = a.state;
                marks = marks_kept here a.marks;
                holder = p;
                above = in_context {h = p} (record { past = past_first; inside = omega (arith, w.size, s.some) }) s.inside (kinded a ∙ four) r (marked a) b;
              },
              z,
              c.3.0,
              omega (arith, c.3.1.row.size, a.tree.row.size, in_hole T d),
              λ cs. c.1 cs (λ d B' cs'. walk_t Any any? w.inner (cut T d).at (t + d) B' cs'),
            )

        pub term_under_pre : TermPre L S M R A₁ (p + 1) u n
        term_under_pre =
            let c = row.pre in
            let b = below c.asked (as_context_lem four (view c.asked)) in
            record { K = c.K; N = c.N; Z = c.Z; Q = c.Q; q = (as_context_lem four (view c.asked)).inner; T = (cut c.T b.0).at; B = c.B; fs = c.fs; asked = b.1 }

        -- and of the tree no more rows are left
        pub term_under_tree : get_or S u 0 ≤ get_or S t 0
        term_under_tree = let c = row.pre in (below c.asked (as_context_lem four (view c.asked))).4

        pub term_under_is : {o₁ : Result ℕ Halt} {R₂ A₂ : List ℕ} → TermPost L S M R A₁ (p + 1) u n o₁ R₂ A₂ → TermPost L S M R A p t n o₁ R₂ A₂
        unfolding after_t
        term_under_is {o₁} {R₂} {A₂} post₂ =
            record {
              is = λ K N Z Q q T B fs a.
                  let w = as_context_lem four (view a) in
                  let b = below a w in
                  let y = post₂.is K N Z Q w.inner (cut T b.0).at B fs b.1 in
                  let e : (cs : List ℕ) → walk_t Any any? q T t B cs ≡ walk_t Any any? w.inner (cut T b.0).at u B cs =
                  λ cs. ap (λ (r : Pattern). walk_t Any any? r T t B cs) w.is ∙ b.5 cs ∙ ap (λ (i : ℕ). walk_t Any any? w.inner (cut T b.0).at i B cs) b.3
                  in
                  let z : after_t q n ≡ after_t w.inner n = ap (λ (r : Pattern). after_t r n) w.is ∙ ap (after_t w.inner) b.2 in
                  let l : p ≤ p + 1 = omega arith in
                  let v : Agree L S R₂ A₂ K N Z Q (p + 1) (after_t q n) fs (walk_t Any any? w.inner (cut T b.0).at u B) o₁ =
                  subst (λ (m : ℕ). Agree L S R₂ A₂ K N Z Q (p + 1) m fs (walk_t Any any? w.inner (cut T b.0).at u B) o₁) (sym z) y.0
                  in
                  (agree_before l (agree_same e v), y.1, unchanged_then l here y.2);
            }

  -- at a symbol or a function variable: the head, then the arguments
  module _ (one : k ≢ 1) (four : k ≢ 4) where
    pub term_head_pre : HeadPre L R k x t n
    term_head_pre = record { row = (term_tree row.pre).labelled; variable = λ f. go f row.pre.q (view row.pre.asked) }
      where
        go : let w = row.pre in
            k ≢ 0 → (q : Pattern) → TermView w.K w.N w.Z w.Q p k x n q → (S : List ℕ) × VariablePre L S R n a_function x
        go f q (v_symbol e i g) = absurd (f e)
        go f q (v_individual e c) = absurd (one e)
        go f q (v_function e c i g) =
            let w = row.pre in
            (S, record { some = (w.Q, w.B, w.asked.state, c) })
        go f q (v_context e c z i g) = absurd (four e)

    module _ {o : Option ℕ} {R₁ : List ℕ} (post : HeadPost L R k x t n o R₁) where
      headed : {K N Z : List ℕ} {Q : List Kind} {q : Pattern} {T : Term} {B : List Entry} {fs : List Frame} → TermAsked L S M R A p t n K N Z Q q T B fs → TermView K N Z Q p k x n q
          → Headed L S R R₁ p t n o K N Z Q q T B
      unfolding walk_t after_t
      headed {Q = Q} {T = T} {B = B} a (v_symbol {ps = ps} e i g) =
          let y = rw a.tree.row.label at (post.symbol e S Q B a.state) in
          record {
            m = n;
            ps = ps;
            r = λ cs. when (ℕ_discrete x T.label) (ok B cs);
            later = omega arith;
            kind = rw (kinded a) four;
            here = i;
            good = g;
            heads = y.0;
            kept = y.1;
            is = λ cs. when_then (ℕ_discrete x T.label) B cs (walk_f Any any? ps T.args (t + 1));
            count = refl;
          }
      headed a (v_individual e c) = absurd (one e)
      headed {Q = Q} {T = T} {B = B} a (v_function {ps = ps} e c i g) =
          let y = rw a.tree.row.label at (post.function (omega arith) S Q B c a.state) in
          record {
            m = after x n;
            ps = ps;
            r = meet Any any? x (of_function T.label) t B;
            later = omega arith;
            kind = rw (kinded a) four;
            here = i;
            good = g;
            heads = y.0;
            kept = y.1;
            is = λ cs. refl;
            count = refl;
          }
      headed a (v_context e c z i g) = absurd (four e)

      pub term_head_fails : o ≡ None → TermPost L S M R A p t n (Err halt.Fail) R₁ A₁
      term_head_fails g =
          record {
            is = λ K N Z Q q T B fs a.
                let w = headed a (view a) in
                let e = fail_meets (subst (λ (o : Option ℕ). Meets L S R₁ Q w.m w.r o) g w.heads) in
                (both_fail (λ cs. w.is cs ∙ rw (e cs)), w.kept, here);
          }

      module _ {m pe te : ℕ} (g : o ≡ Some m) (ep : pe ≡ p + get_or M (6 * p + 2) 0) (et : te ≡ t + get_or S t 0) where
        -- what is asked of the walk of the arguments
        inside : {K N Z : List ℕ} {Q : List Kind} {q : Pattern} {T : Term} {B : List Entry} {fs : List Frame} → TermAsked L S M R A p t n K N Z Q q T B fs → (w : Headed L S R R₁ p t n o K N Z Q q T B)
            → (B' : List Entry) × ListAsked L S M R₁ A₁ (p + 1) pe (t + 1) te m K N Z Q w.ps T.args B' fs × (m ≡ w.m) × ((cs : List ℕ) → w.r cs ≡ ok B' cs)
        inside {K} {N} {Z} {Q} {q} {T} {fs = fs} a w =
            let e = ok_meets (subst (λ (o : Option ℕ). Meets L S R₁ Q w.m w.r o) g w.heads) in
            let s = term_seen a.packed a.pattern in
            let z : p + get_or Z p 0 ≡ pe = omega (arith, s.size) in
            let c : after_t q n ≡ after_f w.ps m = w.count ∙ ap (after_f w.ps) (sym e.2) in (
              e.0,
              record {
                packed = a.packed;
                pattern = subst (λ (i : ℕ). PatternsAt K N Z Q (p + 1) i w.ps) z w.here;
                good = subst (GoodF Q w.ps) (sym e.2) w.good;
                tree = subst (λ (i : ℕ). TermsAt L S (t + 1) i T.args) (term_size a.tree ∙ sym et) a.tree.inner;
                state = e.3;
                marks = marks_kept here a.marks;
                holder = p;
                below = past_first;
                held =
                    record {
                      holder = a.holder;
                      kind = w.kind;
                      inside = s.inside;
                      ends = z;
                      marked = rw et (marked a);
                      above = rw et (subst (λ (i : ℕ). Behind L S A₁ K N Z Q a.holder p (t + get_or S t 0) i fs) c (above a));
                    };
              },
              e.2,
              e.1,
            )

        pub term_inside_pre : ListPre L S M R₁ A₁ (p + 1) pe (t + 1) te m
        term_inside_pre =
            let c = row.pre in
            let w = headed c.asked (view c.asked) in
            let b = inside c.asked w in
            record { K = c.K; N = c.N; Z = c.Z; Q = c.Q; ps = w.ps; us = c.T.args; B = b.0; fs = c.fs; asked = b.1 }

        pub term_inside_is : {o₁ : Result ℕ Halt} {R₂ A₂ : List ℕ} → ListPost L S M R₁ A₁ (p + 1) pe (t + 1) te m o₁ R₂ A₂ → TermPost L S M R A p t n o₁ R₂ A₂
        term_inside_is {o₁} {R₂} {A₂} post₂ =
            record {
              is = λ K N Z Q q T B fs a.
                  let w = headed a (view a) in
                  let b = inside a w in
                  let y = post₂.is K N Z Q w.ps T.args b.0 fs b.1 in
                  let c : after_t q n ≡ after_f w.ps m = w.count ∙ ap (after_f w.ps) (sym b.2) in
                  let z : Agree L S R₂ A₂ K N Z Q (p + 1) (after_t q n) fs (walk_f Any any? w.ps T.args (t + 1) b.0) o₁ =
                  subst (λ (i : ℕ). Agree L S R₂ A₂ K N Z Q (p + 1) i fs (walk_f Any any? w.ps T.args (t + 1) b.0) o₁) (sym c) y.0
                  in
                  let l : p ≤ p + 1 = omega arith in (
                    agree_before l (agree_same (λ cs. w.is cs ∙ rw (b.3 cs)) z),
                    kept_then (omega (arith, b.2, w.later)) w.kept y.1,
                    unchanged_then l here y.2,
                  );
            }
