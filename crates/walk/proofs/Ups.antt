-- The walk of what is left behind a row, and the walk from the root.
use Prim.Native.Nat.{ℕ, ◌+◌, ◌*◌, ◌<◌, ◌≤◌}
use mathlib.Core.Path.{◌≡◌, refl, ap, ◌∙◌, sym, subst}
use mathlib.Core.Logic.{◌≢◌}
use mathlib.Core.List.{List, [], ◌∷◌}
use lib.ListN.{length, get_or}
use native.Mathlib.Omega.{arith}
use Rattle.meaning.specs.Forest.{Forest, Term}
use Rattle.meaning.specs.Pattern.{Pattern, Patterns, Kind, GoodF, after_f}
use Rattle.meaning.specs.Record.{Entry}
use Rattle.meaning.proofs.Lists.{look_old}
use Rattle.meaning.proofs.Complete.{after_ge_f}
use Rattle.meaning.proofs.Walk.{Res, ok, and_then, walk_f}
use Rattle.meaning.proofs.Resume.{Frame, frame, run, then_done}
use Rattle.meaning.proofs.Next.{Any, any?}
use Rattle.tree.specs.Places.{TermsAt}
use Rattle.tree.proofs.Unique.{good_term}
use Rattle.pattern.specs.Places.{PatternsAt, at_nil, at_cons, at_sequence}
use Rattle.pattern.proofs.Placed.{good_placed}
use Rattle.variable.specs.State.{Kept}
use Rattle.variable.proofs.States.{kept_same, kept_then}
use Rattle.walk.specs.Packed.{Past, Holds}
use Rattle.walk.specs.Above.{Marked, Unchanged, Behind, at_root, in_list, in_context}
use Rattle.walk.specs.Cycle.{Needs, Agree, both_fail, both_need, both_ok, TermAsked, TermPre, TermPost, ListAsked, ListPre, ListPost}
use Rattle.walk.specs.Onward.{UpAsked, UpPre, UpPost, Problem, BeginPre, BeginPost}
use Rattle.std.specs.Prelude.{Result, Ok, Err}
use Rattle.walk.specs.declared.Halt.{Halt}
use Rattle.walk.proofs.Marks.{unchanged_same, unchanged_then, marks_kept, marked_kept, behind_kept}
use Rattle.walk.proofs.Views.{ok_agree, agree_same, agree_before}

pub patterns_le : {K N Z : List ℕ} {Q : List Kind} {p e : ℕ} {ps : Patterns} → PatternsAt K N Z Q p e ps → p ≤ e
patterns_le (at_nil h e) = omega arith
patterns_le (at_cons a b i) = omega arith
patterns_le (at_sequence r v z b i) = omega arith

-- the frames behind a list, walked after it
run_goes : (ps : Patterns) (us : Forest) (t : ℕ) (fs : List Frame) (B C : List Entry) (cs : List ℕ) → walk_f Any any? ps us t B cs ≡ ok C cs → run Any any? (frame ps us t ∷ fs) B cs ≡ run Any any? fs C cs
unfolding run
run_goes ps us t fs B C cs e = rw e

run_none : (B : List Entry) (cs : List ℕ) → run Any any? [] B cs ≡ ok B cs
unfolding run
run_none B cs = refl

-- a walk that asks, with all the frames behind it walked
pub needs_run : {L S R A K N Z : List ℕ} {Q : List Kind} {p x s lo hi : ℕ} {f : List ℕ → Res} (fs : List Frame) → Needs L S R A K N Z Q fs f p x s lo hi
    → Needs L S R A K N Z Q [] (λ cs. and_then (f cs) (run Any any? fs)) p x s lo hi
needs_run {f = f} fs w =
    record {
      bound = w.bound;
      stop = w.stop;
      frames = w.frames;
      within = w.within;
      state = w.state;
      stands = w.stands;
      low = w.low;
      high = w.high;
      asks = rw w.asks;
      goes = λ v cs. then_done Any any? (and_then (f (v ∷ cs)) (run Any any? fs)) ∙ w.goes v cs;
    }

-- what stops a walk stops it with the frames behind it
pub halts_run : {L S R A K N Z : List ℕ} {Q : List Kind} {p₀ m c : ℕ} {f : List ℕ → Res} {h : Halt} (fs : List Frame) → Agree L S R A K N Z Q p₀ m fs f (Err h)
    → Agree L S R A K N Z Q p₀ c [] (λ cs. and_then (f cs) (run Any any? fs)) (Err h)
halts_run fs (both_fail e) = both_fail λ cs. rw (e cs)
halts_run fs (both_need l w) = both_need l (needs_run fs w)

run_first : (ps : Patterns) (us : Forest) (t : ℕ) (fs : List Frame) (B : List Entry) (cs : List ℕ) → run Any any? (frame ps us t ∷ fs) B cs ≡ and_then (walk_f Any any? ps us t B cs) (run Any any? fs)
unfolding run
run_first ps us t fs B cs = refl

-- the rest of the list of h, behind the row p
record Rest (L S A K N Z : List ℕ) (Q : List Kind) (h p u n : ℕ) (fs : List Frame) : Type 0 where
  holder : ℕ
  end : ℕ
  ps : Patterns
  us : Forest
  behind : List Frame
  is : fs ≡ frame ps us u ∷ behind
  pattern : PatternsAt K N Z Q (p + get_or Z p 0) (h + get_or Z h 0) ps
  good : GoodF Q ps n
  tree : TermsAt L S u end us
  marked : Marked S A h end
  past : Past Z h (p + get_or Z p 0)
  above : Behind L S A K N Z Q holder h end (after_f ps n) behind

-- what stands behind a row that is not the root
module _ {L S A K N Z : List ℕ} {Q : List Kind} where
  within : {h p u n : ℕ} {fs : List Frame} → Behind L S A K N Z Q h p u n fs → p ≢ 0 → Holds Z h p × (p < length K) × (p + get_or Z p 0 ≤ h + get_or Z h 0)
  within (at_root e) f = absurd (f e)
  within (in_list a o b c d g t m r) f = (a, b, patterns_le d)
  within (in_context a b c d m r) f = (a, b, d)

  rest_of : {h p u n : ℕ} {fs : List Frame} → Behind L S A K N Z Q h p u n fs → p ≢ 0 → get_or K h 0 ≢ 4 → Rest L S A K N Z Q h p u n fs
  rest_of (at_root e) f k = absurd (f e)
  rest_of (in_list {g = g} {e = e} {ps = ps} {us = us} {fs = fs} a o b c d i t m r) f k =
      record { holder = g; end = e; ps = ps; us = us; behind = fs; is = refl; pattern = d; good = i; tree = t; marked = m; past = o; above = r }
  rest_of (in_context a b c d m r) f k = absurd (k c)

  -- a context's one argument
  over_of : {h p u n : ℕ} {fs : List Frame} → Behind L S A K N Z Q h p u n fs → p ≢ 0 → get_or K h 0 ≡ 4 → (g : ℕ) × (e : ℕ) × Marked S A h e × Behind L S A K N Z Q g h e n fs
  over_of (at_root e) f k = absurd (f e)
  over_of (in_list a o b c d i t m r) f k = absurd (c k)
  over_of (in_context {g = g} {e = e} a b c d m r) f k = (g, e, m, r)

  none_behind : {h p u n : ℕ} {fs : List Frame} → Behind L S A K N Z Q h p u n fs → p ≡ 0 → fs ≡ []
  none_behind (at_root e) f = refl
  none_behind (in_list a o b c d i t m r) f = absurd (omega (arith, a.past.lower))
  none_behind (in_context a b c d m r) f = absurd (omega (arith, a.past.lower))

-- the walk is behind the row p₀ at first, and then behind q
pub record Risen (L S M R₀ R A₀ A : List ℕ) (p₀ n₀ q m : ℕ) (K N Z : List ℕ) (Q : List Kind) (B₀ : List Entry) (fs₀ : List Frame) : Type 0 where
  pub B : List Entry
  pub fs : List Frame
  pub asked : UpAsked L S M R A q m K N Z Q B fs
  pub same : (cs : List ℕ) → run Any any? fs₀ B₀ cs ≡ run Any any? fs B cs
  pub kept : Kept Q n₀ R₀ R
  pub later : n₀ ≤ m
  pub over : p₀ + get_or Z p₀ 0 ≤ q + get_or Z q 0
  pub unchanged : Unchanged (p₀ + get_or Z p₀ 0) A₀ A

pub record Rising (L S M R₀ R A₀ A : List ℕ) (p₀ n₀ q m : ℕ) : Type 0 where
  pub is : (K N Z : List ℕ) (Q : List Kind) (B : List Entry) (fs : List Frame) → UpAsked L S M R₀ A₀ p₀ n₀ K N Z Q B fs → Risen L S M R₀ R A₀ A p₀ n₀ q m K N Z Q B fs

pub rising_first : {L S M R A : List ℕ} {p n : ℕ} → Rising L S M R R A A p n p n
rising_first =
    record {
      is = λ K N Z Q B fs a.
          record { B = B; fs = fs; asked = a; same = λ cs. refl; kept = kept_same; later = omega arith; over = omega arith; unchanged = unchanged_same };
    }

module _ {L S M R₀ R A₀ A : List ℕ} {p₀ n₀ q m : ℕ} (rising : Rising L S M R₀ R A₀ A p₀ n₀ q m) where
  -- at the root nothing is left
  pub up_ends : q ≡ 0 → UpPost L S M R₀ A₀ p₀ n₀ (Ok m) R A
  up_ends e =
      record {
        is = λ K N Z Q B fs a.
            let w = rising.is K N Z Q B fs a in
            let z = none_behind w.asked.above e in
            (m, both_ok refl w.asked.state (λ cs. w.same cs ∙ ap (λ (g : List Frame). run Any any? g w.B cs) z ∙ run_none w.B cs), w.kept, w.unchanged);
      }

-- a turn, below the root
pub record Below (L S M R₀ R A₀ A : List ℕ) (p₀ n₀ q m : ℕ) : Type 0 where
  pub pre : UpPre L S M R₀ A₀ p₀ n₀
  pub rising : Rising L S M R₀ R A₀ A p₀ n₀ q m
  pub more : q ≢ 0

pub a_below : {L S M R₀ R A₀ A : List ℕ} {p₀ n₀ q m : ℕ} → UpPre L S M R₀ A₀ p₀ n₀ → Rising L S M R₀ R A₀ A p₀ n₀ q m → q ≢ 0 → Below L S M R₀ R A₀ A p₀ n₀ q m
a_below pre rising more = record { pre = pre; rising = rising; more = more }

-- the row that holds it, in the packed pattern and in the rows that were come to
pub record Holding (S M A : List ℕ) (q h : ℕ) : Type 0 where
  pub lower : h < q
  pub few : q < 256
  pub room : 6 * q + 5 < length M
  pub row : get_or A q 0 < length S

module _ {L S M R₀ R A₀ A : List ℕ} {p₀ n₀ q m : ℕ} (below : Below L S M R₀ R A₀ A p₀ n₀ q m) where
  now : let s = below.pre.some in
      Risen L S M R₀ R A₀ A p₀ n₀ q m s.0 s.1 s.2 s.3 s.4 s.5
  now = let s = below.pre.some in below.rising.is s.0 s.1 s.2 s.3 s.4 s.5 s.6

  pub up_holding : Holding S M A q (get_or M (6 * q + 3) 0)
  up_holding =
      let a = now.asked in
      let w = within a.above below.more in
      record {
        lower = omega (arith, a.packed.holders a.holder q w.1 w.0, w.0.past.lower);
        few = omega (arith, w.1, a.marks.few);
        room = omega (arith, w.1, a.packed.room);
        row = a.marked.row;
      }

  module _ {h : ℕ} (eh : h ≡ get_or M (6 * q + 3) 0) where
    -- for those that the caller has, the row h holds it
    held : {K N Z : List ℕ} {Q : List Kind} {B : List Entry} {fs : List Frame} (a : UpAsked L S M R A q m K N Z Q B fs)
        → Behind L S A K N Z Q h q a.end m fs × (h < q) × (q < length K) × (q + get_or Z q 0 ≤ h + get_or Z h 0) × (get_or M (6 * h) 0 ≡ get_or K h 0)
    held {K} {N} {Z} {Q} {fs = fs} a =
        let v = within a.above below.more in
        let e : a.holder ≡ h = sym (a.packed.holders a.holder q v.1 v.0) ∙ sym eh in
        let b : Behind L S A K N Z Q h q a.end m fs = subst (λ (i : ℕ). Behind L S A K N Z Q i q a.end m fs) e a.above in
        let w = within b below.more in
        (b, w.0.past.lower, w.1, w.2, a.packed.kinds h (omega (arith, w.0.past.lower, w.1)))

    -- a context: nothing is left of its list
    pub up_context : get_or M (6 * h) 0 ≡ 4 → Rising L S M R₀ R A₀ A p₀ n₀ h m
    up_context four =
        record {
          is = λ K N Z Q B fs a.
              let w = below.rising.is K N Z Q B fs a in
              let b = held w.asked in
              let c = over_of b.0 below.more (sym b.4 ∙ four) in
              record {
                B = w.B;
                fs = w.fs;
                asked = record { packed = w.asked.packed; state = w.asked.state; marks = w.asked.marks; holder = c.0; end = c.1; marked = c.2; above = c.3 };
                same = w.same;
                kept = w.kept;
                later = w.later;
                over = omega (arith, w.over, b.3);
                unchanged = w.unchanged;
              };
        }

    module _ (list : get_or M (6 * h) 0 ≢ 4) where
      rest : {K N Z : List ℕ} {Q : List Kind} {B : List Entry} {fs : List Frame} (a : UpAsked L S M R A q m K N Z Q B fs) → Rest L S A K N Z Q h q a.end m fs
      rest a = let b = held a in rest_of b.0 below.more (λ e. list (b.4 ∙ e))

      pub up_row : (get_or A h 0 < length S) × (h < 256) × (6 * h + 5 < length M)
      up_row =
          let a = now.asked in
          let b = held a in
          ((rest a).marked.row, omega (arith, b.1, b.2, a.marks.few), omega (arith, b.1, b.2, a.packed.room))

      -- the ends of both terms are read
      module _ {r pe a b t te : ℕ} (er : r ≡ q + get_or M (6 * q + 2) 0) (ep : pe ≡ h + get_or M (6 * h + 2) 0) (ea : a ≡ get_or A q 0) (ec : t ≡ a + get_or S a 0)
          (eb : b ≡ get_or A h 0) (ed : te ≡ b + get_or S b 0) where
        et : t ≡ get_or A q 0 + get_or S (get_or A q 0) 0
        et = ec ∙ ap (λ (i : ℕ). i + get_or S i 0) ea

        ete : te ≡ get_or A h 0 + get_or S (get_or A h 0) 0
        ete = ed ∙ ap (λ (i : ℕ). i + get_or S i 0) eb

        rest_asked : {K N Z : List ℕ} {Q : List Kind} {B : List Entry} {fs : List Frame} (a : UpAsked L S M R A q m K N Z Q B fs)
            → ListAsked L S M R A r pe t te m K N Z Q (rest a).ps (rest a).us B (rest a).behind
        rest_asked {K} {N} {Z} {Q} {B} {fs} a =
            let w = rest a in
            let b = held a in
            let i : q + get_or Z q 0 ≡ r = omega (arith, a.packed.sizes q b.2) in
            let j : h + get_or Z h 0 ≡ pe = omega (arith, a.packed.sizes h (omega (arith, b.1, b.2))) in
            let k : a.end ≡ t = sym a.marked.behind ∙ sym et in
            let l : w.end ≡ te = sym w.marked.behind ∙ sym ete in
            record {
              packed = a.packed;
              pattern = rw (sym i, sym j) w.pattern;
              good = w.good;
              tree = rw (sym k, sym l) w.tree;
              state = a.state;
              marks = a.marks;
              holder = h;
              below = subst (Past Z h) i w.past;
              held =
                  record {
                    holder = w.holder;
                    kind = λ e. list (b.4 ∙ e);
                    inside = omega (arith, b.1, b.2);
                    ends = j;
                    marked = rw (sym l) w.marked;
                    above = rw (sym l) w.above;
                  };
            }

        pub up_list_pre : ListPre L S M R A r pe t te m
        up_list_pre =
            let s = below.pre.some in
            let a = now.asked in
            record { K = s.0; N = s.1; Z = s.2; Q = s.3; ps = (rest a).ps; us = (rest a).us; B = now.B; fs = (rest a).behind; asked = rest_asked a }

        walked : {o : Result ℕ Halt} {R₁ A₁ : List ℕ} → ListPost L S M R A r pe t te m o R₁ A₁ → {K N Z : List ℕ} {Q : List Kind} {B : List Entry} {fs : List Frame} (a : UpAsked L S M R A q m K N Z Q B fs)
            → Agree L S R₁ A₁ K N Z Q r (after_f (rest a).ps m) (rest a).behind (walk_f Any any? (rest a).ps (rest a).us t B) o × Kept Q m R R₁ × Unchanged r A A₁
        walked post {K} {N} {Z} {Q} {B} a = post.is K N Z Q (rest a).ps (rest a).us B (rest a).behind (rest_asked a)

        -- the rows behind are behind p₀
        on : {K N Z : List ℕ} {Q : List Kind} {B : List Entry} {fs : List Frame} (w : Risen L S M R₀ R A₀ A p₀ n₀ q m K N Z Q B fs) → p₀ + get_or Z p₀ 0 ≤ r
        on w = omega (arith, w.over, w.asked.packed.sizes q (held w.asked).2)

        first : {K N Z : List ℕ} {Q : List Kind} {B₀ : List Entry} {fs₀ : List Frame} (w : Risen L S M R₀ R A₀ A p₀ n₀ q m K N Z Q B₀ fs₀) (cs : List ℕ)
            → run Any any? fs₀ B₀ cs ≡ run Any any? (frame (rest w.asked).ps (rest w.asked).us t ∷ (rest w.asked).behind) w.B cs
        first w cs =
            let v = rest w.asked in
            let k : w.asked.end ≡ t = sym w.asked.marked.behind ∙ sym et in
            w.same cs ∙ ap (λ (g : List Frame). run Any any? g w.B cs) (v.is ∙ ap (λ (i : ℕ). frame v.ps v.us i ∷ v.behind) k)

        pub up_halts : {i : Halt} {R₁ A₁ : List ℕ} → ListPost L S M R A r pe t te m (Err i) R₁ A₁ → UpPost L S M R₀ A₀ p₀ n₀ (Err i) R₁ A₁
        up_halts post =
            record {
              is = λ K N Z Q B fs a.
                  let w = below.rising.is K N Z Q B fs a in
                  let v = rest w.asked in
                  let y = walked post w.asked in (
                    m,
                    agree_before (on w) (agree_same (λ cs. first w cs ∙ run_first v.ps v.us t v.behind w.B cs) (halts_run v.behind y.0)),
                    kept_then w.later w.kept y.1,
                    unchanged_then (on w) w.unchanged y.2,
                  );
            }

        pub up_goes : {k : ℕ} {R₁ A₁ : List ℕ} → ListPost L S M R A r pe t te m (Ok k) R₁ A₁ → Rising L S M R₀ R₁ A₀ A₁ p₀ n₀ h k
        up_goes {k} post =
            record {
              is = λ K N Z Q B fs a.
                  let w = below.rising.is K N Z Q B fs a in
                  let v = rest w.asked in
                  let b = held w.asked in
                  let y = walked post w.asked in
                  let c = ok_agree y.0 in
                  let l : h < r = omega (arith, b.1) in
                  let l' : h ≤ r = omega arith in
                  record {
                    B = c.0;
                    fs = v.behind;
                    asked =
                        record {
                          packed = w.asked.packed;
                          state = c.3;
                          marks = marks_kept y.2 w.asked.marks;
                          holder = v.holder;
                          end = v.end;
                          marked = marked_kept y.2 l v.marked;
                          above = behind_kept y.2 l' (rw c.2 v.above);
                        };
                    same = λ cs. first w cs ∙ run_goes v.ps v.us t v.behind w.B c.0 cs (c.1 cs);
                    kept = kept_then w.later w.kept y.1;
                    later = omega (arith, w.later, c.2, after_ge_f v.ps m);
                    over = omega (arith, w.over, b.3);
                    unchanged = unchanged_then (on w) w.unchanged y.2;
                  };
            }

-- from the root nothing is left behind
root_asked : {L S M R A : List ℕ} {T : Term} {P : Pattern} {Q : List Kind} (w : Problem L S M R A T P Q) → TermAsked L S M R A 0 0 0 w.K w.N w.Z Q P T [] []
root_asked {Q = Q} w =
    record {
      packed = w.packed;
      pattern = good_placed w.pattern;
      good = w.pattern.numbered.numbered;
      tree = good_term w.tree;
      state =
          record {
            small = omega (arith, w.tree.few);
            room = w.room;
            bound = record { many = refl; kept = record { rest = Q; is = refl }; held = λ x v e. tt };
            stand = λ x e i. absurd (omega (arith, look_old [] x e i));
            numbered = refl;
          };
      marks = w.marks;
      holder = 0;
      above = at_root refl;
    }

pub root_pre : {L S M R A : List ℕ} → BeginPre L S M R A → TermPre L S M R A 0 0 0
root_pre b =
    let w = b.some.3 in
    record { K = w.K; N = w.N; Z = w.Z; Q = b.some.2; q = b.some.1; T = b.some.0; B = []; fs = []; asked = root_asked w }

pub root_is : {L S M R A R' A' : List ℕ} {o : Result ℕ Halt} → TermPost L S M R A 0 0 0 o R' A' → BeginPost L S M R A o R' A'
root_is post = record { is = λ T P Q w. post.is w.K w.N w.Z Q P T [] [] (root_asked w) }
