-- Laws of the argument-list walk.
use Prim.Native.Nat.{ℕ, ◌+◌, ◌*◌, ◌<◌, ◌≤◌}
use mathlib.Core.Path.{◌≡◌, refl, ap, ◌∙◌, sym, subst}
use mathlib.Core.Logic.{◌≢◌}
use mathlib.Core.List.{List, ◌∷◌}
use lib.ListN.{length, get_or}
use native.Mathlib.Omega.{arith}
use Rattle.meaning.specs.Forest.{Forest, none, some, term, rows, terms, size}
use Rattle.meaning.specs.Read.{take_t}
use Rattle.meaning.specs.Pattern.{Pattern, Patterns, nil, cons, sequence, Kind, a_sequence, after, after_t, after_f, GoodF}
use Rattle.meaning.specs.Matcher.{of_sequence}
use Rattle.meaning.specs.Record.{Entry}
use Rattle.meaning.proofs.Laws.{drop_t}
use Rattle.meaning.proofs.Lists.{look_old}
use Rattle.meaning.proofs.Complete.{after_ge_t}
use Rattle.meaning.proofs.Walk.{Res, fail, ok, and_then, choose, walk_t, walk_f}
use Rattle.meaning.proofs.Resume.{Frame, frame, at_sequence}
use Rattle.tree.specs.Places.{TermsAt}
use Rattle.tree.proofs.Terms.{terms_le, none_at, first_at, FirstAt, term_next}
use Rattle.pattern.specs.Places.{PatternsAt}
use Rattle.meaning.proofs.Next.{Any, any?}
use Rattle.variable.specs.State.{Kept}
use Rattle.variable.specs.Steps.{SequencePre, SequencePost}
use Rattle.walk.specs.Packed.{Past, Holds}
use Rattle.walk.specs.Above.{Came, Unchanged, in_list, before_terms}
use Rattle.walk.specs.Cycle.{stop_at, Agree, both_fail, both_need, both_ok, TermAsked, TermPre, TermPost, ListAsked, ListPre, ListPost}
use Rattle.std.specs.Prelude.{Result, Ok, Err}
use Rattle.walk.specs.declared.Halt.{Halt}
use Rattle.walk.specs.declared.Halt.TheVariants as halt
use Rattle.variable.specs.declared.Step.{Step}
use Rattle.variable.specs.declared.Step.TheVariants as step
use Rattle.variable.proofs.States.{kept_same, kept_then, is_new}
use Rattle.walk.proofs.Marks.{unchanged_same, unchanged_then, marks_kept, come_unchanged, held_kept, past_one, past_term, needs_then}
use Rattle.walk.proofs.Stops.{sequence_asks, sequence_goes}
use Rattle.walk.proofs.Views.{Seen, term_seen, list_seen, SequenceFirst, sequence_first, TermFirst, term_first, no_arguments, ok_agree, agree_same, agree_before, fail_chose, need_chose, go_chose}

-- the walk r of a list with c variables bound at its end, begun with n₀ bound, the record R₀ and the rows A₀ at the row p₀, comes to the
-- rows p and t with n bound, the record R and the rows A: the walk of what is left comes to the same
pub record Left (L S M R₀ R A₀ A : List ℕ) (p₀ p pe t te n n₀ : ℕ) (K N Z : List ℕ) (Q : List Kind) (r : List ℕ → Res) (c : ℕ) (fs : List Frame) : Type 0 where
  pub ps : Patterns
  pub us : Forest
  pub B : List Entry
  pub asked : ListAsked L S M R A p pe t te n K N Z Q ps us B fs
  pub same : (cs : List ℕ) → r cs ≡ walk_f Any any? ps us t B cs
  pub count : c ≡ after_f ps n
  pub kept : Kept Q n₀ R₀ R
  pub later : n₀ ≤ n
  pub unchanged : Unchanged p₀ A₀ A

pub record Walking (L S M R₀ R A₀ A : List ℕ) (p₀ pe t₀ te n₀ p t n : ℕ) : Type 0 where
  pub later : p₀ ≤ p
  pub further : t₀ ≤ t
  pub is : (K N Z : List ℕ) (Q : List Kind) (ps : Patterns) (us : Forest) (B : List Entry) (fs : List Frame) → ListAsked L S M R₀ A₀ p₀ pe t₀ te n₀ K N Z Q ps us B fs
      → Left L S M R₀ R A₀ A p₀ p pe t te n n₀ K N Z Q (walk_f Any any? ps us t₀ B) (after_f ps n₀) fs

pub walking_first : {L S M R A : List ℕ} {p pe t te n : ℕ} → Walking L S M R R A A p pe t te n p t n
walking_first =
    record {
      later = omega arith;
      further = omega arith;
      is = λ K N Z Q ps us B fs a.
          record { ps = ps; us = us; B = B; asked = a; same = λ cs. refl; count = refl; kept = kept_same; later = omega arith; unchanged = unchanged_same };
    }

-- the end of both lists, or of one
nil_walk : (ps : Patterns) (us : Forest) (t : ℕ) (B : List Entry) (cs : List ℕ) → ps ≡ nil → us ≡ none → walk_f Any any? ps us t B cs ≡ ok B cs
unfolding walk_f
nil_walk ps us t B cs e f = rw (e, f)

nil_after : (ps : Patterns) (n : ℕ) → ps ≡ nil → after_f ps n ≡ n
unfolding after_f
nil_after ps n e = rw e

nil_fails : (ps : Patterns) (us : Forest) (t : ℕ) (B : List Entry) (cs : List ℕ) (l : ℕ) (vs rest : Forest) → ps ≡ nil → us ≡ some l vs rest → walk_f Any any? ps us t B cs ≡ fail
unfolding walk_f
nil_fails ps us t B cs l vs rest e f = rw (e, f)

cons_fails : (ps : Patterns) (us : Forest) (t : ℕ) (B : List Entry) (cs : List ℕ) (q : Pattern) (qs : Patterns) → ps ≡ cons q qs → us ≡ none → walk_f Any any? ps us t B cs ≡ fail
unfolding walk_f
cons_fails ps us t B cs q qs e f = rw (e, f)

-- one step of each walk
cons_walk : (ps : Patterns) (us : Forest) (t : ℕ) (B : List Entry) (cs : List ℕ) (q : Pattern) (qs : Patterns) (l : ℕ) (vs rest : Forest) → ps ≡ cons q qs → us ≡ some l vs rest
    → walk_f Any any? ps us t B cs ≡ and_then (walk_t Any any? q (term l vs) t B cs) (λ B' cs'. walk_f Any any? qs rest (t + size (term l vs)) B' cs')
unfolding walk_f
cons_walk ps us t B cs q qs l vs rest e f = rw (e, f)

cons_after : (ps : Patterns) (n : ℕ) (q : Pattern) (qs : Patterns) → ps ≡ cons q qs → after_f ps n ≡ after_f qs (after_t q n)
unfolding after_f
cons_after ps n q qs e = rw e

sequence_walk : (ps : Patterns) (us : Forest) (t : ℕ) (B : List Entry) (cs : List ℕ) (x : ℕ) (qs : Patterns) → ps ≡ sequence x qs
    → walk_f Any any? ps us t B cs
    ≡ choose Any any? x 0 (terms us) t (λ d. of_sequence (take_t d us)) B cs (λ d B' cs'. walk_f Any any? qs (drop_t d us) (t + rows (take_t d us)) B' cs')
unfolding walk_f
sequence_walk ps us t B cs x qs e = rw e

sequence_after : (ps : Patterns) (n x : ℕ) (qs : Patterns) → ps ≡ sequence x qs → after_f ps n ≡ after_f qs (after x n)
unfolding after_f
sequence_after ps n x qs e = rw e

module _ {L S M R₀ R A₀ A : List ℕ} {p₀ pe t₀ te n₀ p t n : ℕ} (walking : Walking L S M R₀ R A₀ A p₀ pe t₀ te n₀ p t n) where
  -- what is left for those that the caller has
  now_left : (w : ListPre L S M R₀ A₀ p₀ pe t₀ te n₀)
      → Left L S M R₀ R A₀ A p₀ p pe t te n n₀ w.K w.N w.Z w.Q (walk_f Any any? w.ps w.us t₀ w.B) (after_f w.ps n₀) w.fs
  now_left w = walking.is w.K w.N w.Z w.Q w.ps w.us w.B w.fs w.asked

  -- an answer for what is left is the answer
  answered : {R₁ A₁ : List ℕ} (o : Result ℕ Halt)
      → ((K N Z : List ℕ) (Q : List Kind) (ps : Patterns) (us : Forest) (B : List Entry) (fs : List Frame) → ListAsked L S M R A p pe t te n K N Z Q ps us B fs
      → Agree L S R₁ A₁ K N Z Q p (after_f ps n) fs (walk_f Any any? ps us t B) o × Kept Q n R R₁ × Unchanged p A A₁)
      → ListPost L S M R₀ A₀ p₀ pe t₀ te n₀ o R₁ A₁
  answered {R₁} {A₁} o f =
      record {
        is = λ K N Z Q ps us B fs a.
            let w = walking.is K N Z Q ps us B fs a in
            let y = f K N Z Q w.ps w.us w.B fs w.asked in
            let z : Agree L S R₁ A₁ K N Z Q p (after_f ps n₀) fs (walk_f Any any? w.ps w.us t w.B) o =
            subst (λ (m : ℕ). Agree L S R₁ A₁ K N Z Q p m fs (walk_f Any any? w.ps w.us t w.B) o) (sym w.count) y.0
            in
            (agree_before walking.later (agree_same w.same z), kept_then w.later w.kept y.1, unchanged_then walking.later w.unchanged y.2);
      }

  -- a step for what is left is a step
  stepped : {R₁ A₁ : List ℕ} {q u m : ℕ} → p ≤ q → t ≤ u
      → ((K N Z : List ℕ) (Q : List Kind) (ps : Patterns) (us : Forest) (B : List Entry) (fs : List Frame) → ListAsked L S M R A p pe t te n K N Z Q ps us B fs
      → Left L S M R R₁ A A₁ p q pe u te m n K N Z Q (walk_f Any any? ps us t B) (after_f ps n) fs)
      → Walking L S M R₀ R₁ A₀ A₁ p₀ pe t₀ te n₀ q u m
  stepped later further f =
      record {
        later = omega (arith, walking.later);
        further = omega (arith, walking.further);
        is = λ K N Z Q ps us B fs a.
            let w = walking.is K N Z Q ps us B fs a in
            let y = f K N Z Q w.ps w.us w.B fs w.asked in
            record {
              ps = y.ps;
              us = y.us;
              B = y.B;
              asked = y.asked;
              same = λ cs. w.same cs ∙ y.same cs;
              count = w.count ∙ y.count;
              kept = kept_then w.later w.kept y.kept;
              later = omega (arith, w.later, y.later);
              unchanged = unchanged_then walking.later w.unchanged y.unchanged;
            };
      }

  -- the pattern's end
  module _ (e : p ≡ pe) where
    pub list_ends : t ≡ te → ListPost L S M R₀ A₀ p₀ pe t₀ te n₀ (Ok n) R A
    list_ends f =
        answered (Ok n)
        λ K N Z Q ps us B fs a.
        let z = no_arguments a.packed a.pattern e in
        (both_ok (sym (nil_after ps n z)) a.state (λ cs. nil_walk ps us t B cs z (none_at a.tree (omega arith))), kept_same, unchanged_same)

    pub list_tree_left : t ≢ te → ListPost L S M R₀ A₀ p₀ pe t₀ te n₀ (Err halt.Fail) R A
    list_tree_left f =
        answered (Err halt.Fail)
        λ K N Z Q ps us B fs a.
        let z = no_arguments a.packed a.pattern e in
        let w = first_at a.tree (omega (arith, terms_le a.tree, f)) in
        (both_fail (λ cs. nil_fails ps us t B cs w.label w.args w.rest z w.is), kept_same, unchanged_same)

-- what stops the walk of a term stops that of the list
halts_then : {L S R A K N Z : List ℕ} {Q : List Kind} {p₀ m c : ℕ} {f : List ℕ → Res} {h : Halt} {fs : List Frame} (ps : Patterns) (us : Forest) (t : ℕ)
    → Agree L S R A K N Z Q p₀ m (frame ps us t ∷ fs) f (Err h) → Agree L S R A K N Z Q p₀ c fs (λ cs. and_then (f cs) (walk_f Any any? ps us t)) (Err h)
halts_then ps us t (both_fail e) = both_fail λ cs. rw (e cs)
halts_then ps us t (both_need l w) = both_need l (needs_then ps us t w)

-- a turn of the loop, at the pattern row p
pub record Turn (L S M R₀ R A₀ A : List ℕ) (p₀ pe t₀ te n₀ p t n : ℕ) : Type 0 where
  pub pre : ListPre L S M R₀ A₀ p₀ pe t₀ te n₀
  pub walking : Walking L S M R₀ R A₀ A p₀ pe t₀ te n₀ p t n
  pub more : p ≢ pe

-- a turn at the sequence variable x
pub record AtSequence (L S M R₀ R A₀ A : List ℕ) (p₀ pe t₀ te n₀ p t n x : ℕ) : Type 0 where
  pub turn : Turn L S M R₀ R A₀ A p₀ pe t₀ te n₀ p t n
  pub kind : get_or M (6 * p) 0 ≡ 2
  pub name : x ≡ get_or M (6 * p + 1) 0

-- a turn at a term, with a term of the tree left
pub record AtTerm (L S M R₀ R A₀ A : List ℕ) (p₀ pe t₀ te n₀ p t n : ℕ) : Type 0 where
  pub turn : Turn L S M R₀ R A₀ A p₀ pe t₀ te n₀ p t n
  pub kind : get_or M (6 * p) 0 ≢ 2
  pub left : t ≢ te

module _ {L S M R₀ R A₀ A : List ℕ} {p₀ pe t₀ te n₀ p t n : ℕ} where
  pub a_turn : ListPre L S M R₀ A₀ p₀ pe t₀ te n₀ → Walking L S M R₀ R A₀ A p₀ pe t₀ te n₀ p t n → p ≢ pe → Turn L S M R₀ R A₀ A p₀ pe t₀ te n₀ p t n
  a_turn pre walking more = record { pre = pre; walking = walking; more = more }

  pub at_sequence_turn : {k x : ℕ} → Turn L S M R₀ R A₀ A p₀ pe t₀ te n₀ p t n → k ≡ get_or M (6 * p) 0 → k ≡ 2 → x ≡ get_or M (6 * p + 1) 0 → AtSequence L S M R₀ R A₀ A p₀ pe t₀ te n₀ p t n x
  at_sequence_turn turn ek two name = record { turn = turn; kind = omega arith; name = name }

  pub at_term_turn : {k : ℕ} → Turn L S M R₀ R A₀ A p₀ pe t₀ te n₀ p t n → k ≡ get_or M (6 * p) 0 → k ≢ 2 → t ≢ te → AtTerm L S M R₀ R A₀ A p₀ pe t₀ te n₀ p t n
  at_term_turn turn ek two left = record { turn = turn; kind = omega arith; left = left }

module _ {L S M R₀ R A₀ A : List ℕ} {p₀ pe t₀ te n₀ p t n : ℕ} (turn : Turn L S M R₀ R A₀ A p₀ pe t₀ te n₀ p t n) where
  turn_left : let w = turn.pre in
      Left L S M R₀ R A₀ A p₀ p pe t te n n₀ w.K w.N w.Z w.Q (walk_f Any any? w.ps w.us t₀ w.B) (after_f w.ps n₀) w.fs
  turn_left = now_left turn.walking turn.pre

  pub list_row : Seen turn.pre.K turn.pre.Z M p
  list_row = list_seen turn_left.asked.packed turn_left.asked.pattern turn.more

  pub list_marks : p < 256
  list_marks = omega (arith, list_row.inside, turn_left.asked.marks.few)

  pub list_tree_ends : get_or M (6 * p) 0 ≢ 2 → t ≡ te → ListPost L S M R₀ A₀ p₀ pe t₀ te n₀ (Err halt.Fail) R A
  list_tree_ends kind f =
      answered turn.walking (Err halt.Fail)
      λ K N Z Q ps us B fs a.
      let w = term_first a.packed turn.more refl a.pattern a.good kind in
      (both_fail (λ cs. cons_fails ps us t B cs w.first w.rest w.is (none_at a.tree (omega arith))), kept_same, unchanged_same)

module _ {L S M R₀ R A₀ A : List ℕ} {p₀ pe t₀ te n₀ p t n x : ℕ} (place : AtSequence L S M R₀ R A₀ A p₀ pe t₀ te n₀ p t n x) where
  the_sequence : {K N Z : List ℕ} {Q : List Kind} {ps : Patterns} {us : Forest} {B : List Entry} {fs : List Frame} → ListAsked L S M R A p pe t te n K N Z Q ps us B fs
      → SequenceFirst K N Z Q p pe x n ps
  the_sequence a = sequence_first a.packed place.turn.more refl a.pattern a.good place.kind place.name

  -- the list's row holds it
  holds_here : {K N Z : List ℕ} {Q : List Kind} {ps : Patterns} {us : Forest} {B : List Entry} {fs : List Frame} (a : ListAsked L S M R A p pe t te n K N Z Q ps us B fs) → Holds Z a.holder p
  holds_here a = record { past = a.below; inside = omega (arith, a.held.ends, (the_sequence a).before) }

  pub list_sequence_pre : SequencePre L S R x t te n
  list_sequence_pre =
      let w = turn_left place.turn in
      record { variable = record { some = (place.turn.pre.Q, w.B, w.asked.state, (the_sequence w.asked).comes) }; tree = (w.us, w.asked.tree) }

  pub list_sequence_before : p < pe
  list_sequence_before = (the_sequence (turn_left place.turn).asked).before

  module _ {o : Step} (post : SequencePost L S R x t te n o) where
    pub list_sequence_fails : o ≡ step.Fail → ListPost L S M R₀ A₀ p₀ pe t₀ te n₀ (Err halt.Fail) R A
    list_sequence_fails g =
        answered place.turn.walking (Err halt.Fail)
        λ K N Z Q ps us B fs a.
        let w = the_sequence a in
        let y = fail_chose (rw g at (post.is Q us B a.tree w.comes a.state)) in
        (both_fail (λ cs. sequence_walk ps us t B cs x w.rest w.is ∙ y cs (λ d B' cs'. walk_f Any any? w.rest (drop_t d us) (t + rows (take_t d us)) B' cs')), kept_same, unchanged_same)

    pub list_sequence_needs : {A₁ : List ℕ} → o ≡ step.Need → Came A p t A₁ → ListPost L S M R₀ A₀ p₀ pe t₀ te n₀ (Err (halt.Need (stop_at p x t))) R A₁
    list_sequence_needs {A₁} g came =
        answered place.turn.walking (Err (halt.Need (stop_at p x t)))
        λ K N Z Q ps us B fs a.
        let w = the_sequence a in
        let y = need_chose (rw g at (post.is Q us B a.tree w.comes a.state)) in
        let i = is_new a.state y in
        let s = list_seen a.packed a.pattern place.turn.more in
        let z : after x n ≡ x + 1 = omega (arith, y) in
        let u = come_unchanged came in
        let l : p ≤ p = omega arith in (
          both_need l
              (record {
                bound = B;
                stop = at_sequence w.rest us;
                frames = fs;
                within = look_old Q x a_sequence w.comes.kept;
                state = rw y a.state;
                stands = before_terms w.comes.kept (sym (place.name ∙ a.packed.names p s.inside)) (sym (a.packed.kinds p s.inside) ∙ place.kind) (holds_here a) (past_one a.below w.one) w.behind
                    (subst (GoodF Q w.rest) z w.good) a.tree (held_kept u a.below.lower (rw (sym (sequence_after ps n x w.rest w.is ∙ ap (after_f w.rest) z)) a.held));
                low = refl;
                high = refl;
                asks = sequence_asks us t B w.is i;
                goes = λ v cs. sequence_goes us t B w.is i fs v cs;
              }),
          kept_same,
          u,
        )

    pub list_sequence_goes : {u : ℕ} → o ≡ step.Go u → Walking L S M R₀ R A₀ A p₀ pe t₀ te n₀ (p + 1) u n
    list_sequence_goes {u} g =
        stepped place.turn.walking (omega arith) on
        λ K N Z Q ps us B fs a.
        let w = the_sequence a in
        let c = go_chose (rw g at (post.is Q us B a.tree w.comes a.state)) in
        let z : after x n ≡ n = omega (arith, c.2) in
        let count = sequence_after ps n x w.rest w.is ∙ ap (after_f w.rest) z in
        record {
          ps = w.rest;
          us = drop_t c.0 us;
          B = B;
          asked =
              record {
                packed = a.packed;
                pattern = w.behind;
                good = subst (GoodF Q w.rest) z w.good;
                tree = c.3.0;
                state = a.state;
                marks = a.marks;
                holder = a.holder;
                below = past_one a.below w.one;
                held = rw (sym count) a.held;
              };
          same = λ cs.
              sequence_walk ps us t B cs x w.rest w.is ∙ c.1 cs (λ d B' cs'. walk_f Any any? w.rest (drop_t d us) (t + rows (take_t d us)) B' cs')
              ∙ ap (λ (i : ℕ). walk_f Any any? w.rest (drop_t c.0 us) i B cs) c.3.1;
          count = count;
          kept = kept_same;
          later = omega arith;
          unchanged = unchanged_same;
        }
      where
        on : t ≤ u
        on =
            let v = turn_left place.turn in
            let c = go_chose (rw g at (post.is place.turn.pre.Q v.us v.B v.asked.tree (the_sequence v.asked).comes v.asked.state)) in
            omega (arith, c.3.1)

module _ {L S M R₀ R A₀ A : List ℕ} {p₀ pe t₀ te n₀ p t n : ℕ} (place : AtTerm L S M R₀ R A₀ A p₀ pe t₀ te n₀ p t n) where
  the_term : {K N Z : List ℕ} {Q : List Kind} {ps : Patterns} {us : Forest} {B : List Entry} {fs : List Frame} → ListAsked L S M R A p pe t te n K N Z Q ps us B fs
      → TermFirst K N Z Q p pe n ps
  the_term a = term_first a.packed place.turn.more refl a.pattern a.good place.kind

  first_term : {K N Z : List ℕ} {Q : List Kind} {ps : Patterns} {us : Forest} {B : List Entry} {fs : List Frame} → ListAsked L S M R A p pe t te n K N Z Q ps us B fs → FirstAt L S t te us
  first_term a = first_at a.tree (omega (arith, terms_le a.tree, place.left))

  -- the rows of the term are within the lists
  pub list_term_within : (p + get_or M (6 * p + 2) 0 ≤ pe) × (1 ≤ get_or M (6 * p + 2) 0) × (t + get_or S t 0 ≤ te)
  list_term_within =
      let s = list_row place.turn in
      let a = (turn_left place.turn).asked in
      (omega (arith, s.size, (the_term a).within), omega (arith, s.size, s.some), (first_term a).ends)

  first_asked : {K N Z : List ℕ} {Q : List Kind} {ps : Patterns} {us : Forest} {B : List Entry} {fs : List Frame} (a : ListAsked L S M R A p pe t te n K N Z Q ps us B fs)
      → TermAsked L S M R A p t n K N Z Q (the_term a).first (term (first_term a).label (first_term a).args) B (frame (the_term a).rest (first_term a).rest (t + get_or S t 0) ∷ fs)
  first_asked {K} {N} {Z} {Q} {ps} {fs = fs} a =
      let w = the_term a in
      let x = first_term a in
      let s = term_seen a.packed w.here in
      record {
        packed = a.packed;
        pattern = w.here;
        good = w.good;
        tree = x.first;
        state = a.state;
        marks = a.marks;
        holder = a.holder;
        above =
            in_list {g = a.held.holder} {ps = w.rest} {us = x.rest} {fs = fs} (record { past = a.below; inside = omega (arith, a.held.ends, w.within, s.some) }) (past_term a.below w.here) s.inside a.held.kind (rw a.held.ends w.behind) w.goods x.others a.held.marked
            (rw (sym (cons_after ps n w.first w.rest w.is)) a.held.above);
      }

  pub list_term_pre : TermPre L S M R A p t n
  list_term_pre =
      let v = place.turn.pre in
      let w = turn_left place.turn in
      let x = first_term w.asked in
      record { K = v.K; N = v.N; Z = v.Z; Q = v.Q; q = (the_term w.asked).first; T = term x.label x.args; B = w.B; fs = _; asked = first_asked w.asked }

  pub list_term_tree : t < length S
  list_term_tree = (term_next (first_term (turn_left place.turn).asked).first).sized

  -- what the walk of the first term says
  first_walked : {o : Result ℕ Halt} {R₁ A₁ : List ℕ} → TermPost L S M R A p t n o R₁ A₁ → {K N Z : List ℕ} {Q : List Kind} {ps : Patterns} {us : Forest} {B : List Entry} {fs : List Frame} (a : ListAsked L S M R A p pe t te n K N Z Q ps us B fs)
      → Agree L S R₁ A₁ K N Z Q p (after_t (the_term a).first n) (frame (the_term a).rest (first_term a).rest (t + get_or S t 0) ∷ fs)
      (walk_t Any any? (the_term a).first (term (first_term a).label (first_term a).args) t B) o × Kept Q n R R₁ × Unchanged p A A₁
  first_walked {o} {R₁} {A₁} post {K} {N} {Z} {Q} {ps} {us} {B} {fs} a = post.is K N Z Q (the_term a).first (term (first_term a).label (first_term a).args) B _ (first_asked a)

  list_step : {K N Z : List ℕ} {Q : List Kind} {ps : Patterns} {us : Forest} {B : List Entry} {fs : List Frame} (a : ListAsked L S M R A p pe t te n K N Z Q ps us B fs) (cs : List ℕ)
      → walk_f Any any? ps us t B cs
      ≡ and_then (walk_t Any any? (the_term a).first (term (first_term a).label (first_term a).args) t B cs) (walk_f Any any? (the_term a).rest (first_term a).rest (t + get_or S t 0))
  list_step {ps = ps} {us = us} {B = B} a cs =
      let w = the_term a in
      let x = first_term a in
      let j : t + size (term x.label x.args) ≡ t + get_or S t 0 = omega (arith, x.first.row.size) in
      cons_walk ps us t B cs w.first w.rest x.label x.args x.rest w.is x.is
      ∙ ap (λ (i : ℕ). and_then (walk_t Any any? w.first (term x.label x.args) t B cs) (walk_f Any any? w.rest x.rest i)) j

  pub list_term_halts : {h : Halt} {R₁ A₁ : List ℕ} → TermPost L S M R A p t n (Err h) R₁ A₁ → ListPost L S M R₀ A₀ p₀ pe t₀ te n₀ (Err h) R₁ A₁
  list_term_halts {h} post =
      answered place.turn.walking (Err h)
      λ K N Z Q ps us B fs a.
      let y = first_walked post a in
      (agree_same (list_step a) (halts_then (the_term a).rest (first_term a).rest (t + get_or S t 0) y.0), y.1, y.2)

  pub list_term_goes : {m q u : ℕ} {R₁ A₁ : List ℕ} → TermPost L S M R A p t n (Ok m) R₁ A₁ → q ≡ p + get_or M (6 * p + 2) 0 → u ≡ t + get_or S t 0 → Walking L S M R₀ R₁ A₀ A₁ p₀ pe t₀ te n₀ q u m
  list_term_goes {m} {q} {u} post eq eu =
      stepped place.turn.walking (omega arith) (omega arith)
      λ K N Z Q ps us B fs a.
      let w = the_term a in
      let x = first_term a in
      let y = first_walked post a in
      let c = ok_agree y.0 in
      let s = term_seen a.packed w.here in
      let i : p + get_or Z p 0 ≡ q = omega (arith, s.size) in
      let count = cons_after ps n w.first w.rest w.is ∙ ap (after_f w.rest) (sym c.2) in
      record {
        ps = w.rest;
        us = x.rest;
        B = c.0;
        asked =
            record {
              packed = a.packed;
              pattern = subst (λ (i : ℕ). PatternsAt K N Z Q i pe w.rest) i w.behind;
              good = subst (GoodF Q w.rest) (sym c.2) w.goods;
              tree = subst (λ (i : ℕ). TermsAt L S i te x.rest) (sym eu) x.others;
              state = c.3;
              marks = marks_kept y.2 a.marks;
              holder = a.holder;
              below = subst (Past Z a.holder) i (past_term a.below w.here);
              held = held_kept y.2 a.below.lower (rw (sym count) a.held);
            };
        same = λ cs.
            list_step a cs ∙ ap (λ (r : Res). and_then r (walk_f Any any? w.rest x.rest (t + get_or S t 0))) (c.1 cs)
            ∙ ap (λ (i : ℕ). walk_f Any any? w.rest x.rest i c.0 cs) (sym eu);
        count = count;
        kept = y.1;
        later = omega (arith, c.2, after_ge_t w.first n);
        unchanged = y.2;
      }
