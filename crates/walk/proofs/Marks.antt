-- Laws of the rows that a walk has come to, and of what is left behind them.
use Prim.Native.Nat.{ℕ, ◌+◌, ◌-◌, ◌<◌, ◌≤◌}
use mathlib.Core.Path.{◌≡◌, refl, ◌∙◌, subst}
use mathlib.Core.Logic.{◌⊎◌, inl, inr, ⊎_elim}
use mathlib.Core.List.{List, [], ◌∷◌}
use lib.ListN.{length, get_or, length-set}
use lib.Seq.{get_or-set_same, get_or-set_other}
use native.Mathlib.Omega.{arith}
use native.Mathlib.Nat.{eq-or-lt_of_le, eq-zero-or-pos}
use Rattle.meaning.specs.Forest.{Forest}
use Rattle.meaning.specs.Pattern.{Pattern, Patterns, Kind}
use Rattle.meaning.proofs.Walk.{Res, and_then, walk_f}
use Rattle.meaning.proofs.Resume.{Frame, frame, run, then_then}
use Rattle.meaning.proofs.Next.{Any, any?}
use Rattle.pattern.specs.Places.{PatternAt, at_symbol, at_individual, at_function, at_context, PatternsAt, at_nil, at_cons, at_sequence}
use Rattle.walk.specs.Packed.{Past}
use Rattle.walk.specs.Above.{Marks, Marked, Came, Unchanged, Behind, at_root, in_list, in_context, Held}
use Rattle.walk.specs.Cycle.{Needs}

before_or_not : (r p : ℕ) → (r < p) ⊎ (p ≤ r)
before_or_not r p = ⊎_elim (λ e. inr (omega arith)) (λ h. inl (omega arith)) (eq-zero-or-pos (p - r))

-- the terms at the rows within a term end within it
itself : (Z : List ℕ) {p r : ℕ} → p ≡ r → r + get_or Z r 0 ≤ p + get_or Z p 0
itself Z {p} e = subst (λ (i : ℕ). i + get_or Z i 0 ≤ p + get_or Z p 0) e (omega arith)

mutual
  term_spans : {K N Z : List ℕ} {Q : List Kind} {p : ℕ} {q : Pattern} → PatternAt K N Z Q p q → (r : ℕ) → p ≤ r → r < p + get_or Z p 0 → r + get_or Z r 0 ≤ p + get_or Z p 0
  term_spans {Z = Z} (at_symbol w i) r a b = ⊎_elim (itself Z) (λ l. list_spans i r (omega arith) b) (eq-or-lt_of_le a)
  term_spans {Z = Z} (at_individual w v z) r a b = itself Z (omega arith)
  term_spans {Z = Z} (at_function w v i) r a b = ⊎_elim (itself Z) (λ l. list_spans i r (omega arith) b) (eq-or-lt_of_le a)
  term_spans {Z = Z} (at_context w v z i) r a b = ⊎_elim (itself Z) (λ l. omega (arith, term_spans i r (omega arith) (omega arith))) (eq-or-lt_of_le a)

  list_spans : {K N Z : List ℕ} {Q : List Kind} {p e : ℕ} {ps : Patterns} → PatternsAt K N Z Q p e ps → (r : ℕ) → p ≤ r → r < e → r + get_or Z r 0 ≤ e
  list_spans (at_nil h l) r a b = absurd (omega arith)
  list_spans {Z = Z} {p = p} (at_cons x h i) r a b =
      ⊎_elim (λ l. omega (arith, term_spans x r a l)) (λ l. list_spans i r l b) (before_or_not r (p + get_or Z p 0))
  list_spans {Z = Z} (at_sequence w v z h i) r a b = ⊎_elim (λ e. omega (arith, itself Z e)) (λ l. list_spans i r (omega arith) b) (eq-or-lt_of_le a)

pub marks_kept : {q : ℕ} {K A A' : List ℕ} → Unchanged q A A' → Marks K A → Marks K A'
marks_kept u m = record { few = m.few; long = u.long ∙ m.long }

pub unchanged_same : {q : ℕ} {A : List ℕ} → Unchanged q A A
unchanged_same = record { long = refl; before = λ i h. refl }

pub unchanged_then : {q r : ℕ} {A B C : List ℕ} → q ≤ r → Unchanged q A B → Unchanged r B C → Unchanged q A C
unchanged_then h a b = record { long = b.long ∙ a.long; before = λ i l. b.before i (omega arith) ∙ a.before i l }

-- the walk comes to the row p
module _ {A A' : List ℕ} {p t : ℕ} (came : Came A p t A') where
  pub come_unchanged : Unchanged p A A'
  come_unchanged =
      rw came.is
      record {
        long = simp length-set;
        before = λ i l. get_or-set_other A p i t 0 (omega arith);
      }

  come_row : p < length A → get_or A' p 0 ≡ t
  come_row l = rw came.is (get_or-set_same A p t 0 l)

  pub come_marked : {S : List ℕ} → p < length A → t < length S → Marked S A' p (t + get_or S t 0)
  come_marked l s =
      let r = come_row l in
      record { row = rw r s; behind = rw r }

module _ {q : ℕ} {A A' : List ℕ} (u : Unchanged q A A') where
  pub marked_kept : {S : List ℕ} {p e : ℕ} → p < q → Marked S A p e → Marked S A' p e
  marked_kept {p = p} l m =
      let a = u.before p l in
      record { row = rw a m.row; behind = rw a m.behind }

  pub behind_kept : {L S K N Z : List ℕ} {Q : List Kind} {h p v n : ℕ} {fs : List Frame} → p ≤ q → Behind L S A K N Z Q h p v n fs → Behind L S A' K N Z Q h p v n fs
  behind_kept l (at_root e) = at_root e
  behind_kept l (in_list a o b c d e f m r) =
      in_list a o b c d e f (marked_kept (omega (arith, a.past.lower)) m) (behind_kept (omega (arith, a.past.lower)) r)
  behind_kept l (in_context a b c d m r) = in_context a b c d (marked_kept (omega (arith, a.past.lower)) m) (behind_kept (omega (arith, a.past.lower)) r)

  pub held_kept : {L S K N Z : List ℕ} {Q : List Kind} {h pe te n : ℕ} {fs : List Frame} → h < q → Held L S A K N Z Q h pe te n fs → Held L S A' K N Z Q h pe te n fs
  held_kept l w =
      record { holder = w.holder; kind = w.kind; inside = w.inside; ends = w.ends; marked = marked_kept l w.marked; above = behind_kept (omega arith) w.above }

-- ---- the rows that hold others

pub past_first : {Z : List ℕ} {h : ℕ} → Past Z h (h + 1)
past_first = record { lower = omega arith; ended = λ r a b. absurd (omega arith) }

-- behind a term
pub past_term : {K N Z : List ℕ} {Q : List Kind} {h p : ℕ} {q : Pattern} → Past Z h p → PatternAt K N Z Q p q → Past Z h (p + get_or Z p 0)
past_term {Z = Z} {p = p} w a =
    record { lower = omega (arith, w.lower); ended = λ r l m. ⊎_elim (λ b. omega (arith, w.ended r l b)) (λ b. term_spans a r b m) (before_or_not r p) }

-- behind a sequence variable, whose row is one
pub past_one : {Z : List ℕ} {h p : ℕ} → Past Z h p → get_or Z p 0 ≡ 1 → Past Z h (p + 1)
past_one {Z = Z} {p = p} w e =
    record {
      lower = omega (arith, w.lower);
      ended = λ r l m. ⊎_elim (λ b. omega (arith, w.ended r l b)) (λ b. let z : r ≡ p = omega arith in rw z (omega (arith, e))) (before_or_not r p);
    }

-- a walk that asks, said in other words
module _ {L S R A K N Z : List ℕ} {Q : List Kind} {p x s lo hi : ℕ} where
  unfoldable pub needs_same : {fs : List Frame} {f g : List ℕ → Res} → ((cs : List ℕ) → g cs ≡ f cs) → Needs L S R A K N Z Q fs f p x s lo hi → Needs L S R A K N Z Q fs g p x s lo hi
  needs_same e w =
      record {
        bound = w.bound;
        stop = w.stop;
        frames = w.frames;
        within = w.within;
        state = w.state;
        stands = w.stands;
        low = w.low;
        high = w.high;
        asks = e [] ∙ w.asks;
        goes = λ v cs. rw (e (v ∷ cs)) (w.goes v cs);
      }

  -- and with the first of the frames behind it walked
  pub needs_then : {fs : List Frame} {f : List ℕ → Res} (ps : Patterns) (us : Forest) (t : ℕ) → Needs L S R A K N Z Q (frame ps us t ∷ fs) f p x s lo hi
      → Needs L S R A K N Z Q fs (λ cs. and_then (f cs) (walk_f Any any? ps us t)) p x s lo hi
  unfolding run
  needs_then {fs} {f} ps us t w =
      record {
        bound = w.bound;
        stop = w.stop;
        frames = w.frames;
        within = w.within;
        state = w.state;
        stands = w.stands;
        low = w.low;
        high = w.high;
        asks = rw w.asks;
        goes = λ v cs. then_then (f (v ∷ cs)) (walk_f Any any? ps us t) (run Any any? fs) ∙ w.goes v cs;
      }
