-- The answers of the functions that judge a value.
use Prim.Native.Nat.{ℕ, ◌-◌, ◌≤◌}
use mathlib.Core.Path.{◌≡◌, refl, ap, ◌∙◌, sym}
use mathlib.Core.Logic.{◌≢◌}
use mathlib.Core.Bool.{Bool, true, false}
use mathlib.Core.List.{List, []}
use lib.Dec.{eqb}
use native.Mathlib.Omega.{arith}
use Rattle.meaning.specs.Forest.{Forest, terms, Context}
use Rattle.meaning.specs.Pattern.{Kind}
use Rattle.meaning.specs.Matcher.{Value}
use Rattle.meaning.specs.Read.{take_t}
use Rattle.meaning.proofs.Answers.{says_yes, says_no, says_equal, said_no}
use Rattle.tree.specs.Places.{TermsAt, ContextAt}
use Rattle.tree.proofs.Ways.{hole_here}
use Rattle.pattern.specs.Rows.{code}
use Rattle.constraint.specs.Obeys.{heads, path, word}
use Rattle.constraint.specs.Good.{MayHave}
use Rattle.constraint.specs.Reading.{ValueAt, a_sequence_value, a_context_value, another, HeadsPre, PathPre, After, ObeysPre, ObeysPost, ForbiddenPost}
use Rattle.constraint.proofs.Pairs.{pair_free, pair_bound, pair_may}
use Rattle.constraint.proofs.Readings.{after_decides}
use Rattle.constraint.proofs.Words.{heads_none, none_heads, path_none, none_path, here_hole}
use Rattle.letters.specs.declared.Tables.{Tables}

-- ---- the flag

empty_sequence : {L S : List ℕ} {a b : ℕ} {k : Kind} {v : Value} → ValueAt L S a b k v → code k ≡ 2 → MayHave k → (b ≡ 0 → word v ≡ []) × (word v ≡ [] → b ≡ 0)
empty_sequence {b = b} (a_sequence_value {f = f} x h) e m = (λ z. rw z (none_heads f), heads_none b f h)
empty_sequence (a_context_value x) e m = absurd (omega arith)
empty_sequence (another n) e m = absurd (n m)

bare_hole : {L S : List ℕ} {a b : ℕ} {k : Kind} {v : Value} → ValueAt L S a b k v → code k ≢ 2 → MayHave k → (a ≡ b → word v ≡ []) × (word v ≡ [] → a ≡ b)
bare_hole (a_sequence_value x h) n m = absurd (n refl)
bare_hole (a_context_value {c = c} x) n m = (λ e. ap path (hole_here x e) ∙ none_path, λ e. here_hole x (path_none c e))
bare_hole (another n) _ m = absurd (n m)

module _ (flag kind a b : ℕ) where
  pub not_flagged : flag ≢ 1 → ForbiddenPost flag kind a b false
  not_flagged n = record { is = λ L S k v e m x. says_no (λ p. n p.0) }

  pub sequence_flagged : flag ≡ 1 → kind ≡ 2 → ForbiddenPost flag kind a b (eqb b 0)
  sequence_flagged f q =
      record {
        is = λ L S k v e m x.
            let w = empty_sequence x (sym e ∙ q) m in
            says_equal b 0 (λ z. (f, w.0 z)) (λ p. w.1 p.1);
      }

  pub context_flagged : flag ≡ 1 → kind ≢ 2 → ForbiddenPost flag kind a b (eqb a b)
  context_flagged f n =
      record {
        is = λ L S k v e m x.
            let w = bare_hole x (λ z. n (e ∙ z)) m in
            says_equal a b (λ z. (f, w.0 z)) (λ p. w.1 p.1);
      }

-- ---- the constraint

module _ (L S : List ℕ) (tables : Tables) (start flag kind a b : ℕ) where
  abbrev Post : Bool → Type 0
  Post r = ObeysPost L S tables start flag kind a b r

  pub obeys_free : start ≡ 0 → Post true
  obeys_free z = record { is = λ es k c v t e p x. rw (pair_free p z).1 (says_yes tt) }

  module _ (some : start ≢ 0) {r : Bool} (post : ForbiddenPost flag kind a b r) where
    pub obeys_forbidden : r ≡ true → Post false
    obeys_forbidden t =
        record {
          is = λ es k c v _ e p x.
              let w = (post.is L S k v e (pair_may p some) x).0 t in
              rw (pair_bound p some).1 (says_no (λ o. o.1 w.0 w.1));
        }

    pub obeys_read : r ≡ false → {root next : ℕ} {end : Bool} → root ≡ start - 1
        → ((k : Kind) (v : Value) → kind ≡ code k → MayHave k → ValueAt L S a b k v → After tables root (word v) next end) → Post end
    obeys_read f {root} {next} {end} q after =
        record {
          is = λ es k c v t e p x.
              let m = pair_may p some in
              let y = pair_bound p some in
              let d = after_decides {e = y.0} (after k v e m x) t (rw q y.2) in
              rw y.1 (λ h. (d.0 h, λ one none. said_no (post.is L S k v e m x) f (one, none)), λ o. d.1 o.0);
        }

-- what is read
module _ (L S : List ℕ) (tables : Tables) (kind a b : ℕ) where
  pub heads_after : {root next : ℕ} {end : Bool} → kind ≡ 2
      → ((e : ℕ) (f : Forest) → TermsAt L S a e f → b ≤ terms f → After tables root (heads (take_t b f)) next end)
      → (k : Kind) (v : Value) → kind ≡ code k → MayHave k → ValueAt L S a b k v → After tables root (word v) next end
  heads_after {root} {next} {end} q after k v e m x = go x (sym e ∙ q) m
    where
      go : {k : Kind} {v : Value} → ValueAt L S a b k v → code k ≡ 2 → MayHave k → After tables root (word v) next end
      go (a_sequence_value {e = e} {f = f} x h) q m = after e f x h
      go (a_context_value x) q m = absurd (omega arith)
      go (another n) q m = absurd (n m)

  pub path_after : {root next : ℕ} {end : Bool} → kind ≢ 2
      → ((c : Context) → ContextAt L S a b c → After tables root (path c) next end)
      → (k : Kind) (v : Value) → kind ≡ code k → MayHave k → ValueAt L S a b k v → After tables root (word v) next end
  path_after {root} {next} {end} n after k v e m x = go x (λ z. n (e ∙ z)) m
    where
      go : {k : Kind} {v : Value} → ValueAt L S a b k v → code k ≢ 2 → MayHave k → After tables root (word v) next end
      go (a_sequence_value x h) n m = absurd (n refl)
      go (a_context_value {c = c} x) n m = after c x
      go (another n) _ m = absurd (n m)

-- what is asked of the rows
module _ {L S : List ℕ} {start flag kind a b : ℕ} (pre : ObeysPre L S start flag kind a b) (some : start ≢ 0) where
  pub heads_asked : {root : ℕ} → root ≡ start - 1 → kind ≡ 2 → HeadsPre L S root a b
  heads_asked {root} q z = go pre.some.6 (sym pre.some.4 ∙ z) (pair_may pre.some.5 some)
    where
      go : {k : Kind} {v : Value} → ValueAt L S a b k v → code k ≡ 2 → MayHave k → HeadsPre L S root a b
      go (a_sequence_value {e = e} {f = f} x h) _ m = record { low = omega (arith, pre.low); some = (e, f, x, h) }
      go (a_context_value x) q m = absurd (omega arith)
      go (another n) q m = absurd (n m)

  pub path_asked : {root : ℕ} → root ≡ start - 1 → kind ≢ 2 → PathPre L S root a b
  path_asked {root} q z = go pre.some.6 (λ e. z (pre.some.4 ∙ e)) (pair_may pre.some.5 some)
    where
      go : {k : Kind} {v : Value} → ValueAt L S a b k v → code k ≢ 2 → MayHave k → PathPre L S root a b
      go (a_sequence_value x h) n m = absurd (n refl)
      go (a_context_value {c = c} x) n m = record { low = omega (arith, pre.low); some = (c, x) }
      go (another n) _ m = absurd (n m)
