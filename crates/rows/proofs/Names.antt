-- A run that is empty, and a name that stands again.
use mathlib.Core.Path.{◌≡◌, refl, sym, ap, ◌∙◌}
use mathlib.Core.Bool.{Bool, true, false, true≢false}
use mathlib.Core.List.{List}
use Prim.Native.Nat.{ℕ, ◌+◌, ◌-◌, ◌≤◌, ◌<◌}
use native.Mathlib.Omega.{arith}
use lib.Dec.{ltb}
use lib.ListN.{length, get_or, get_or-eq_default}
use borrow.Author.Tests.{ltb-true, ltb-false, eq-eqb}
use Rattle.grammar.specs.Classes.{white, name_byte, class_number}
use Rattle.grammar.specs.Grammar.{Bytes}
use Rattle.grammar.specs.Tokens.{Level}
use Rattle.grammar.specs.Machine.{may_follow}
use Rattle.grammar.proofs.Theory.{not_less}
use Rattle.tokens.specs.Tokens.{Span, bytes, white_at, name_at, same_at, level_of, run_at}
use Rattle.judge.specs.Tags.{RunTo}
use Rattle.tokens.proofs.Spans.{passed_none, same_yes, same_ended}
use Rattle.words.specs.Words.{Again}
use Rattle.std.specs.Prelude.{Ok}
use Rattle.rows.specs.Turns.{RunDone, to_tag, passed_over}
use Rattle.rows.specs.declared.note.Ran.TheVariants.{Tag}
use native.Mathlib.Nat.{add-zero}

pub empty_run : {w : List ℕ} (depth a : ℕ) → a ≤ length w → get_or w a 0 ≡ 60 → RunTo w depth a a 0
unfolding run_at bytes
empty_run {w} depth a h e =
    let z : a - a ≡ 0 = omega arith in
    record {
      span = record { passed = passed_none (run_at (level_of depth) w a) w a h; stop = λ p. ends (level_of depth) (bytes w a (a - a)) (may_follow (level_of depth) (bytes w a (a - a)) (get_or w a 0)) refl };
      makes = rw z refl;
      outside = λ d. refl;
      few = omega arith;
    }
  where
    ends : (l : Level) (s : Bytes) (y : Bool) → may_follow l s (get_or w a 0) ≡ y → y ≡ false
    ends l s true q = absurd (true≢false (sym (eq-eqb (get_or w a 0) 60 e) ∙ not_less l s (get_or w a 0) q))
    ends l s false q = refl

-- a tag stands at once, and nothing is put
pub at_once : {w : List ℕ} (S L Z : List ℕ) (depth row i : ℕ) → row ≤ 2048 → i ≤ length w → get_or w i 0 ≡ 60 → depth ≤ 64 → RunDone w S L Z depth row i S L Z (Ok (Tag row i))
at_once {w} S L Z depth row i few h less shallow =
    let done : RunDone w S L Z depth row i S L Z (Ok (Tag (row + 0) i)) = to_tag few (empty_run depth i h less) (passed_over refl) less (omega arith) in
    rw add-zero at done

-- a tag that ends at once has no white space
pub shut_at_once : {w : List ℕ} {e : ℕ} → e ≤ length w → get_or w e 0 ≡ 62 → Span (white_at w) w e e
unfolding white class_number
shut_at_once {w} {e} h q = record { passed = passed_none (white_at w) w e h; stop = λ p. ap white q }

module _ {w : List ℕ} {name size a : ℕ} (named : Span (name_at w) w name (name + size)) (in_w : a + size ≤ length w) (again : Again w name w a size) where
  name_stops : name_byte (get_or w (name + size) 0) ≡ false
  unfolding name_byte class_number
  name_stops = go (ltb (name + size) (length w)) refl
    where
      go : (t : Bool) → ltb (name + size) (length w) ≡ t → name_byte (get_or w (name + size) 0) ≡ false
      go true q = named.stop (ltb-true (name + size) (length w) q)
      go false q = ap name_byte (get_or-eq_default w 0 (ltb-false (name + size) (length w) q))

  pub name_whole : name_byte (get_or w (name + (a + size - a)) 0) ≡ false
  name_whole = let z : a + size - a ≡ size = omega arith in rw z name_stops

  pub name_again : Span (same_at w name a) w a (a + size)
  name_again = record {
    passed = record { from = omega arith; within = in_w; each = λ k p q. each k p q };
    stop = λ p. same_ended w name a (a + size) (name + (a + size - a)) _ refl refl name_whole;
  }
    where
      each : (k : ℕ) → a ≤ k → k < a + size → same_at w name a k ≡ true
      each k p q =
          let z : a + (k - a) ≡ k = omega arith in
          same_yes w name a k (name + (k - a)) (get_or w (name + (k - a)) 0) refl refl (named.passed.each (name + (k - a)) (omega arith) (omega arith))
          (rw z at (again.each (k - a) (omega arith)))
