-- 01, "What a matcher is": "let a first appearance of a sequence or context variable be reached, that is, all of the pattern to
-- its left matches and earlier constraints hold. Each value is one try: counts 0 up to the terms remaining in that argument
-- list, or hole rows from the start to the subterm's last row".
use Rattle.std.specs.Prelude.{ℕ, ◌+◌, ◌≡◌, List, ◌++◌, length}
use Rattle.meaning.specs.Forest.{Forest, some, Term, term, rows, terms, size, ◌⊕◌, Context, plug, hole_row}
use Rattle.meaning.specs.Pattern.{Pattern, symbol, function, context, Patterns, cons, sequence, Kind, old, new, look, after_t}
use Rattle.meaning.specs.Matcher.{Value, of_sequence, of_function, of_context, kinds, apply}

-- l begins with b
pub record Begins {A : Type 0} (b l : List A) : Type 0 where
  pub rest : List A
  pub is : l ≡ b ++ rest

-- σ has the values of the variables that come before. This part of the pattern matches up to the next sequence or context
-- variable, whose values are lo .. hi; t is the row at which the term, or the list of terms, starts.
mutual
  pub data UntilT (σ : List Value) : Pattern → Term → ℕ → ℕ → ℕ → Type 0 where
    in_symbol : {f : ℕ} {ps : Patterns} {T : Term} {t lo hi : ℕ} → f ≡ T.label → UntilF σ ps T.args (t + 1) lo hi → UntilT σ (symbol f ps) T t lo hi
    in_function : {x : ℕ} {ps : Patterns} {T : Term} {t lo hi : ℕ} → look σ x ≡ old (of_function T.label) → UntilF σ ps T.args (t + 1) lo hi → UntilT σ (function x ps) T t lo hi
    in_context : {x : ℕ} {q : Pattern} {T : Term} {t lo hi : ℕ} (c : Context) (U : Term) → look σ x ≡ old (of_context c) → plug c U ≡ T → UntilT σ q U (t + hole_row c) lo hi
        → UntilT σ (context x q) T t lo hi
    here_context : {x : ℕ} {q : Pattern} {T : Term} {t lo hi : ℕ} → look σ x ≡ new → t ≡ lo → t + rows T.args ≡ hi → UntilT σ (context x q) T t lo hi

  pub data UntilF (σ : List Value) : Patterns → Forest → ℕ → ℕ → ℕ → Type 0 where
    in_first : {q : Pattern} {ps : Patterns} {l : ℕ} {us rest : Forest} {t lo hi : ℕ} → UntilT σ q (term l us) t lo hi → UntilF σ (cons q ps) (some l us rest) t lo hi
    in_rest : {q : Pattern} {ps : Patterns} {l : ℕ} {us rest : Forest} {t lo hi : ℕ} → after_t q (length σ) ≡ length σ → apply σ q ≡ term l us
        → UntilF σ ps rest (t + size (term l us)) lo hi → UntilF σ (cons q ps) (some l us rest) t lo hi
    in_sequence : {x : ℕ} {ps : Patterns} {us : Forest} {t lo hi : ℕ} (f rest : Forest) → look σ x ≡ old (of_sequence f) → f ⊕ rest ≡ us → UntilF σ ps rest (t + rows f) lo hi
        → UntilF σ (sequence x ps) us t lo hi
    here_sequence : {x : ℕ} {ps : Patterns} {us : Forest} {t lo hi : ℕ} → look σ x ≡ new → 0 ≡ lo → terms us ≡ hi → UntilF σ (sequence x ps) us t lo hi

pub record Reached (Allowed : ℕ → Value → Type 0) (Q : List Kind) (σ : List Value) (P : Pattern) (T : Term) (lo hi : ℕ) : Type 0 where
  pub right : Begins (kinds σ) Q
  pub allowed : (x : ℕ) (v : Value) → look σ x ≡ old v → Allowed x v
  pub matched : UntilT σ P T 0 lo hi
