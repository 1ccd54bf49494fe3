-- 01, "What a matcher is": "A substitution gives each individual a ground term, each sequence variable a sequence of ground
-- terms, each function variable a symbol and each context variable a ground term with one hole."
use Rattle.std.specs.Prelude.{ℕ, List, [], ◌∷◌, ◌≡◌, get_or}
use Rattle.meaning.specs.Forest.{Forest, none, Term, term, Context, hole, ◌◂◌, ◌⊕◌, plug}
use Rattle.meaning.specs.Pattern.{Kind, an_individual, a_sequence, a_function, a_context, old, look, Pattern, symbol, individual, function, context, Patterns, nil, cons, sequence}

pub data Value : Type 0 where
  of_individual : (label : ℕ) (args : Forest) → Value
  of_sequence : Forest → Value
  of_function : (label : ℕ) → Value
  of_context : Context → Value
  deriving Discrete as Value-discrete

abbrev pub kind : Value → Kind
kind (of_individual l us) = an_individual
kind (of_sequence f) = a_sequence
kind (of_function l) = a_function
kind (of_context c) = a_context

-- a substitution is the list of its variables' values, by number
abbrev pub kinds : List Value → List Kind
kinds [] = []
kinds (v ∷ σ) = kind v ∷ kinds σ

-- the value of x (and anything where there is none)
abbrev pub at : List Value → ℕ → Value
at σ x = get_or σ x (of_function 0)

-- the value as what its kind says it is (and anything where it is of another kind)
abbrev pub as_term : Value → Term
as_term (of_individual l us) = term l us
as_term (of_sequence f) = term 0 none
as_term (of_function l) = term 0 none
as_term (of_context c) = term 0 none

abbrev pub as_forest : Value → Forest
as_forest (of_individual l us) = none
as_forest (of_sequence f) = f
as_forest (of_function l) = none
as_forest (of_context c) = none

abbrev pub as_symbol : Value → ℕ
as_symbol (of_individual l us) = 0
as_symbol (of_sequence f) = 0
as_symbol (of_function l) = l
as_symbol (of_context c) = 0

abbrev pub as_context : Value → Context
as_context (of_individual l us) = hole
as_context (of_sequence f) = hole
as_context (of_function l) = hole
as_context (of_context c) = c

-- "the pattern under it": the instance of a pattern under a substitution
unfoldable mutual
  pub apply : List Value → Pattern → Term
  apply σ (symbol f ps) = term f (apply_all σ ps)
  apply σ (individual x) = as_term (at σ x)
  apply σ (function x ps) = term (as_symbol (at σ x)) (apply_all σ ps)
  apply σ (context x q) = plug (as_context (at σ x)) (apply σ q)

  pub apply_all : List Value → Patterns → Forest
  apply_all σ nil = none
  apply_all σ (cons q ps) = apply σ q ◂ apply_all σ ps
  apply_all σ (sequence x ps) = as_forest (at σ x) ⊕ apply_all σ ps

-- "It is a matcher if the pattern under it equals the tree and every constraint holds."
-- σ has values of the kinds Q, turns P into T, and every value is allowed: `Allowed x v` is the constraint of the variable x
pub record Solves (Allowed : ℕ → Value → Type 0) (Q : List Kind) (σ : List Value) (P : Pattern) (T : Term) : Type 0 where
  pub right : kinds σ ≡ Q
  pub equal : apply σ P ≡ T
  pub allowed : (x : ℕ) (v : Value) → look σ x ≡ old v → Allowed x v
