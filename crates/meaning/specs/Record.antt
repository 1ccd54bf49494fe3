-- 01, "What a matcher is": "A record has two numbers per variable, at its first appearance in the pattern."
use Rattle.std.specs.Prelude.{ℕ, ◌+◌, List, [], ◌∷◌, ◌++◌, ◌≡◌, cond, eqb, length}
use Rattle.meaning.specs.Forest.{rows, terms, size, hole_row, Term}
use Rattle.meaning.specs.Pattern.{Pattern, symbol, individual, function, context, Patterns, nil, cons, sequence, Kind}
use Rattle.meaning.specs.Matcher.{Value, of_individual, of_sequence, of_function, of_context, at, as_forest, as_context, apply, Solves}

-- a variable's value, and how many rows of the instance stand before its first appearance. This number is 01's place: the row
-- of an individual, a symbol or a context, the row where a sequence starts, and for one that starts at the list's end
-- the row behind the term that holds the list.
pub record Entry : Type 0 where
  pub value : Value
  pub row : ℕ

abbrev pub entry : Value → ℕ → Entry
entry v t = record { value = v; row = t }

-- the second number, for a value that starts at the row t: 0, the count of terms, or the row of the hole
abbrev pub second : Value → ℕ → ℕ
second (of_individual l us) t = 0
second (of_sequence f) t = terms f
second (of_function l) t = 0
second (of_context c) t = t + hole_row c

abbrev pub numbers : List Entry → List ℕ
numbers [] = []
numbers (e ∷ B) = e.row ∷ second e.value e.row ∷ numbers B

-- x is noted where it is the next variable to appear: B are those that have
abbrev pub note : ℕ → Value → ℕ → List Entry → List Entry
note x v t B = cond (eqb x (length B)) (B ++ (entry v t ∷ [])) B

-- the first appearances in preorder; t is the row at which the instance of this part of the pattern starts
unfoldable mutual
  pub firsts_t : List Value → Pattern → ℕ → List Entry → List Entry
  firsts_t σ (symbol f ps) t B = firsts_f σ ps (t + 1) B
  firsts_t σ (individual x) t B = note x (at σ x) t B
  firsts_t σ (function x ps) t B = firsts_f σ ps (t + 1) (note x (at σ x) t B)
  firsts_t σ (context x q) t B = firsts_t σ q (t + hole_row (as_context (at σ x))) (note x (at σ x) t B)

  pub firsts_f : List Value → Patterns → ℕ → List Entry → List Entry
  firsts_f σ nil t B = B
  firsts_f σ (cons q ps) t B = firsts_f σ ps (t + size (apply σ q)) (firsts_t σ q t B)
  firsts_f σ (sequence x ps) t B = firsts_f σ ps (t + rows (as_forest (at σ x))) (note x (at σ x) t B)

-- the record of a substitution
abbrev pub record_of : Pattern → List Value → List ℕ
record_of P σ = numbers (firsts_t σ P 0 [])

-- Demand 2: "A record is called a matcher exactly when its substitution turns the pattern into the tree, obeys every constraint, and is
-- recorded at the places that the rules name."
pub record IsRecord (Allowed : ℕ → Value → Type 0) (Q : List Kind) (P : Pattern) (T : Term) (r : List ℕ) : Type 0 where
  pub matcher : List Value
  pub solves : Solves Allowed Q matcher P T
  pub its : record_of P matcher ≡ r
