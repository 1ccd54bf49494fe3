-- 01, "What a matcher is" and "Numbers and order of checks": the substitution that a record means. "A record is bad if an individual or
-- function row isn't in the tree or its second number isn't 0; a sequence's start is over the tree's length, or its count of neighbouring
-- arguments isn't there (the root counts as one); a context's start isn't in the tree or its hole isn't in that subterm." And code 15:
-- "record not twice the variables long". So a record is good exactly if it means a substitution.
use Rattle.std.specs.Prelude.{ℕ, ◌+◌, ◌≤◌, ◌≡◌, List, [], ◌∷◌}
use Rattle.meaning.specs.Forest.{Forest, none, Term, term, ◌◂◌, ◌⊕◌, rows, terms, size, Context, plug, hole_row}
use Rattle.meaning.specs.Pattern.{Kind, an_individual, a_sequence, a_function, a_context}
use Rattle.meaning.specs.Matcher.{Value, of_individual, of_sequence, of_function, of_context}

-- the numbers a and b mean this value, at the tree T, for a variable of this kind: what fills the hole of c stands at its row
pub data PairMeans (T : Term) : Kind → ℕ → ℕ → Value → Type 0 where
  a_term : {a b : ℕ} (c : Context) (U : Term) → plug c U ≡ T → a ≡ hole_row c → b ≡ 0 → PairMeans T an_individual a b (of_individual U.label U.args)
  a_symbol : {a b : ℕ} (c : Context) (U : Term) → plug c U ≡ T → a ≡ hole_row c → b ≡ 0 → PairMeans T a_function a b (of_function U.label)
  a_context_value : {a b : ℕ} (c d : Context) (U : Term) → plug c (plug d U) ≡ T → a ≡ hole_row c → b ≡ a + hole_row d → PairMeans T a_context a b (of_context d)
  -- no terms, the root, or neighbours among the arguments of a term
  no_terms : {a b : ℕ} → a ≤ size T → b ≡ 0 → PairMeans T a_sequence a b (of_sequence none)
  the_root : {a b : ℕ} → a ≡ 0 → b ≡ 1 → PairMeans T a_sequence a b (of_sequence (T ◂ none))
  neighbours : {a b : ℕ} (c : Context) (l : ℕ) (left f right : Forest) → plug c (term l (left ⊕ f ⊕ right)) ≡ T → a ≡ hole_row c + 1 + rows left → b ≡ terms f
      → PairMeans T a_sequence a b (of_sequence f)

-- a pair for each variable, and no more
pub data RecordMeans (T : Term) : List Kind → List ℕ → List Value → Type 0 where
  no_pair : RecordMeans T [] [] []
  one_pair : {k : Kind} {Q : List Kind} {a b : ℕ} {r : List ℕ} {v : Value} {σ : List Value} → PairMeans T k a b v → RecordMeans T Q r σ → RecordMeans T (k ∷ Q) (a ∷ b ∷ r) (v ∷ σ)
