-- 01, "Patterns and constraints": a variable's constraint, an expression and "the flag of 000 (1 forbids the empty sequence or bare
-- hole)"; and "What a matcher is": "every constraint holds".
use Rattle.std.specs.Prelude.{ℕ, List, [], ◌∷◌, ◌≡◌, get_or}
use Rattle.meaning.specs.Forest.{Forest, none, some, Context, hole, node}
use Rattle.meaning.specs.Matcher.{Value, of_individual, of_sequence, of_function, of_context}
use Rattle.expression.specs.Expression.{Expression, In}

-- "A sequence is judged by the heads of its terms, a context by the labels on its path from its head to the hole, hole left out."
unfoldable pub heads : Forest → List ℕ
heads none = []
heads (some l us rest) = l ∷ heads rest

unfoldable pub path : Context → List ℕ
path hole = []
path (node l left c right) = l ∷ path c

-- the word by which a value is judged (the others are never judged)
abbrev pub word : Value → List ℕ
word (of_individual l us) = []
word (of_sequence f) = heads f
word (of_function l) = []
word (of_context c) = path c

pub data Constraint : Type 0 where
  free : Constraint
  bound : (e : Expression) (flag : ℕ) → Constraint

-- the word is in the language, and is not empty where the flag is 1
abbrev pub Obeys : Constraint → Value → Type 0
Obeys free v = Unit {0}
Obeys (bound e flag) v = In e (word v) × (flag ≡ 1 → word v ≡ [] → ⊥)

-- what the constraints allow x to stand for, one without a constraint anything: this is the parameter of `Solves` and `Reached`
abbrev pub Allowed : List Constraint → ℕ → Value → Type 0
Allowed cs x v = Obeys (get_or cs x free) v
