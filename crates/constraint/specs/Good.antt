-- 01, "Patterns and constraints": "The constraint list has two numbers for each variable: first row of a top-level expression plus
-- one, or 0 for none; and the flag of 000 .. With none, the flag is 0. Only sequence and context variables may have one."
use Rattle.std.specs.Prelude.{ℕ, suc, ◌≤◌, List, [], ◌∷◌}
use Rattle.meaning.specs.Pattern.{Kind, an_individual, a_sequence, a_function, a_context, Pattern}
use Rattle.expression.specs.Expression.{Expression}
use Rattle.expression.specs.Rows.{StartsAt, GoodTable}
use Rattle.constraint.specs.Obeys.{Constraint, free, bound}
use Rattle.pattern.specs.Rows.{GoodPattern}

-- only sequence and context variables may have a constraint
abbrev pub MayHave : Kind → Type 0
MayHave an_individual = ⊥
MayHave a_sequence = Unit {0}
MayHave a_function = ⊥
MayHave a_context = Unit {0}

-- the list gives these constraints to the variables of these kinds, es being the expressions of the table
pub data GoodConstraints (es : List Expression) : List Kind → List ℕ → List Constraint → Type 0 where
  all_given : GoodConstraints es [] [] []
  none_given : {k : Kind} {Q : List Kind} {list : List ℕ} {cs : List Constraint} → GoodConstraints es Q list cs → GoodConstraints es (k ∷ Q) (0 ∷ 0 ∷ list) (free ∷ cs)
  one_given : {k : Kind} {Q : List Kind} {list : List ℕ} {cs : List Constraint} {e : Expression} {row flag : ℕ}
      → MayHave k → StartsAt es e row → flag ≤ 1 → GoodConstraints es Q list cs → GoodConstraints es (k ∷ Q) (suc row ∷ flag ∷ list) (bound e flag ∷ cs)

-- 01, "Numbers and order of checks": code 14, "constraint list bad or not twice the variables long", for the variables of the
-- pattern and the expressions of the table.
-- The lists of a pattern, of an expression table and of constraints mean these
pub record ListsMean (kind name size kinds names sizes list : List ℕ) (P : Pattern) (Q : List Kind) (es : List Expression) (cs : List Constraint) : Type 0 where
  pub pattern : GoodPattern kind name size P Q
  pub table : GoodTable kinds names sizes es
  pub constraints : GoodConstraints es Q list cs

-- all three are good
abbrev pub GoodConstraintList : List ℕ → List ℕ → List ℕ → List ℕ → List ℕ → List ℕ → List ℕ → Type 0
GoodConstraintList kind name size kinds names sizes list = (P : Pattern) × (Q : List Kind) × (es : List Expression) × (cs : List Constraint) × ListsMean kind name size kinds names sizes list P Q es cs
