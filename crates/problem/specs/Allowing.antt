-- Not needed to believe the promise: what is asked to judge one variable's numbers, and what is answered.
use Rattle.std.specs.Prelude.{ℕ, ◌≤◌, ◌≡◌, Bool, List, length}
use Rattle.meaning.specs.Calls.{Says}
use Rattle.meaning.specs.Forest.{none, Term, ◌◂◌}
use Rattle.meaning.specs.Pattern.{Kind, old, look}
use Rattle.meaning.specs.Read.{value_at, Fits}
use Rattle.tree.specs.Rows.{GoodTree}
use Rattle.pattern.specs.Answer.{listed}
use Rattle.expression.specs.Expression.{Expression}
use Rattle.expression.specs.Rows.{GoodTable}
use Rattle.letters.specs.declared.Tables.{Tables}
use Rattle.letters.specs.State.{TablesOf}
use Rattle.constraint.specs.Obeys.{Constraint, Allowed}
use Rattle.constraint.specs.Good.{GoodConstraints}

-- the lists and tables by which values are judged are those of this problem
pub record Allowing (L S : List ℕ) (tables : Tables) (list kinds : List ℕ) (T : Term) (Q : List Kind) (es : List Expression) (cs : List Constraint) : Type 0 where
  pub tree : GoodTree L S T
  pub few : length Q ≤ 16
  pub known : kinds ≡ listed Q
  pub table : (kind_rows : List ℕ) × (name_rows : List ℕ) × (size_rows : List ℕ) × GoodTable kind_rows name_rows size_rows es
  pub read : TablesOf es tables
  pub given : GoodConstraints es Q list cs

-- the numbers a and b are good for the variable x
pub record AllowedPre (L S : List ℕ) (tables : Tables) (list kinds : List ℕ) (x a b : ℕ) : Type 0 where
  pub some : (T : Term) × (Q : List Kind) × (es : List Expression) × (cs : List Constraint) × (k : Kind)
      × Allowing L S tables list kinds T Q es cs × (look Q x ≡ old k) × Fits k (T ◂ none) a b

-- the answer says whether the variable may stand for the value that they mean
pub record AllowedPost (L S : List ℕ) (tables : Tables) (list kinds : List ℕ) (x a b : ℕ) (r : Bool) : Type 0 where
  pub is : (T : Term) (Q : List Kind) (es : List Expression) (cs : List Constraint) (k : Kind)
      → Allowing L S tables list kinds T Q es cs → look Q x ≡ old k → Fits k (T ◂ none) a b → Says r (Allowed cs x (value_at k (T ◂ none) a b))
