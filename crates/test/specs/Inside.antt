-- Not needed to believe the promise: what the private functions ask and answer.
use Rattle.std.specs.Prelude.{ℕ, ◌+◌, ◌<◌, ◌≤◌, ◌≡◌, Bool, List, length, get_or}
use Rattle.meaning.specs.Calls.{Says}
use Rattle.meaning.specs.Forest.{none, Term, ◌◂◌}
use Rattle.meaning.specs.Pattern.{Pattern, Kind, old, look}
use Rattle.meaning.specs.Read.{value_at, GoodRecord}
use Rattle.meaning.specs.Record.{IsRecord}
use Rattle.meaning.proofs.Next.{Any}
use Rattle.tree.specs.Rows.{GoodTree}
use Rattle.pattern.specs.Rows.{GoodPattern}
use Rattle.pattern.specs.Answer.{listed}
use Rattle.expression.specs.Expression.{Expression}
use Rattle.expression.specs.Rows.{GoodTable}
use Rattle.constraint.specs.Obeys.{Constraint, Allowed}
use Rattle.constraint.specs.Good.{GoodConstraints}
use Rattle.pattern.specs.declared.Variables.{Variables}
use Rattle.problem.specs.Problem.{Lists}
use Rattle.problem.specs.Allowing.{Allowing}
use Rattle.letters.specs.declared.Tables.{Tables}

-- a good tree, a good pattern, and a list of two numbers a variable
pub record Walkable (L S K N Z list : List ℕ) (T : Term) (P : Pattern) (Q : List Kind) : Type 0 where
  pub tree : GoodTree L S T
  pub pattern : GoodPattern K N Z P Q
  pub good : GoodRecord Q (T ◂ none) list

pub record WalkablePre (l : Lists) (list : List ℕ) : Type 0 where
  pub some : (T : Term) × (P : Pattern) × (Q : List Kind) × Walkable l.label l.size l.kind l.name l.pattern_size list T P Q

-- whether the list is the record of a substitution that turns the pattern into the tree
pub record PlacedPost (l : Lists) (list : List ℕ) (r : Bool) : Type 0 where
  pub is : (T : Term) (P : Pattern) (Q : List Kind) → Walkable l.label l.size l.kind l.name l.pattern_size list T P Q → Says r (IsRecord Any Q P T list)

-- the constraints of a problem and a good record
pub record Constrained (l : Lists) (kinds list : List ℕ) (T : Term) (Q : List Kind) (es : List Expression) (cs : List Constraint) : Type 0 where
  pub tree : GoodTree l.label l.size T
  pub few : length Q ≤ 16
  pub known : kinds ≡ listed Q
  pub table : GoodTable l.expression_kind l.expression_name l.expression_size es
  pub given : GoodConstraints es Q l.constraint cs
  pub good : GoodRecord Q (T ◂ none) list

pub record ConstrainedPre (l : Lists) (v : Variables) (list : List ℕ) : Type 0 where
  pub some : (T : Term) × (Q : List Kind) × (es : List Expression) × (cs : List Constraint) × Constrained l v.kinds list T Q es cs × (v.count ≡ length Q)

-- every variable below n may stand for the value that its numbers mean
pub record AllObey (Q : List Kind) (T : Term) (cs : List Constraint) (list : List ℕ) (n : ℕ) : Type 0 where
  pub each : (x : ℕ) (k : Kind) → x < n → look Q x ≡ old k → Allowed cs x (value_at k (T ◂ none) (get_or list (x + x) 0) (get_or list (x + x + 1) 0))

pub record ObeyedPost (l : Lists) (v : Variables) (list : List ℕ) (r : Bool) : Type 0 where
  pub is : (T : Term) (Q : List Kind) (es : List Expression) (cs : List Constraint) → Constrained l v.kinds list T Q es cs → Says r (AllObey Q T cs list (length Q))

-- the same with the tables of the expressions at hand
pub record AllPre (l : Lists) (tables : Tables) (v : Variables) (list : List ℕ) : Type 0 where
  pub some : (T : Term) × (Q : List Kind) × (es : List Expression) × (cs : List Constraint) × Allowing l.label l.size tables l.constraint v.kinds T Q es cs × GoodRecord Q (T ◂ none) list × (v.count ≡ length Q)

pub record AllPost (l : Lists) (tables : Tables) (v : Variables) (list : List ℕ) (r : Bool) : Type 0 where
  pub is : (T : Term) (Q : List Kind) (es : List Expression) (cs : List Constraint) → Allowing l.label l.size tables l.constraint v.kinds T Q es cs → GoodRecord Q (T ◂ none) list → v.count ≡ length Q
      → Says r (AllObey Q T cs list (length Q))
