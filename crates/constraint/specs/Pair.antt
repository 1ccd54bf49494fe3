-- Not needed to believe the promise: one variable's two numbers, and what the pattern's check tells of the variables, for the
-- contracts of functions that only our own crates call.
use Rattle.std.specs.Prelude.{ℕ, suc, ◌≤◌, ◌≡◌, List, length}
use Rattle.meaning.specs.Pattern.{Kind}
use Rattle.pattern.specs.Known.{KindsAre}
use Rattle.expression.specs.Expression.{Expression}
use Rattle.expression.specs.Rows.{StartsAt, GoodTable}
use Rattle.expression.specs.Columns.{size_rows}
use Rattle.constraint.specs.Obeys.{Constraint, free, bound}
use Rattle.constraint.specs.Good.{MayHave, GoodConstraints}

-- the numbers give this constraint to a variable of the kind k
pub data Pair (es : List Expression) (k : Kind) : ℕ → ℕ → Constraint → Type 0 where
  no_pair : Pair es k 0 0 free
  a_pair : {e : Expression} {row flag : ℕ} → MayHave k → StartsAt es e row → flag ≤ 1 → Pair es k (suc row) flag (bound e flag)

-- what the check of the list asks: a good pattern's variables, and a good table's sizes
pub record GivenPre (variables : ℕ) (kinds size : List ℕ) : Type 0 where
  pub variable : (Q : List Kind) × KindsAre Q variables kinds
  pub table : (es : List Expression) × (size ≡ size_rows es)

-- what the check of the names asks: a good table's sizes, and a good list for them
pub record NamedPre (variables : ℕ) (size list : List ℕ) : Type 0 where
  pub some : (kind : List ℕ) × (name : List ℕ) × (es : List Expression) × (Q : List Kind) × (cs : List Constraint)
      × GoodTable kind name size es × GoodConstraints es Q list cs × (variables ≡ length Q)
