-- 02, #104, "Forgotten constraints": "A table holding an expression that no variable names is to be refused by the lister and the test."
use Rattle.std.specs.Prelude.{ℕ, suc, ◌+◌, ◌≡◌, List, get_or}
use Rattle.expression.specs.Expression.{Expression}
use Rattle.expression.specs.Rows.{StartsAt}

-- a variable x names the expression that starts at the row: the first of its two numbers is the row plus one. (Behind the list is no
-- variable, and 0 is read there.)
abbrev pub VariableNames : List ℕ → ℕ → Type 0
VariableNames list row = (x : ℕ) × (get_or list (x + x) 0 ≡ suc row)

-- every whole expression of the table is named, each where it starts: of two that are equal, both
pub record AllNamed (es : List Expression) (list : List ℕ) : Type 0 where
  pub each : (e : Expression) (row : ℕ) → StartsAt es e row → VariableNames list row
