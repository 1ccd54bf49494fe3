-- 01, "What the contracts have to decide": the pattern check's result on all inputs. The number of variables and their kinds are
-- those of 01, "Patterns and constraints": "Variable numbers are 0, 1, .. by first appearance over all kinds; a number has one kind."
use Rattle.std.specs.Prelude.{ℕ, ◌-◌, ◌≡◌, false, List, [], ◌∷◌, ◌++◌, length, replicate}
use Rattle.meaning.specs.Calls.{Says}
use Rattle.meaning.specs.Pattern.{Pattern, Kind}
use Rattle.pattern.specs.Rows.{code, GoodPattern, GoodPatternRows}
use Rattle.pattern.specs.declared.Checked.{Checked}

unfoldable pub codes : List Kind → List ℕ
codes [] = []
codes (k ∷ Q) = code k ∷ codes Q

-- the kinds' numbers, then zeros up to 16
unfoldable pub listed : List Kind → List ℕ
listed Q = codes Q ++ replicate (16 - length Q) 0

pub record PatternSettled (kind name size : List ℕ) (r : Checked) : Type 0 where
  pub judged : Says r.good (GoodPatternRows kind name size)
  pub found : (P : Pattern) (Q : List Kind) → GoodPattern kind name size P Q → (r.variables ≡ length Q) × (r.kinds ≡ listed Q)
  pub refused : r.good ≡ false → (r.variables ≡ 0) × (r.kinds ≡ listed [])
