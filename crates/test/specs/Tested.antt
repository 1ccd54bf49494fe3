-- 01, "What a matcher is" and "Numbers and order of checks": "The test answers yes exactly for records of matchers."; it gives the codes 11
-- to 14, then 19 (02, #104), then 15, and in a refusal "the test's yes or no is then no".
use Rattle.std.specs.Prelude.{ℕ, ◌≡◌, Bool, false, List, Result, Ok, Err}
use Rattle.meaning.specs.Calls.{Says, refuse, accept}
use Rattle.meaning.specs.Refusal.{code}
use Rattle.meaning.specs.declared.refusal.Refusal.{Refusal}
use Rattle.meaning.specs.Forest.{Term}
use Rattle.meaning.specs.Pattern.{Pattern, Kind}
use Rattle.meaning.specs.Record.{IsRecord}
use Rattle.record.specs.Good.{GoodRecordList}
use Rattle.expression.specs.Expression.{Expression}
use Rattle.constraint.specs.Obeys.{Constraint, Allowed}
use Rattle.problem.specs.Problem.{Lists, Poses, Codes}

-- 01's two numbers for each answer
abbrev pub code_of : Result Bool Refusal → ℕ
code_of (Ok answer) = 0
code_of (Err e) = code e

abbrev pub yes_of : Result Bool Refusal → Bool
yes_of (Ok answer) = answer
yes_of (Err e) = false

-- after the codes of the problem comes 15, then all is accepted
abbrev pub Fifteen : Lists → List ℕ → ℕ → Type 0
Fifteen l list = refuse 15 (GoodRecordList l.label l.size l.kind l.name l.pattern_size list) accept

-- what the test promises of its answer, for any lists
pub record TestSettled (l : Lists) (list : List ℕ) (r : Result Bool Refusal) : Type 0 where
  -- the first code whose rule is broken
  pub code : Codes l (Fifteen l list) (code_of r)
  -- yes if and only if it is the record of a matcher
  pub yes_or_no : code_of r ≡ 0 → (T : Term) (P : Pattern) (Q : List Kind) (es : List Expression) (cs : List Constraint) → Poses l T P Q es cs → Says (yes_of r) (IsRecord (Allowed cs) Q P T list)
  -- a refusal has a number
  pub numbered : (e : Refusal) → r ≡ Err e → code_of (Err e) ≡ 0 → ⊥
