-- 01, "What a matcher is": "It is a matcher if the pattern under it equals the tree and every constraint holds."; the lister stops "with 2
-- when a try is needed and the budget is spent". Here: is there a matcher at all, as far as the budget tells.
use Rattle.std.specs.Prelude.{ℕ, ◌≤◌, ◌<◌, ◌≡◌, List, length, Result, Ok, Err}
use Rattle.meaning.specs.Forest.{Term}
use Rattle.meaning.specs.Pattern.{Pattern, Kind}
use Rattle.meaning.specs.Matcher.{Value, Solves}
use Rattle.meaning.specs.Record.{record_of}
use Rattle.meaning.specs.Order.{choices}
use Rattle.meaning.specs.Calls.{accept}
use Rattle.expression.specs.Expression.{Expression}
use Rattle.constraint.specs.Obeys.{Constraint, Allowed}
use Rattle.problem.specs.Problem.{Lists, Poses, Codes}
use Rattle.catalogue.specs.Listing.{Tries}
use Rattle.catalogue.specs.Answer.{place}
use Rattle.meaning.specs.Refusal.{code}
use Rattle.meaning.specs.declared.refusal.Refusal.{Refusal}
use Rattle.client.specs.declared.HasMatcher.{HasMatcher}
use Rattle.client.specs.declared.HasMatcher.TheVariants as HasMatcher

-- an answer, a refusal by its code
pub data Answer : Type 0 where
  Refused : ℕ → Answer
  Yes : Answer
  No : Answer
  Open : Answer

abbrev pub answer : HasMatcher → Answer
answer HasMatcher.Yes = Yes
answer HasMatcher.No = No
answer HasMatcher.Open = Open

abbrev pub told : Result HasMatcher Refusal → Answer
told (Ok a) = answer a
told (Err e) = Refused (code e)

-- 01's code for each answer
abbrev pub code_of : Answer → ℕ
code_of (Refused code) = code
code_of Yes = 0
code_of No = 0
code_of Open = 0

-- some substitution solves, and the budget is enough for the tries that reach it
pub record Found (Allowed : ℕ → Value → Type 0) (Q : List Kind) (P : Pattern) (T : Term) (budget : ℕ) : Type 0 where
  pub matcher : List Value
  pub solves : Solves Allowed Q matcher P T
  pub tries : List (List ℕ)
  pub tries_are : Tries Allowed Q P T tries
  pub reached : place tries (choices Q (record_of P matcher)) ≤ budget

-- no substitution solves, and the budget is enough for all tries
pub record Absent (Allowed : ℕ → Value → Type 0) (Q : List Kind) (P : Pattern) (T : Term) (budget : ℕ) : Type 0 where
  pub none : (σ : List Value) → Solves Allowed Q σ P T → ⊥
  pub tries : List (List ℕ)
  pub tries_are : Tries Allowed Q P T tries
  pub enough : length tries ≤ budget

-- the tries are more than the budget, and no matcher is reached within it
pub record Unknown (Allowed : ℕ → Value → Type 0) (Q : List Kind) (P : Pattern) (T : Term) (budget : ℕ) : Type 0 where
  pub more : (tries : List (List ℕ)) → Tries Allowed Q P T tries → budget < length tries
  pub not_found : Found Allowed Q P T budget → ⊥

-- what each answer says of the problem that the lists pose; a refusal is made of no such lists
abbrev pub Means : Answer → (ℕ → Value → Type 0) → List Kind → Pattern → Term → ℕ → Type 0
Means (Refused code) Allowed Q P T budget = ⊥
Means Yes Allowed Q P T budget = Found Allowed Q P T budget
Means No Allowed Q P T budget = Absent Allowed Q P T budget
Means Open Allowed Q P T budget = Unknown Allowed Q P T budget

pub record Settled (l : Lists) (budget : ℕ) (r : Answer) : Type 0 where
  -- the first code whose rule is broken
  pub code : Codes l accept (code_of r)
  pub answered : code_of r ≡ 0 → (T : Term) (P : Pattern) (Q : List Kind) (es : List Expression) (cs : List Constraint) → Poses l T P Q es cs → Means r (Allowed cs) Q P T budget
