-- 01, "What a matcher is" and "Numbers and order of checks": "The lister answers code, ending, records, tries."; it gives the codes 11 to
-- 14, and 19 (02, #104); "All other numbers in a refusal are 0", "A refusal writes nothing".
use Rattle.std.specs.Prelude.{ℕ, ◌≡◌, List, Result, Ok, Err}
use Rattle.meaning.specs.Forest.{Term}
use Rattle.meaning.specs.Pattern.{Pattern, Kind}
use Rattle.meaning.specs.Calls.{accept}
use Rattle.expression.specs.Expression.{Expression}
use Rattle.constraint.specs.Obeys.{Constraint, Allowed}
use Rattle.problem.specs.Problem.{Lists, Poses, Codes}
use Rattle.catalogue.specs.Listing.{Listing}
use Rattle.meaning.specs.Refusal.{code}
use Rattle.meaning.specs.Ending.{number}
use Rattle.meaning.specs.declared.refusal.Refusal.{Refusal}
use Rattle.search.specs.declared.Found.{Found}

-- an answer in 01's numbers
pub record Listed : Type 0 where
  pub code : ℕ
  pub ending : ℕ
  pub records : ℕ
  pub tries : ℕ

-- of lists that are accepted the code is 0, and a refusal is its code and nothing else
abbrev pub told : Result Found Refusal → Listed
told (Ok found) = record { code = 0; ending = number found.ending; records = found.records; tries = found.tries }
told (Err refusal) = record { code = code refusal; ending = 0; records = 0; tries = 0 }

-- what the lister promises of its answer and of the lent list, for any lists
pub record Settled (l : Lists) (budget : ℕ) (before : List ℕ) (r : Listed) (after : List ℕ) : Type 0 where
  -- the first code whose rule is broken
  pub code : Codes l accept r.code
  -- all matchers once, in order, as far as room and budget go
  pub listed : r.code ≡ 0 → (T : Term) (P : Pattern) (Q : List Kind) (es : List Expression) (cs : List Constraint) → Poses l T P Q es cs
      → Listing (Allowed cs) Q P T budget before r.ending r.records r.tries after
  -- nothing in a refusal
  pub refused : (r.code ≡ 0 → ⊥) → (r.ending ≡ 0) × (r.records ≡ 0) × (r.tries ≡ 0) × (after ≡ before)
