-- Not needed to believe the promise: what is known of a problem that has been checked, and why no page is taken from a record.
use Rattle.std.specs.Prelude.{ℕ, true, false, List, Ok}
use Rattle.record.specs.Pairs.{RecordPost}
use Rattle.problem.specs.Problem.{Lists}
use Rattle.problem.specs.Answer.{Answered}
use Rattle.problem.specs.Answer.{told}
use Rattle.pattern.specs.declared.Variables.{Variables}
use Rattle.meaning.specs.declared.refusal.Refusal.{Refusal}
use Rattle.meaning.specs.declared.refusal.Refusal.TheVariants.{Record, NoMatcher}

-- the lists are accepted, and these are the pattern's variables
abbrev pub Checked : Lists → Variables → Type 0
Checked l variables = Answered l (told (Ok variables))

-- which of the two a record is from which no page is taken
pub data NoPage (S kinds : List ℕ) (variables : ℕ) (list : List ℕ) : Refusal → Type 0 where
  bad : RecordPost S kinds variables list false → NoPage S kinds variables list Record
  of_none : RecordPost S kinds variables list true → NoPage S kinds variables list NoMatcher
