-- "With room for one and ending 0 a list has a record if and only if some substitution solves": of every answer that keeps the lister's
-- promise, whatever lists it. And what the client's answers come to.
use Rattle.std.specs.Prelude.{ℕ, zero, suc, ◌≤◌, ◌≡◌, ◌↔◌, List, length, Result, Ok}
use Rattle.meaning.specs.Forest.{Term}
use Rattle.meaning.specs.Pattern.{Pattern, Kind}
use Rattle.meaning.specs.Matcher.{Value, Solves}
use Rattle.meaning.specs.declared.refusal.Refusal.{Refusal}
use Rattle.expression.specs.Expression.{Expression}
use Rattle.constraint.specs.Obeys.{Constraint, Allowed}
use Rattle.problem.specs.Problem.{Lists, Poses}
use Rattle.catalogue.specs.Listing.{Tries}
use Rattle.catalogue.specs.Answer.{at_most, room_of}
use Rattle.lister.specs.Listed as Lister
use Rattle.lister.specs.Listed.{Listed}
use Rattle.client.specs.Solvable.{Answer, Yes, Open, told, Settled}
use Rattle.client.specs.declared.HasMatcher.{HasMatcher}
use Rattle.client.specs.declared.HasMatcher.TheVariants as HasMatcher

-- a lent list has room for one record and no more; a record without variables has no numbers, and any list has room for it
abbrev pub ForOne : (lent variables : ℕ) → Type 0
ForOne lent zero = Unit {0}
ForOne lent (suc v) = room_of lent (suc v) ≡ at_most 1

pub record HasOne (Q : List Kind) (P : Pattern) (T : Term) (cs : List Constraint) (r : Listed) : Type 0 where
  pub has : (r.records ≡ 0 → ⊥) ↔ ((σ : List Value) × Solves (Allowed cs) Q σ P T)
  pub one : r.records ≤ 1

abbrev pub RoomForOne : Type 0
RoomForOne =
    (l : Lists) (budget : ℕ) (before after : List ℕ) (r : Listed) (T : Term) (P : Pattern) (Q : List Kind) (es : List Expression) (cs : List Constraint)
    → Lister.Settled l budget before r after → r.code ≡ 0 → Poses l T P Q es cs → ForOne (length before) (length Q) → r.ending ≡ 0 → HasOne Q P T cs r

-- there is one answer
abbrev pub OneAnswer : Type 0
OneAnswer = (l : Lists) (budget : ℕ) (r s : Result HasMatcher Refusal) → Settled l budget (told r) → Settled l budget (told s) → r ≡ s

-- .. and one that is told, whatever number a refusal has
abbrev pub OneTold : Type 0
OneTold = (l : Lists) (budget : ℕ) (r s : Answer) → Settled l budget r → Settled l budget s → r ≡ s

-- with a budget for all tries the question is never left open, and yes is answered if and only if some substitution solves
abbrev pub Decides : Type 0
Decides =
    (l : Lists) (budget : ℕ) (r : Result HasMatcher Refusal) (T : Term) (P : Pattern) (Q : List Kind) (es : List Expression) (cs : List Constraint) (tries : List (List ℕ))
    → Settled l budget (told r) → Poses l T P Q es cs → Tries (Allowed cs) Q P T tries → length tries ≤ budget
    → (r ≡ Ok HasMatcher.Open → ⊥) × ((r ≡ Ok HasMatcher.Yes) ↔ ((σ : List Value) × Solves (Allowed cs) Q σ P T))

-- .. of what is told
abbrev pub DecidesTold : Type 0
DecidesTold =
    (l : Lists) (budget : ℕ) (r : Answer) (T : Term) (P : Pattern) (Q : List Kind) (es : List Expression) (cs : List Constraint) (tries : List (List ℕ))
    → Settled l budget r → Poses l T P Q es cs → Tries (Allowed cs) Q P T tries → length tries ≤ budget
    → (r ≡ Open → ⊥) × ((r ≡ Yes) ↔ ((σ : List Value) × Solves (Allowed cs) Q σ P T))

pub record Client : Type 0 where
  pub room_for_one : RoomForOne
  pub one_answer : OneAnswer
  pub one_told : OneTold
  pub decides : Decides
  pub decides_told : DecidesTold
