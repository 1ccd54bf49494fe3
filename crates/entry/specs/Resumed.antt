-- Not needed to believe the promise: what the search asks and answers from a record on.
use Rattle.std.specs.Prelude.{ℕ, ◌+◌, ◌*◌, ◌≤◌, ◌≡◌, List, ◌∷◌, length, Option, Some, None}
use Rattle.meaning.specs.Forest.{Term}
use Rattle.meaning.specs.Pattern.{Pattern, Kind}
use Rattle.meaning.specs.Record.{IsRecord}
use Rattle.meaning.specs.Order.{choices}
use Rattle.expression.specs.Expression.{Expression}
use Rattle.constraint.specs.Obeys.{Constraint, Allowed}
use Rattle.constraint.proofs.Allowed.{allowed?}
use Rattle.catalogue.proofs.Events.{Event, matched}
use Rattle.catalogue.proofs.Fill.{fill}
use Rattle.catalogue.proofs.Later.{Later}
use Rattle.catalogue.proofs.Whole.{all}
use Rattle.page.specs.Page.{ReachAsked}
use Rattle.meaning.specs.Ending.{number}
use Rattle.search.specs.declared.Found.{Found}
use Rattle.letters.specs.declared.Tables.{Tables}

pub record ResumeAsked (L S M : List ℕ) (tables : Tables) (list : List ℕ) (room width : ℕ) (before : List ℕ)
    (T : Term) (P : Pattern) (Q : List Kind) (es : List Expression) (cs : List Constraint) : Type 0 where
  pub asked : ReachAsked L S M tables list T P Q es cs
  pub wide : width ≡ length Q + length Q
  pub fits : room * width ≤ length before

pub record ResumePre (L S M : List ℕ) (tables : Tables) (list : List ℕ) (room width : ℕ) (before : List ℕ) : Type 0 where
  pub some : (T : Term) × (P : Pattern) × (Q : List Kind) × (es : List Expression) × (cs : List Constraint)
      × ResumeAsked L S M tables list room width before T P Q es cs

-- the record is that of a matcher, and the list is filled as the events behind it fill it
pub record Resumes (list : List ℕ) (budget room width : ℕ) (before : List ℕ) {T : Term} {P : Pattern} {Q : List Kind} {es : List Expression} {cs : List Constraint}
    {L S M : List ℕ} {tables : Tables} (a : ReachAsked L S M tables list T P Q es cs) (f : Found) (after : List ℕ) : Type 0 where
  pub is_record : IsRecord (Allowed cs) Q P T list
  pub events : List Event
  pub later : Later (all (Allowed cs) (allowed? cs) a.search.pattern.numbered T) (matched (choices Q list) list ∷ events)
  pub fills : fill budget room width 0 0 before events ≡ record { ending = number f.ending; records = f.records; tries = f.tries; out = after }

pub data ResumePost (L S M : List ℕ) (tables : Tables) (list : List ℕ) (budget room width : ℕ) (before after : List ℕ) : Option Found → Type 0 where
  not_there : after ≡ before
      → ((T : Term) (P : Pattern) (Q : List Kind) (es : List Expression) (cs : List Constraint) → ResumeAsked L S M tables list room width before T P Q es cs → IsRecord (Allowed cs) Q P T list → ⊥)
      → ResumePost L S M tables list budget room width before after None
  from_there : {f : Found}
      → ((T : Term) (P : Pattern) (Q : List Kind) (es : List Expression) (cs : List Constraint) (a : ResumeAsked L S M tables list room width before T P Q es cs) → Resumes list budget room width before a.asked f after)
      → ResumePost L S M tables list budget room width before after (Some f)
