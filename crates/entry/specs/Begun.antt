-- Not needed to believe the promise: what the search asks and answers from its first walk on.
use Rattle.std.specs.Prelude.{ℕ, ◌+◌, ◌*◌, ◌≤◌, ◌≡◌, List, [], length}
use Rattle.meaning.specs.Forest.{Term}
use Rattle.meaning.specs.Pattern.{Pattern, Kind}
use Rattle.meaning.proofs.Tame.{count}
use Rattle.expression.specs.Expression.{Expression}
use Rattle.constraint.specs.Obeys.{Constraint, Allowed}
use Rattle.constraint.proofs.Allowed.{allowed?}
use Rattle.catalogue.proofs.Events.{events}
use Rattle.catalogue.proofs.Fill.{fill}
use Rattle.catalogue.proofs.Whole.{walked}
use Rattle.levels.specs.Levels.{Search}
use Rattle.meaning.specs.Ending.{number}
use Rattle.search.specs.declared.Found.{Found}
use Rattle.letters.specs.declared.Tables.{Tables}

pub record BeginAsked (L S M : List ℕ) (tables : Tables) (room width : ℕ) (before : List ℕ)
    (T : Term) (P : Pattern) (Q : List Kind) (es : List Expression) (cs : List Constraint) : Type 0 where
  pub search : Search L S M tables T P Q es cs
  pub wide : width ≡ length Q + length Q
  pub fits : room * width ≤ length before

pub record BeginPre (L S M : List ℕ) (tables : Tables) (room width : ℕ) (before : List ℕ) : Type 0 where
  pub some : (T : Term) × (P : Pattern) × (Q : List Kind) × (es : List Expression) × (cs : List Constraint)
      × BeginAsked L S M tables room width before T P Q es cs

-- the list is filled as all events of the walk fill it
pub record BeginPost (L S M : List ℕ) (tables : Tables) (budget room width : ℕ) (before : List ℕ) (r : Found) (after : List ℕ) : Type 0 where
  pub all : (T : Term) (P : Pattern) (Q : List Kind) (es : List Expression) (cs : List Constraint)
      → (a : BeginAsked L S M tables room width before T P Q es cs)
      → fill budget room width 0 0 before (events (walked (Allowed cs) (allowed? cs) a.search.pattern.numbered T) (count Q) [])
      ≡ record { ending = number r.ending; records = r.records; tries = r.tries; out = after }
