-- Not needed to believe the promise: what the search's private functions ask and answer.
use Rattle.std.specs.Prelude.{ℕ, ◌+◌, ◌*◌, ◌≤◌, ◌≡◌, List, length}
use Rattle.meaning.specs.Forest.{Term}
use Rattle.meaning.specs.Pattern.{Pattern, Kind}
use Rattle.meaning.proofs.Tame.{count}
use Rattle.expression.specs.Expression.{Expression}
use Rattle.constraint.specs.Obeys.{Constraint, Allowed}
use Rattle.constraint.proofs.Allowed.{allowed?}
use Rattle.catalogue.proofs.Fill.{fill, rest}
use Rattle.catalogue.proofs.Levels.{Levels}
use Rattle.catalogue.proofs.Whole.{walked}
use Rattle.levels.specs.Levels.{Search, Pauses}
use Rattle.meaning.specs.Ending.{number}
use Rattle.search.specs.declared.Found.{Found}
use Rattle.letters.specs.declared.Tables.{Tables}

-- levels that the search can go on from
pub record GoAsked (L S M : List ℕ) (tables : Tables) (room width : ℕ) (R A places variables starts rows nexts lefts : List ℕ) (depth : ℕ) (before : List ℕ)
    (T : Term) (P : Pattern) (Q : List Kind) (es : List Expression) (cs : List Constraint) (vals : List ℕ) : Type 0 where
  pub search : Search L S M tables T P Q es cs
  pub wide : width ≡ length Q + length Q
  pub fits : room * width ≤ length before
  pub vals_long : length vals ≡ 256
  pub deep : depth ≤ count Q
  pub levels : Levels (Allowed cs) (allowed? cs) search.pattern.numbered T vals variables starts nexts lefts depth
  pub pauses : Pauses L S R A search.K search.N search.Z Q P T vals places variables starts rows nexts lefts depth

pub record GoPre (L S M : List ℕ) (tables : Tables) (room width : ℕ) (R A places variables starts rows nexts lefts : List ℕ) (depth : ℕ) (before : List ℕ) : Type 0 where
  pub record_long : length R ≡ 32
  pub some : (T : Term) × (P : Pattern) × (Q : List Kind) × (es : List Expression) × (cs : List Constraint) × (vals : List ℕ)
      × GoAsked L S M tables room width R A places variables starts rows nexts lefts depth before T P Q es cs vals

-- the search has gone through all that the levels have left
pub record GoPost (L S M : List ℕ) (tables : Tables) (budget room width : ℕ) (R A places variables starts rows nexts lefts : List ℕ) (depth : ℕ) (before : List ℕ)
    (r : Found) (after : List ℕ) : Type 0 where
  pub all : (T : Term) (P : Pattern) (Q : List Kind) (es : List Expression) (cs : List Constraint) (vals : List ℕ)
      → (a : GoAsked L S M tables room width R A places variables starts rows nexts lefts depth before T P Q es cs vals)
      → fill budget room width 0 0 before (rest (walked (Allowed cs) (allowed? cs) a.search.pattern.numbered T) (count Q) vals nexts lefts depth)
      ≡ record { ending = number r.ending; records = r.records; tries = r.tries; out = after }
