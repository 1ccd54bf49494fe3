-- Not needed to believe the promise: the levels of the search as they stand at a record.
use Rattle.std.specs.Prelude.{ℕ, suc, ◌+◌, ◌*◌, ◌<◌, ◌≤◌, ◌≡◌, List, ◌∷◌, length, get_or, Option, Some, None}
use Rattle.levels.specs.declared.Level.{Level}
use Rattle.levels.specs.declared.Try.{Try}
use Rattle.meaning.specs.Forest.{Term}
use Rattle.meaning.specs.Pattern.{Pattern, Kind}
use Rattle.meaning.specs.Record.{IsRecord}
use Rattle.meaning.specs.Order.{choices}
use Rattle.meaning.proofs.Tame.{count}
use Rattle.expression.specs.Expression.{Expression}
use Rattle.constraint.specs.Obeys.{Constraint, Allowed}
use Rattle.constraint.proofs.Allowed.{allowed?}
use Rattle.choice.specs.Stops.{AtStop, LeastPost, ValuesPost, LandingPre, LandingPost, FurtherPre, FurtherPost}
use Rattle.catalogue.proofs.Events.{matched}
use Rattle.catalogue.proofs.Fill.{rest}
use Rattle.catalogue.proofs.Later.{Later}
use Rattle.catalogue.proofs.Levels.{Levels}
use Rattle.catalogue.proofs.Whole.{walked, all}
use Rattle.levels.specs.Columns.{places, variables, starts, rows, nexts, lefts, Inside, Moved, Entered}
use Rattle.levels.specs.Levels.{Search, Pauses}
use Rattle.letters.specs.declared.Tables.{Tables}

-- choose: the walk stopped before the variable x, and there is room for its level
pub record ChoosePre (S M A : List ℕ) (W : List Level) (list : List ℕ) (d p x s : ℕ) : Type 0 where
  pub inside : Inside W d
  pub stop : AtStop S M A p s
  pub room : 6 * p + 5 < length M
  pub read : x + x + 1 < length list
  pub asked : (lo n v left : ℕ) → LeastPost M p s lo → ValuesPost S M A p s n → lo ≤ v → v + suc left ≡ lo + n
      → LandingPre S M p s v × ((u : ℕ) → LandingPost S M p s v u → FurtherPre S M p u left)

-- the second number that the record has for it is none of its values; or its level stands behind this one
pub data ChoosePost (S M A : List ℕ) (W : List Level) (list : List ℕ) (d p x s : ℕ) (W' : List Level) : Option Try → Type 0 where
  outside : {lo n : ℕ} → LeastPost M p s lo → ValuesPost S M A p s n → (lo ≤ get_or list (x + x + 1) 0 → get_or list (x + x + 1) 0 < lo + n → ⊥) → ChoosePost S M A W list d p x s W' None
  value : {lo n u v row left : ℕ} {W₁ : List Level} → LeastPost M p s lo → ValuesPost S M A p s n → v ≡ get_or list (x + x + 1) 0 → lo ≤ v → v + suc left ≡ lo + n
      → LandingPost S M p s v u → FurtherPost S M p u left row → Entered W d p x s lo n W₁ → Moved W₁ d row (v + 1) left W'
      → ChoosePost S M A W list d p x s W' (Some (record { p = p; x = x; s = s; u = u; v = v; left = left; failed = 0 }))

-- reach: the problem that is searched, and a record of two numbers a variable
pub record ReachAsked (L S M : List ℕ) (tables : Tables) (list : List ℕ) (T : Term) (P : Pattern) (Q : List Kind) (es : List Expression) (cs : List Constraint) : Type 0 where
  pub search : Search L S M tables T P Q es cs
  pub long : length list ≡ length Q + length Q

pub record ReachPre (L S M : List ℕ) (tables : Tables) (list R A : List ℕ) (W : List Level) : Type 0 where
  pub record_long : length R ≡ 32
  pub rows_long : length A ≡ 256
  pub levels_long : length W ≡ 256
  pub some : (T : Term) × (P : Pattern) × (Q : List Kind) × (es : List Expression) × (cs : List Constraint) × ReachAsked L S M tables list T P Q es cs

-- the record is that of a matcher, and what the levels have left are the events behind it
pub record AtRecord (L S M : List ℕ) (tables : Tables) (list : List ℕ) (T : Term) (P : Pattern) (Q : List Kind) (es : List Expression) (cs : List Constraint) (w : Search L S M tables T P Q es cs)
    (R A : List ℕ) (W : List Level) (depth : ℕ) : Type 0 where
  pub is_record : IsRecord (Allowed cs) Q P T list
  pub vals : List ℕ
  pub vals_long : length vals ≡ 256
  pub deep : depth ≤ count Q
  pub levels : Levels (Allowed cs) (allowed? cs) w.pattern.numbered T vals (variables W) (starts W) (nexts W) (lefts W) depth
  pub pauses : Pauses L S R A w.K w.N w.Z Q P T vals (places W) (variables W) (starts W) (rows W) (nexts W) (lefts W) depth
  pub later : Later (all (Allowed cs) (allowed? cs) w.pattern.numbered T)
      (matched (choices Q list) list ∷ rest (walked (Allowed cs) (allowed? cs) w.pattern.numbered T) (count Q) vals (nexts W) (lefts W) depth)

-- the same for every problem that the lists mean
pub record Arrived (L S M : List ℕ) (tables : Tables) (list R A : List ℕ) (W : List Level) (depth : ℕ) : Type 0 where
  pub record_long : length R ≡ 32
  pub levels_long : length W ≡ 256
  pub each : (T : Term) (P : Pattern) (Q : List Kind) (es : List Expression) (cs : List Constraint) (a : ReachAsked L S M tables list T P Q es cs) → AtRecord L S M tables list T P Q es cs a.search R A W depth

pub data ReachPost (L S M : List ℕ) (tables : Tables) (list R A : List ℕ) (W : List Level) : Option ℕ → Type 0 where
  nowhere : ((T : Term) (P : Pattern) (Q : List Kind) (es : List Expression) (cs : List Constraint) → ReachAsked L S M tables list T P Q es cs → IsRecord (Allowed cs) Q P T list → ⊥)
      → ReachPost L S M tables list R A W None
  reached : {depth : ℕ} → Arrived L S M tables list R A W depth → ReachPost L S M tables list R A W (Some depth)
