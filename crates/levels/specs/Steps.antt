-- Not needed to believe the promise: a level that goes on to its next value, and one that is entered.
use Rattle.std.specs.Prelude.{ℕ, ◌+◌, ◌-◌, ◌*◌, ◌<◌, ◌≤◌, ◌≡◌, List, length, get_or}
use Rattle.choice.specs.Stops.{LeastPost, FurtherPre, FurtherPost, MorePre, MorePost}
use Rattle.choice.specs.Runs.{LevelPre, SkipPost}
use Rattle.levels.specs.declared.Level.{Level}
use Rattle.levels.specs.Columns.{places, rows, nexts, lefts, Inside, LevelAt, Moved, Entered}

-- the level d has a value left, and there is a try left for it
pub record NextPre (L S M A : List ℕ) (W : List Level) (d budget tries : ℕ) : Type 0 where
  pub inside : Inside W d
  pub live : 0 < get_or (lefts W) d 0
  pub small : get_or (nexts W) d 0 + get_or (lefts W) d 0 ≤ 2049
  pub afford : tries < budget
  pub asked : (limit : ℕ) → limit < get_or (lefts W) d 0 → tries + limit < budget
      → LevelPre L S M A (get_or (places W) d 0) (get_or (rows W) d 0) (get_or (lefts W) d 0) limit
      × ((failed u : ℕ) → SkipPost L S M A (get_or (places W) d 0) (get_or (rows W) d 0) (get_or (lefts W) d 0) limit failed u
      → FurtherPre S M (get_or (places W) d 0) u (get_or (lefts W) d 0 - failed - 1))

-- some of its values were passed over, which fail; v is the next one, and the level stands behind it
pub record NextPost (L S M A : List ℕ) (W : List Level) (d budget tries : ℕ) (W' : List Level) (p x s u v left failed : ℕ) : Type 0 where
  pub row : ℕ
  pub next : ℕ
  pub some : ℕ
  pub limit : ℕ
  pub onward : ℕ
  pub level : LevelAt W d p x s row next some
  pub fewer : limit < some
  pub afford : tries + limit < budget
  pub passed : SkipPost L S M A p row some limit failed u
  pub value : v ≡ next + failed
  pub rest : left ≡ some - failed - 1
  pub further : FurtherPost S M p u left onward
  pub moved : Moved W d onward (v + 1) left W'

-- the walk went on at the row u with a value of the variable at the pattern row q, and stopped at that at p: there is room for its level
pub record DeeperPre (S M A : List ℕ) (W : List Level) (d q u left p s : ℕ) : Type 0 where
  pub inside : Inside W d
  pub room : 6 * p + 5 < length M
  pub more : MorePre S M A q u left p s

pub record DeeperPost (S M A : List ℕ) (W : List Level) (d q u left p x s : ℕ) (W' : List Level) : Type 0 where
  pub least : ℕ
  pub many : ℕ
  pub least_is : LeastPost M p s least
  pub many_is : MorePost S M A q u left p s many
  pub entered : Entered W d p x s least many W'
