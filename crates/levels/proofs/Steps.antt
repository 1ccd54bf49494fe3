-- A level that goes on, in the numbers that the code reads off it.
use Prim.Native.Nat.{ℕ, ◌+◌, ◌-◌, ◌<◌, ◌≤◌}
use mathlib.Core.List.{List}
use native.Mathlib.Omega.{arith}
use Rattle.choice.specs.Stops.{FurtherPre}
use Rattle.choice.specs.Runs.{LevelPre, SkipPost}
use Rattle.levels.specs.declared.Level.{Level}
use Rattle.levels.specs.Columns.{LevelAt}
use Rattle.levels.specs.Steps.{NextPre}

module _ {L S M A : List ℕ} {W : List Level} {d budget tries p x s u v n : ℕ} (pre : NextPre L S M A W d budget tries) (e : LevelAt W d p x s u v n) where
  pub some_left : 0 < n
  some_left = rw e.left pre.live

  module _ {limit : ℕ} (fewer : limit < n) (afford : tries + limit < budget) where
    pub skip_pre : LevelPre L S M A p u n limit
    skip_pre = rw (e.place, e.row, e.left) (pre.asked limit (rw e.left at fewer) afford).0

    -- some values were passed over, and w is the row of the next one
    module _ {failed w : ℕ} (post : SkipPost L S M A p u n limit failed w) where
      pub small : (failed < n) × (v + n ≤ 2049)
      small =
          let t : v + n ≤ 2049 = rw (e.next, e.left) pre.small in
          (omega (arith, fewer, post.few), t)

      pub further_pre : FurtherPre S M p w (n - failed - 1)
      further_pre = rw (e.place, e.left) ((pre.asked limit (rw e.left at fewer) afford).1 failed w (rw (e.place, e.row, e.left) at post))
