-- Not needed to believe the promise: the levels of the search, and the numbers of all of them, field by field.
use Rattle.std.specs.Prelude.{ℕ, ◌<◌, ◌≡◌, List, length, get_or, set, map}
use Rattle.levels.specs.declared.Level.{Level}

-- for each level: the pattern row of its variable, the variable, the row where it starts, the row where the walk goes on with the next
-- value, the next value, and how many are left. There are no more levels than rows of a pattern.
abbrev pub places : List Level → List ℕ
places levels = map (λ (l : Level). l.place) levels

abbrev pub variables : List Level → List ℕ
variables levels = map (λ (l : Level). l.variable) levels

abbrev pub starts : List Level → List ℕ
starts levels = map (λ (l : Level). l.start) levels

abbrev pub rows : List Level → List ℕ
rows levels = map (λ (l : Level). l.row) levels

abbrev pub nexts : List Level → List ℕ
nexts levels = map (λ (l : Level). l.next) levels

abbrev pub lefts : List Level → List ℕ
lefts levels = map (λ (l : Level). l.left) levels

-- a level before it is entered
abbrev pub unentered : Level
unentered = record { place = 0; variable = 0; start = 0; row = 0; next = 0; left = 0 }

-- a level's number d
pub record Inside (levels : List Level) (d : ℕ) : Type 0 where
  pub long : length levels ≡ 256
  pub few : d < 256

-- what stands at the level d
pub record LevelAt (levels : List Level) (d p x s u v n : ℕ) : Type 0 where
  pub place : p ≡ get_or (places levels) d 0
  pub variable : x ≡ get_or (variables levels) d 0
  pub start : s ≡ get_or (starts levels) d 0
  pub row : u ≡ get_or (rows levels) d 0
  pub next : v ≡ get_or (nexts levels) d 0
  pub left : n ≡ get_or (lefts levels) d 0

-- the level d goes on to its next value
pub record Moved (levels : List Level) (d row next left : ℕ) (after : List Level) : Type 0 where
  pub long : length after ≡ length levels
  pub same_places : places after ≡ places levels
  pub same_variables : variables after ≡ variables levels
  pub same_starts : starts after ≡ starts levels
  pub new_rows : rows after ≡ set (rows levels) d row
  pub new_nexts : nexts after ≡ set (nexts levels) d next
  pub new_lefts : lefts after ≡ set (lefts levels) d left

-- the level d is a new one
pub record Entered (levels : List Level) (d place variable start next left : ℕ) (after : List Level) : Type 0 where
  pub long : length after ≡ length levels
  pub new_places : places after ≡ set (places levels) d place
  pub new_variables : variables after ≡ set (variables levels) d variable
  pub new_starts : starts after ≡ set (starts levels) d start
  pub new_rows : rows after ≡ set (rows levels) d start
  pub new_nexts : nexts after ≡ set (nexts levels) d next
  pub new_lefts : lefts after ≡ set (lefts levels) d left
