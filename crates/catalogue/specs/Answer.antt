-- 01, "What a matcher is": "It stops with ending 1 when a matcher is reached for which no room is left; with 2 when a try is needed
-- and the budget is spent; else 0." As arithmetic on the lists of all solutions and all tries.
use Rattle.std.specs.Prelude.{ℕ, zero, suc, ◌+◌, ◌/◌, List, [], ◌∷◌, Bool, true, false, cond, leb, ltb, eqb, length, take, get_or}
use Rattle.meaning.specs.Pattern.{Kind}
use Rattle.meaning.specs.Order.{choices}

pub record Result : Type 0 where
  pub records : List (List ℕ)
  pub ending : ℕ
  pub tries : ℕ

-- whether the try v is taken at the latest when the choices w are made
abbrev pub upto : List ℕ → List ℕ → Bool
upto [] w = true
upto (x ∷ v) [] = false
upto (x ∷ v) (y ∷ w) = cond (ltb x y) true (cond (eqb x y) (upto v w) false)

-- how many of the tries are taken until the choices w are made
abbrev pub place : List (List ℕ) → List ℕ → ℕ
place [] w = 0
place (v ∷ ts) w = cond (upto v w) (suc (place ts w)) (place ts w)

-- the same for each solution: so many tries reach it
abbrev pub places : List Kind → List (List ℕ) → List (List ℕ) → List ℕ
places Q ts [] = []
places Q ts (r ∷ rs) = place ts (choices Q r) ∷ places Q ts rs

-- how many solutions are reached within the budget
abbrev pub within : ℕ → List ℕ → ℕ
within budget [] = 0
within budget (n ∷ ns) = cond (leb n budget) (suc (within budget ns)) (within budget ns)

-- how many records have room; without variables it is unlimited
pub data Room : Type 0 where
  at_most : ℕ → Room
  unlimited : Room

-- where no room can be wanting: all of it, or as far as the budget goes
abbrev pub by_budget : List Kind → List (List ℕ) → List (List ℕ) → ℕ → Result
by_budget Q rs ts budget =
    cond (ltb budget (length ts))
    (record { records = take (within budget (places Q ts rs)) rs; ending = 2; tries = budget })
    (record { records = rs; ending = 0; tries = length ts })

abbrev pub answer : List Kind → List (List ℕ) → List (List ℕ) → ℕ → Room → Result
answer Q rs ts budget (at_most room) =
    cond (ltb room (within budget (places Q ts rs)))
    (record { records = take room rs; ending = 1; tries = get_or (places Q ts rs) room 0 })
    (by_budget Q rs ts budget)
answer Q rs ts budget unlimited = by_budget Q rs ts budget

-- "Room is the lent list's length divided by twice the variables, rounded down; without variables it is unlimited."
abbrev pub room_of : ℕ → ℕ → Room
room_of n zero = unlimited
room_of n (suc v) = at_most (n / (suc v + suc v))
