-- 02, #105: "The lister shall also take a record and give the matchers that come strictly after it. Its tries are those that come after the
-- last try leading to that record, from 1 up." The same lists of all solutions and all tries, from there on, and the same arithmetic.
use Rattle.std.specs.Prelude.{ℕ, ◌≡◌, List, [], ◌∷◌, cond, length}
use Rattle.meaning.specs.Forest.{Term}
use Rattle.meaning.specs.Pattern.{Pattern, Kind}
use Rattle.meaning.specs.Matcher.{Value}
use Rattle.meaning.specs.Order.{seconds, choices}
use Rattle.catalogue.specs.Answer.{Result, Room, upto, answer, room_of}
use Rattle.catalogue.specs.Listing.{Solutions, Tries, Shown}

-- those of a list whose numbers come strictly after w
abbrev pub beyond : (numbers : List ℕ → List ℕ) (w : List ℕ) → List (List ℕ) → List (List ℕ)
beyond numbers w [] = []
beyond numbers w (v ∷ vs) = cond (upto (numbers v) w) (beyond numbers w vs) (v ∷ beyond numbers w vs)

-- the solutions after the record r, by their second numbers
abbrev pub solutions_after : List ℕ → List (List ℕ) → List (List ℕ)
solutions_after r = beyond seconds (seconds r)

-- the tries after the last that leads to r: that one has all its choices
abbrev pub tries_after : List Kind → List ℕ → List (List ℕ) → List (List ℕ)
tries_after Q r = beyond (λ v. v) (choices Q r)

-- the result of a page after r
pub record PageMeant (Allowed : ℕ → Value → Type 0) (Q : List Kind) (P : Pattern) (T : Term) (r : List ℕ) (budget : ℕ) (room : Room) (x : Result) : Type 0 where
  pub solutions : List (List ℕ)
  pub tries : List (List ℕ)
  pub solutions_are : Solutions Allowed Q P T solutions
  pub tries_are : Tries Allowed Q P T tries
  pub result : x ≡ answer Q (solutions_after r solutions) (tries_after Q r tries) budget room

abbrev pub Page : (Allowed : ℕ → Value → Type 0) (Q : List Kind) (P : Pattern) (T : Term) (r : List ℕ) (budget : ℕ) (before : List ℕ) (ending records tries : ℕ) (after : List ℕ) → Type 0
Page Allowed Q P T r budget before ending records tries after = Shown (PageMeant Allowed Q P T r budget (room_of (length before) (length Q))) before ending records tries after
