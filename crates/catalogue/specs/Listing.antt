-- Demand 3, whole: what the lister has to answer for a problem that is well formed, with no word of a walk or a loop.
use Rattle.std.specs.Prelude.{ℕ, ◌≤◌, ◌↔◌, List, [], ◌∷◌, ◌++◌, ◌≡◌, length}
use Rattle.meaning.specs.Calls.{Filled}
use Rattle.meaning.specs.Forest.{Term}
use Rattle.meaning.specs.Pattern.{Pattern, Kind}
use Rattle.meaning.specs.Matcher.{Value, kinds}
use Rattle.meaning.specs.Record.{IsRecord, record_of}
use Rattle.meaning.specs.Order.{seconds, ◌⊏◌, Mem, Ascending, choices}
use Rattle.meaning.specs.Reached.{Reached}
use Rattle.catalogue.specs.Answer.{Result, Room, answer, room_of}

-- "every substitution that solves it is listed once, in the stated order, and nothing else is": the records of all matchers, in order
pub record Solutions (Allowed : ℕ → Value → Type 0) (Q : List Kind) (P : Pattern) (T : Term) (rs : List (List ℕ)) : Type 0 where
  pub ordered : Ascending (λ r s. seconds r ⊏ seconds s) rs
  pub all : (r : List ℕ) → Mem r rs ↔ IsRecord Allowed Q P T r

-- 01, "What a matcher is": "Each value is one try: .. Values failing the constraint count as tries. Tries are taken in the order
-- above, depth first."
-- A try, written as the second numbers of the sequence and context variables up to it: somewhere a first appearance is reached,
-- and one of its values is taken
pub record Try (Allowed : ℕ → Value → Type 0) (Q : List Kind) (P : Pattern) (T : Term) (v : List ℕ) : Type 0 where
  pub so_far : List Value
  pub lo : ℕ
  pub hi : ℕ
  pub reached : Reached Allowed Q so_far P T lo hi
  pub value : ℕ
  pub low : lo ≤ value
  pub high : value ≤ hi
  pub is : v ≡ choices (kinds so_far) (record_of P so_far) ++ (value ∷ [])

-- all tries, in the order in which they are taken
pub record Tries (Allowed : ℕ → Value → Type 0) (Q : List Kind) (P : Pattern) (T : Term) (ts : List (List ℕ)) : Type 0 where
  pub ordered : Ascending ◌⊏◌ ts
  pub all : (v : List ℕ) → Mem v ts ↔ Try Allowed Q P T v

-- the result is that of these two lists
pub record Meant (Allowed : ℕ → Value → Type 0) (Q : List Kind) (P : Pattern) (T : Term) (budget : ℕ) (room : Room) (r : Result) : Type 0 where
  pub solutions : List (List ℕ)
  pub tries : List (List ℕ)
  pub solutions_are : Solutions Allowed Q P T solutions
  pub tries_are : Tries Allowed Q P T tries
  pub result : r ≡ answer Q solutions tries budget room

-- the records one after another
abbrev pub joined : List (List ℕ) → List ℕ
joined [] = []
joined (r ∷ rs) = r ++ joined rs

-- what a call answers and writes of a result that is meant so: the ending, the count of records and of tries, and the lent list before and after
pub record Shown (Means : Result → Type 0) (before : List ℕ) (ending records tries : ℕ) (after : List ℕ) : Type 0 where
  pub result : Result
  pub meant : Means result
  pub ends : ending ≡ result.ending
  pub counts : records ≡ length result.records
  pub tried : tries ≡ result.tries
  pub written : Filled (joined result.records) before after

abbrev pub Listing : (Allowed : ℕ → Value → Type 0) (Q : List Kind) (P : Pattern) (T : Term) (budget : ℕ) (before : List ℕ) (ending records tries : ℕ) (after : List ℕ) → Type 0
Listing Allowed Q P T budget before ending records tries after = Shown (Meant Allowed Q P T budget (room_of (length before) (length Q))) before ending records tries after
