-- Not needed to believe the promise: the values of a variable that the walk asked for, and where the walk goes on with each.
use Rattle.std.specs.Prelude.{ℕ, suc, ◌+◌, ◌-◌, ◌*◌, ◌<◌, ◌≤◌, ◌≡◌, ◌≢◌, List, length, get_or, Option, Some, None}
use Rattle.meaning.specs.Forest.{Forest, rows, terms}
use Rattle.meaning.specs.Pattern.{Kind}
use Rattle.meaning.proofs.Resume.{Frame, Stop, at_sequence, at_context, least, largest}
use Rattle.tree.specs.Places.{TermsAt}
use Rattle.walk.specs.Packed.{Packed}
use Rattle.walk.specs.Above.{Marks, Stands}
use Rattle.walk.specs.Onward.{Lands}

-- how many values the variable at a stop has
abbrev pub many : Stop → ℕ
many (at_sequence ps us) = suc (terms us)
many (at_context q T) = suc (rows T.args)

-- the walk stopped at the row p of the pattern and the row s of the tree, before the variable x
pub record StopAt (L S M A : List ℕ) (p s : ℕ) (K N Z : List ℕ) (Q : List Kind) (x : ℕ) (w : Stop) (fs : List Frame) : Type 0 where
  pub packed : Packed K N Z M
  pub marks : Marks K A
  pub stands : Stands L S A K N Z Q p x s w fs

pub record AtStop (S M A : List ℕ) (p s : ℕ) : Type 0 where
  pub some : (L : List ℕ) × (K : List ℕ) × (N : List ℕ) × (Z : List ℕ) × (Q : List Kind) × (x : ℕ) × (w : Stop) × (fs : List Frame) × StopAt L S M A p s K N Z Q x w fs

-- least: the least value
pub record LeastPost (M : List ℕ) (p s r : ℕ) : Type 0 where
  pub is : (L S A K N Z : List ℕ) (Q : List Kind) (x : ℕ) (w : Stop) (fs : List Frame) → StopAt L S M A p s K N Z Q x w fs → r ≡ least w s

-- values: how many there are
pub record ValuesPost (S M A : List ℕ) (p s r : ℕ) : Type 0 where
  pub is : (L K N Z : List ℕ) (Q : List Kind) (x : ℕ) (w : Stop) (fs : List Frame) → StopAt L S M A p s K N Z Q x w fs → r ≡ many w

-- landing: the row at which the walk goes on with the value v
pub record LandingPre (S M : List ℕ) (p s v : ℕ) : Type 0 where
  pub some : (L : List ℕ) × (A : List ℕ) × (K : List ℕ) × (N : List ℕ) × (Z : List ℕ) × (Q : List Kind) × (x : ℕ) × (w : Stop) × (fs : List Frame)
      × StopAt L S M A p s K N Z Q x w fs × (least w s ≤ v) × (v ≤ largest w s)

pub record LandingPost (S M : List ℕ) (p s v u : ℕ) : Type 0 where
  pub is : (L A K N Z : List ℕ) (Q : List Kind) (x : ℕ) (w : Stop) (fs : List Frame) → StopAt L S M A p s K N Z Q x w fs → least w s ≤ v → v ≤ largest w s
      → Lands L S s u (v - least w s) w

-- further: the row of the next value, where the walk goes on at the row u with this one and left values come after it
pub record FurtherPre (S M : List ℕ) (p u left : ℕ) : Type 0 where
  pub room : 6 * p + 5 < length M
  pub small : u < 4294967296
  pub inside : 0 < left → get_or M (6 * p) 0 ≡ 2 → u < length S

pub record FurtherPost (S M : List ℕ) (p u left r : ℕ) : Type 0 where
  pub terms : 0 < left → get_or M (6 * p) 0 ≡ 2 → r ≡ u + get_or S u 0
  pub hole : 0 < left → get_or M (6 * p) 0 ≢ 2 → r ≡ u + 1

-- fewer: left terms stand from the row u on, up to a row that s is not behind. If s is the row of one of them, or behind the last,
-- the answer is how many stand from there on.
pub record FewerPre (S : List ℕ) (u s left : ℕ) : Type 0 where
  pub some : (L : List ℕ) × (e : ℕ) × (us : Forest) × TermsAt L S u e us × (terms us ≡ left) × (s ≤ e)

pub data Fewer (S : List ℕ) (u s left : ℕ) : Option ℕ → Type 0 where
  elsewhere : Fewer S u s left None
  from_there : {n : ℕ} → ((L : List ℕ) (e : ℕ) (us vs : Forest) → TermsAt L S u e us → terms us ≡ left → TermsAt L S s e vs → terms vs ≡ n) → Fewer S u s left (Some n)

-- more_values: how many values the variable at p has, where the one at q has a value with which the walk goes on at the row u,
-- and left values after it
pub record Before (L S A : List ℕ) (q u left : ℕ) (K N Z : List ℕ) (Q : List Kind) : Type 0 where
  pub x : ℕ
  pub s : ℕ
  pub stop : Stop
  pub frames : List Frame
  pub above : ℕ
  pub stands : Stands L S A K N Z Q q x s stop frames
  pub lands : Lands L S s u above stop
  pub left_over : suc (above + left) ≡ many stop

pub record MorePre (S M A : List ℕ) (q u left p s : ℕ) : Type 0 where
  pub some : (L : List ℕ) × (K : List ℕ) × (N : List ℕ) × (Z : List ℕ) × (Q : List Kind) × (x : ℕ) × (w : Stop) × (fs : List Frame)
      × StopAt L S M A p s K N Z Q x w fs × Before L S A q u left K N Z Q

pub record MorePost (S M A : List ℕ) (q u left p s r : ℕ) : Type 0 where
  pub is : (L K N Z : List ℕ) (Q : List Kind) (x : ℕ) (w : Stop) (fs : List Frame) → StopAt L S M A p s K N Z Q x w fs → Before L S A q u left K N Z Q → r ≡ many w
