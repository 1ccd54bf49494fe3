-- Not needed to believe the promise: values that fail at once, by the label of the next term or by the end of the list.
use Rattle.std.specs.Prelude.{ℕ, suc, ◌+◌, ◌<◌, ◌≤◌, ◌≡◌, ◌≢◌, List, length, get_or}
use Rattle.meaning.specs.Forest.{Forest, some, terms}
use Rattle.meaning.specs.Pattern.{Kind}
use Rattle.meaning.specs.Record.{Entry}
use Rattle.meaning.proofs.Laws.{drop_t}
use Rattle.meaning.proofs.Walk.{fail}
use Rattle.meaning.proofs.Resume.{Frame, Stop, onward}
use Rattle.meaning.proofs.Next.{Any, any?}
use Rattle.tree.specs.Places.{TermsAt}
use Rattle.variable.specs.Steps.{Behind}
use Rattle.walk.specs.Onward.{Lands}
use Rattle.choice.specs.Stops.{many, StopAt}

-- holes: count rows from the row on have another label, and at most limit are looked at
pub record HolesPost (L : List ℕ) (symbol row limit count : ℕ) : Type 0 where
  pub few : count ≤ limit
  pub unlike : (j : ℕ) → j < count → get_or L (row + j) 0 ≢ symbol

-- the first term of a sequence is not the symbol's
pub record Unlike (symbol : ℕ) (us : Forest) : Type 0 where
  pub label : ℕ
  pub args : Forest
  pub rest : Forest
  pub is : us ≡ some label args rest
  pub other : label ≢ symbol

-- neighbours: the same for terms, of which at least limit start at the row; r is the row behind those passed over
pub record NeighboursPre (L S : List ℕ) (row limit : ℕ) : Type 0 where
  pub some : (e : ℕ) × (us : Forest) × TermsAt L S row e us × (limit ≤ terms us)

pub record NeighboursPost (L S : List ℕ) (symbol row limit count r : ℕ) : Type 0 where
  pub few : count ≤ limit
  pub is : (e : ℕ) (us : Forest) → TermsAt L S row e us → limit ≤ terms us → Behind L S row e us r count × ((j : ℕ) → j < count → Unlike symbol (drop_t j us))

-- whole: left values of a sequence variable are left at the row u, where it ends the list of the pattern row h
pub record WholePre (S A : List ℕ) (h u left limit : ℕ) : Type 0 where
  pub inside : h < 256
  pub row : get_or A h 0 < length S
  pub fewer : limit < left
  pub small : left ≤ suc (length S)
  pub some : (L : List ℕ) × (us : Forest) × TermsAt L S u (get_or A h 0 + get_or S (get_or A h 0) 0) us × (left ≡ suc (terms us))

pub record WholePost (S A : List ℕ) (h u left limit count r : ℕ) : Type 0 where
  pub all : count ≡ limit
  pub is : (L : List ℕ) (us : Forest) → TermsAt L S u (get_or A h 0 + get_or S (get_or A h 0) 0) us → left ≡ suc (terms us)
      → Behind L S u (get_or A h 0 + get_or S (get_or A h 0) 0) us r count

-- the variable at a stop has left values, and the walk goes on at the row u with the first of them
pub record Level (L S M A : List ℕ) (p u left : ℕ) (K N Z : List ℕ) (Q : List Kind) (x s : ℕ) (w : Stop) (fs : List Frame) (above : ℕ) : Type 0 where
  pub at : StopAt L S M A p s K N Z Q x w fs
  pub lands : Lands L S s u above w
  pub left_over : above + left ≡ many w

pub record LevelPre (L S M A : List ℕ) (p u left limit : ℕ) : Type 0 where
  pub fewer : limit < left
  pub some : (K : List ℕ) × (N : List ℕ) × (Z : List ℕ) × (Q : List Kind) × (x : ℕ) × (s : ℕ) × (w : Stop) × (fs : List Frame) × (above : ℕ) × Level L S M A p u left K N Z Q x s w fs above

-- skip: count values fail, at most limit, and the walk would go on at the row r with the next one
pub record SkipPost (L S M A : List ℕ) (p u left limit count r : ℕ) : Type 0 where
  pub few : count ≤ limit
  pub is : (K N Z : List ℕ) (Q : List Kind) (x s : ℕ) (w : Stop) (fs : List Frame) (above : ℕ) → Level L S M A p u left K N Z Q x s w fs above
      → Lands L S s r (above + count) w × ((j : ℕ) → j < count → (B : List Entry) (cs : List ℕ) → onward Any any? w s fs (above + j) B cs ≡ fail)
