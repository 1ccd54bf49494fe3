-- Not needed to believe the promise: what the functions that judge one variable's numbers ask of the rows, and what they answer.
use Rattle.std.specs.Prelude.{ℕ, ◌≡◌, Bool, List, length}
use Rattle.meaning.specs.Forest.{Forest}
use Rattle.meaning.specs.Pattern.{Kind}
use Rattle.meaning.specs.Calls.{Says}
use Rattle.meaning.specs.Read.{Fits, GoodRecord}
use Rattle.tree.specs.Places.{TermsAt}
use Rattle.pattern.specs.Rows.{code}
use Rattle.pattern.specs.Known.{KindsAre}

-- the sizes are those of a sequence
pub record RowsPre (S : List ℕ) : Type 0 where
  pub some : (L : List ℕ) × (R : Forest) × TermsAt L S 0 (length S) R

-- the answer says whether the numbers are good for a variable of the kind
pub record FitsPost (S : List ℕ) (k : Kind) (a b : ℕ) (r : Bool) : Type 0 where
  pub is : (L : List ℕ) (R : Forest) → TermsAt L S 0 (length S) R → Says r (Fits k R a b)

-- the same for a variable whose kind is given by its number
pub record PairPost (S : List ℕ) (kind a b : ℕ) (r : Bool) : Type 0 where
  pub is : (k : Kind) → code k ≡ kind → FitsPost S k a b r

pub record RecordPre (S kinds : List ℕ) (variables : ℕ) : Type 0 where
  pub rows : RowsPre S
  pub kinded : (Q : List Kind) × KindsAre Q variables kinds

pub record RecordPost (S kinds : List ℕ) (variables : ℕ) (list : List ℕ) (r : Bool) : Type 0 where
  pub is : (L : List ℕ) (R : Forest) (Q : List Kind) → TermsAt L S 0 (length S) R → KindsAre Q variables kinds → Says r (GoodRecord Q R list)
