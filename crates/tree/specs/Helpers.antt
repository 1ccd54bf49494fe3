-- Not needed to believe the promise: what the functions that only our own crates call ask of the rows, and what they answer.
use Rattle.std.specs.Prelude.{ℕ, ◌+◌, ◌<◌, ◌≤◌, ◌≡◌, ◌≢◌, List, length, get_or}
use Rattle.meaning.specs.Forest.{Forest, terms, ◌⊕◌, Context, node}
use Rattle.meaning.specs.Read.{forest_from_row}
use Rattle.tree.specs.Places.{TermsAt, Level, ContextAt}

-- same: both stretches of k rows are within the lists
pub record SamePre (L S : List ℕ) (a t k : ℕ) : Type 0 where
  pub labels : (a + k ≤ length L) × (t + k ≤ length L)
  pub sizes : (a + k ≤ length S) × (t + k ≤ length S)

-- count: the rows from t up to e are a sequence; the answer is its number of terms
pub record CountPre (S : List ℕ) (t e : ℕ) : Type 0 where
  pub some : (L : List ℕ) × (us : Forest) × TermsAt L S t e us

pub record CountPost (S : List ℕ) (t e r : ℕ) : Type 0 where
  pub is : (L : List ℕ) (us : Forest) → TermsAt L S t e us → r ≡ terms us

-- past: a sequence of at least c terms starts at row t; the answer is the row where the first c end and the others start
pub record PastPre (S : List ℕ) (t c : ℕ) : Type 0 where
  pub some : (L : List ℕ) × (e : ℕ) × (us : Forest) × TermsAt L S t e us × (c ≤ terms us)

pub record PastPost (S : List ℕ) (t c r : ℕ) : Type 0 where
  pub is : (L : List ℕ) (e : ℕ) (front back : Forest) → TermsAt L S t e (front ⊕ back) → terms front ≡ c → TermsAt L S t r front × TermsAt L S r e back

-- child: the term at row a holds the row b below it; the answer is the child that holds it
pub record ChildPre (S : List ℕ) (a b : ℕ) : Type 0 where
  pub below : a ≢ b
  pub some : (L : List ℕ) × (c : Context) × ContextAt L S a b c

pub record ChildPost (S : List ℕ) (a b r : ℕ) : Type 0 where
  pub is : (L : List ℕ) (l : ℕ) (left : Forest) (c : Context) (right : Forest) → ContextAt L S a b (node l left c right)
      → Level L S a r l left right × ContextAt L S r b c

-- the child that holds the row b is at w; the terms from u up to it are before it
pub record Child (L S : List ℕ) (a b u l : ℕ) (left : Forest) (c : Context) (right : Forest) : Type 0 where
  pub at : ℕ
  pub between : Forest
  pub level : Level L S a at l left right
  pub inner : ContextAt L S at b c
  pub low : at ≤ b
  pub high : b < at + get_or S at 0
  pub before : TermsAt L S u at between

-- the child is not before u
pub record Ahead (S : List ℕ) (a b u : ℕ) : Type 0 where
  pub is : (L : List ℕ) (l : ℕ) (left : Forest) (c : Context) (right : Forest) → ContextAt L S a b (node l left c right) → Child L S a b u l left c right

-- holder: the term that holds the row b is the one at the row u or a neighbour behind it; it is the answer. So no child that is not before
-- u is before the answer, for whatever row is looked for, from the answer on
pub record HolderPre (S : List ℕ) (u b : ℕ) : Type 0 where
  pub some : (a : ℕ) × ChildPre S a b × Ahead S a b u

pub record HolderPost (S : List ℕ) (u b r : ℕ) : Type 0 where
  pub later : u ≤ r
  pub low : r ≤ b
  pub high : b < r + get_or S r 0
  pub passed : (a c : ℕ) → r ≤ c → Ahead S a c u → Ahead S a c r

-- list_end: all rows are a sequence, the row is one of them; the answer is the end of the list in which the row stands
pub record ListPre (S : List ℕ) (row : ℕ) : Type 0 where
  pub inside : row < length S
  pub some : (L : List ℕ) × (f : Forest) × TermsAt L S 0 (length S) f

pub record ListPost (S : List ℕ) (row r : ℕ) : Type 0 where
  pub later : row < r
  pub is : (L : List ℕ) (f : Forest) → TermsAt L S 0 (length S) f → TermsAt L S row r (forest_from_row f row)
