-- 01, "From document to tree": "A tree is two lists of numbers in preorder: label and size (rows of the subterm, itself included)."
use Rattle.std.specs.Prelude.{ℕ, suc, max, ◌≤◌, ◌<◌, List, [], ◌∷◌, ◌++◌, ◌≡◌, length, get_or}
use Rattle.meaning.specs.Forest.{Forest, none, some, rows, Term, ◌◂◌}

unfoldable pub labels : Forest → List ℕ
labels none = []
labels (some l us rest) = l ∷ (labels us ++ labels rest)

unfoldable pub sizes : Forest → List ℕ
sizes none = []
sizes (some l us rest) = suc (rows us) ∷ (sizes us ++ sizes rest)

-- the deepest row; a row without one above it is at 1
unfoldable pub depth : Forest → ℕ
depth none = 0
depth (some l us rest) = max (suc (depth us)) (depth rest)

-- every number of the list is below n
pub record Below (n : ℕ) (xs : List ℕ) : Type 0 where
  pub each : (i : ℕ) → i < length xs → get_or xs i 0 < n

-- 01, "Numbers and order of checks": "Tree: lists equal in length, 1 to 2,048 rows, depth at most 64, labels below 65,536, the
-- root's size is the length, every row's arguments end exactly where it ends." All but the limits says: the rows of one term.
pub record GoodTree (label size : List ℕ) (T : Term) : Type 0 where
  pub labelled : label ≡ labels (T ◂ none)
  pub sized : size ≡ sizes (T ◂ none)
  pub few : length label ≤ 2048
  pub shallow : depth (T ◂ none) ≤ 64
  pub small : Below 65536 label

-- the tree is good: it is the rows of some term within the limits
abbrev pub GoodRows : List ℕ → List ℕ → Type 0
GoodRows label size = (T : Term) × GoodTree label size T
