-- 01, "Patterns and constraints": "An expression table is three lists, kind, name, size, of whole expressions one after another
-- (possibly none): 0 symbol, 1 empty, 2 concatenation of two, 3 choice of two, 4 repetition of one. Names of kinds 1 to 4 are 0."
use Rattle.std.specs.Prelude.{List, [], ◌∷◌, ◌++◌, map, ℕ, suc, ◌≤◌, ◌<◌, ◌≡◌, length, get_or}
use Rattle.expression.specs.Expression.{Expression, symbol, empty, concatenation, choice, repetition}

-- kind, name and size of each row of an expression, in preorder; a row stands over those of its parts
abbrev pub over : (kind : ℕ) → List (ℕ × ℕ × ℕ) → List (ℕ × ℕ × ℕ)
over kind parts = (kind, 0, suc (length parts)) ∷ parts

abbrev pub rows_of : Expression → List (ℕ × ℕ × ℕ)
rows_of (symbol f) = (0, f, 1) ∷ []
rows_of empty = over 1 []
rows_of (concatenation a b) = over 2 (rows_of a ++ rows_of b)
rows_of (choice a b) = over 3 (rows_of a ++ rows_of b)
rows_of (repetition a) = over 4 (rows_of a)

-- whole expressions one after another
abbrev pub table_of : List Expression → List (ℕ × ℕ × ℕ)
table_of [] = []
table_of (e ∷ es) = rows_of e ++ table_of es

-- "first row of a top-level expression": e is one of es, and as many rows stand before it
pub record StartsAt (es : List Expression) (e : Expression) (row : ℕ) : Type 0 where
  pub before : List Expression
  pub behind : List Expression
  pub among : es ≡ before ++ (e ∷ behind)
  pub place : row ≡ length (table_of before)

-- 01, "Numbers and order of checks": "Expression table: equal lengths, 0 to 64 rows, symbols below 65,536."
-- The three lists are the rows of these expressions, within the limits; a name that is no symbol's is 0.
pub record GoodTable (kind name size : List ℕ) (es : List Expression) : Type 0 where
  pub kinds : kind ≡ map (λ (r : ℕ × ℕ × ℕ). r.0) (table_of es)
  pub names : name ≡ map (λ (r : ℕ × ℕ × ℕ). r.1) (table_of es)
  pub sizes : size ≡ map (λ (r : ℕ × ℕ × ℕ). r.2) (table_of es)
  pub most : length kind ≤ 64
  pub small : (i : ℕ) → i < length name → get_or name i 0 < 65536
