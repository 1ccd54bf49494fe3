-- The three lists of a table, each by itself.
use mathlib.Core.Path.{◌≡◌, refl, sym, ap, ap₂, ◌∙◌}
use mathlib.Core.List.{List, [], ◌∷◌, ◌++◌, map, map-append}
use Prim.Native.Nat.{ℕ, suc, ◌+◌}
use lib.ListN.{length, length-append, length-map}
use Rattle.expression.specs.Expression.{Expression, symbol, empty, concatenation, choice, repetition}
use Rattle.expression.specs.Rows.{over, rows_of, table_of, GoodTable}
use Rattle.expression.specs.Columns.{kind_of, name_of, rows, preorder, all_rows, kind_rows, name_rows, size_rows}

-- the first row of an expression
abbrev first : Expression → ℕ × ℕ × ℕ
first e = (kind_of e, name_of e, rows e)

many : (e : Expression) → length (rows_of e) ≡ rows e
many (symbol f) = refl
many empty = refl
many (concatenation a b) = ap suc (length-append (rows_of a) (rows_of b) ∙ ap₂ ◌+◌ (many a) (many b))
many (choice a b) = ap suc (length-append (rows_of a) (rows_of b) ∙ ap₂ ◌+◌ (many a) (many b))
many (repetition a) = ap suc (many a)

module _ (g : ℕ × ℕ × ℕ → ℕ) where
  -- a row over two parts
  two_parts : (k : ℕ) (a b : Expression) → map g (rows_of a) ≡ preorder (λ (e : Expression). g (first e)) a → map g (rows_of b) ≡ preorder (λ (e : Expression). g (first e)) b
      → map g (over k (rows_of a ++ rows_of b)) ≡ g (k, 0, suc (rows a + rows b)) ∷ (preorder (λ (e : Expression). g (first e)) a ++ preorder (λ (e : Expression). g (first e)) b)
  two_parts k a b i j =
      ap₂ (λ (n : ℕ) (l : List ℕ). g (k, 0, suc n) ∷ l) (length-append (rows_of a) (rows_of b) ∙ ap₂ ◌+◌ (many a) (many b))
      (map-append g (rows_of a) (rows_of b) ∙ ap₂ ◌++◌ i j)

  column : (e : Expression) → map g (rows_of e) ≡ preorder (λ (e : Expression). g (first e)) e
  column (symbol f) = refl
  column empty = refl
  column (concatenation a b) = two_parts 2 a b (column a) (column b)
  column (choice a b) = two_parts 3 a b (column a) (column b)
  column (repetition a) = ap₂ (λ (n : ℕ) (l : List ℕ). g (4, 0, suc n) ∷ l) (many a) (column a)

  columns : (es : List Expression) → map g (table_of es) ≡ all_rows (λ (e : Expression). g (first e)) es
  columns [] = refl
  columns (e ∷ es) = map-append g (rows_of e) (table_of es) ∙ ap₂ ◌++◌ (column e) (columns es)

pub kinds_column : (es : List Expression) → map (λ (r : ℕ × ℕ × ℕ). r.0) (table_of es) ≡ kind_rows es
kinds_column es = columns (λ (r : ℕ × ℕ × ℕ). r.0) es

pub names_column : (es : List Expression) → map (λ (r : ℕ × ℕ × ℕ). r.1) (table_of es) ≡ name_rows es
names_column es = columns (λ (r : ℕ × ℕ × ℕ). r.1) es

pub sizes_column : (es : List Expression) → map (λ (r : ℕ × ℕ × ℕ). r.2) (table_of es) ≡ size_rows es
sizes_column es = columns (λ (r : ℕ × ℕ × ℕ). r.2) es

pub table_long : (es : List Expression) → length (table_of es) ≡ length (size_rows es)
table_long es = sym (length-map (table_of es) (λ (r : ℕ × ℕ × ℕ). r.2)) ∙ ap length (sizes_column es)

module _ {kind name size : List ℕ} (es : List Expression) (g : GoodTable kind name size es) where
  pub kinds_are : kind ≡ kind_rows es
  kinds_are = g.kinds ∙ kinds_column es

  pub names_are : name ≡ name_rows es
  names_are = g.names ∙ names_column es

  pub sizes_are : size ≡ size_rows es
  sizes_are = g.sizes ∙ sizes_column es
