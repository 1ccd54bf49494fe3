-- An expression, and expressions one after another, placed at a row: the same as that their lists stand there.
use mathlib.Core.Path.{◌≡◌, refl, sym, ap, ap₂, ◌∙◌, subst}
use mathlib.Core.List.{List, [], ◌∷◌, ◌++◌}
use Prim.Native.Nat.{ℕ, suc, ◌+◌, ◌<◌}
use native.Mathlib.Omega.{arith}
use lib.ListN.{length, length-append}
use Rattle.expression.specs.Expression.{Expression, symbol, empty, concatenation, choice, repetition}
use Rattle.expression.specs.Columns.{kind_of, name_of, rows, preorder, all_rows, kind_rows, name_rows, size_rows}
use Rattle.expression.proofs.Stands.{Stands, stands_apart, stands_together}

pub rows_positive : (e : Expression) → 0 < rows e
rows_positive (symbol f) = omega arith
rows_positive empty = omega arith
rows_positive (concatenation a b) = omega arith
rows_positive (choice a b) = omega arith
rows_positive (repetition a) = omega arith

-- a list has a number for each row
pub rows_many : (own : Expression → ℕ) (e : Expression) → length (preorder own e) ≡ rows e
rows_many own (symbol f) = refl
rows_many own empty = refl
rows_many own (concatenation a b) = ap suc (length-append (preorder own a) (preorder own b) ∙ ap₂ ◌+◌ (rows_many own a) (rows_many own b))
rows_many own (choice a b) = ap suc (length-append (preorder own a) (preorder own b) ∙ ap₂ ◌+◌ (rows_many own a) (rows_many own b))
rows_many own (repetition a) = ap suc (rows_many own a)

abbrev pub total : List Expression → ℕ
total [] = 0
total (e ∷ es) = rows e + total es

pub all_many : (own : Expression → ℕ) (es : List Expression) → length (all_rows own es) ≡ total es
all_many own [] = refl
all_many own (e ∷ es) = length-append (preorder own e) (all_rows own es) ∙ ap₂ ◌+◌ (rows_many own e) (all_many own es)

-- the list of an expression, and one behind it
apart : (f : ℕ → ℕ) (own : Expression → ℕ) (a : Expression) (l : List ℕ) (s : ℕ)
    → Stands f s (preorder own a ++ l) → Stands f s (preorder own a) × Stands f (s + rows a) l
apart f own a l s t =
    let r = stands_apart f (preorder own a) l s t in
    (r.0, subst (λ (n : ℕ). Stands f (s + n) l) (rows_many own a) r.1)

together : (f : ℕ → ℕ) (own : Expression → ℕ) (a : Expression) (l : List ℕ) (s : ℕ)
    → Stands f s (preorder own a) → Stands f (s + rows a) l → Stands f s (preorder own a ++ l)
together f own a l s t u =
    stands_together f (preorder own a) l s t (subst (λ (n : ℕ). Stands f (s + n) l) (sym (rows_many own a)) u)

module _ (kind name size : ℕ → ℕ) where
  -- e stands at the row s
  abbrev pub Placed : Expression → ℕ → Type 0
  Placed (symbol f) s = (kind s ≡ 0) × (name s ≡ f) × (size s ≡ 1)
  Placed empty s = (kind s ≡ 1) × (name s ≡ 0) × (size s ≡ 1)
  Placed (concatenation a b) s =
      (kind s ≡ 2) × (name s ≡ 0) × (size s ≡ suc (rows a + rows b)) × Placed a (suc s) × Placed b (suc s + rows a)
  Placed (choice a b) s =
      (kind s ≡ 3) × (name s ≡ 0) × (size s ≡ suc (rows a + rows b)) × Placed a (suc s) × Placed b (suc s + rows a)
  Placed (repetition a) s = (kind s ≡ 4) × (name s ≡ 0) × (size s ≡ suc (rows a)) × Placed a (suc s)

  -- the expressions stand at s, one after another
  abbrev pub Laid : List Expression → ℕ → Type 0
  Laid [] s = Unit {0}
  Laid (e ∷ es) s = Placed e s × Laid es (s + rows e)

  -- the first row of an expression
  pub placed_kind : (e : Expression) (s : ℕ) → Placed e s → kind s ≡ kind_of e
  placed_kind (symbol f) s p = p.0
  placed_kind empty s p = p.0
  placed_kind (concatenation a b) s p = p.0
  placed_kind (choice a b) s p = p.0
  placed_kind (repetition a) s p = p.0

  pub placed_name : (e : Expression) (s : ℕ) → Placed e s → name s ≡ name_of e
  placed_name (symbol f) s p = p.1
  placed_name empty s p = p.1
  placed_name (concatenation a b) s p = p.1
  placed_name (choice a b) s p = p.1
  placed_name (repetition a) s p = p.1

  pub placed_size : (e : Expression) (s : ℕ) → Placed e s → size s ≡ rows e
  placed_size (symbol f) s p = p.2
  placed_size empty s p = p.2
  placed_size (concatenation a b) s p = p.2
  placed_size (choice a b) s p = p.2
  placed_size (repetition a) s p = p.2

  -- from lists to placed expressions
  abbrev Lists : Expression → ℕ → Type 0
  Lists e s = Stands kind s (preorder kind_of e) × Stands name s (preorder name_of e) × Stands size s (preorder rows e)

  parts_apart : (a b : Expression) (s : ℕ) → Stands kind s (preorder kind_of a ++ preorder kind_of b)
      → Stands name s (preorder name_of a ++ preorder name_of b) → Stands size s (preorder rows a ++ preorder rows b)
      → Lists a s × Lists b (s + rows a)
  parts_apart a b s k n z =
      let k' = apart kind kind_of a (preorder kind_of b) s k in
      let n' = apart name name_of a (preorder name_of b) s n in
      let z' = apart size rows a (preorder rows b) s z in
      ((k'.0, n'.0, z'.0), (k'.1, n'.1, z'.1))

  place : (e : Expression) (s : ℕ) → Lists e s → Placed e s
  place (symbol f) s l = (l.0.0, l.1.0, l.2.0)
  place empty s l = (l.0.0, l.1.0, l.2.0)
  place (concatenation a b) s l =
      let t = parts_apart a b (suc s) l.0.1 l.1.1 l.2.1 in
      (l.0.0, l.1.0, l.2.0, place a (suc s) t.0, place b (suc s + rows a) t.1)
  place (choice a b) s l =
      let t = parts_apart a b (suc s) l.0.1 l.1.1 l.2.1 in
      (l.0.0, l.1.0, l.2.0, place a (suc s) t.0, place b (suc s + rows a) t.1)
  place (repetition a) s l = (l.0.0, l.1.0, l.2.0, place a (suc s) (l.0.1, l.1.1, l.2.1))

  pub lay : (es : List Expression) (s : ℕ) → Stands kind s (kind_rows es) → Stands name s (name_rows es) → Stands size s (size_rows es) → Laid es s
  lay [] s k n z = tt
  lay (e ∷ es) s k n z =
      let k' = apart kind kind_of e (kind_rows es) s k in
      let n' = apart name name_of e (name_rows es) s n in
      let z' = apart size rows e (size_rows es) s z in
      (place e s (k'.0, n'.0, z'.0), lay es (s + rows e) k'.1 n'.1 z'.1)

  -- from placed expressions to a list
  module _ (f : ℕ → ℕ) (own : Expression → ℕ) (first : (e : Expression) (s : ℕ) → Placed e s → f s ≡ own e) where
    placed_list : (e : Expression) (s : ℕ) → Placed e s → Stands f s (preorder own e)
    placed_list (symbol x) s p = (first (symbol x) s p, tt)
    placed_list empty s p = (first empty s p, tt)
    placed_list (concatenation a b) s p = (
      first (concatenation a b) s p,
      together f own a (preorder own b) (suc s) (placed_list a (suc s) p.3) (placed_list b (suc s + rows a) p.4),
    )
    placed_list (choice a b) s p = (
      first (choice a b) s p,
      together f own a (preorder own b) (suc s) (placed_list a (suc s) p.3) (placed_list b (suc s + rows a) p.4),
    )
    placed_list (repetition a) s p = (first (repetition a) s p, placed_list a (suc s) p.3)

    pub laid_list : (es : List Expression) (s : ℕ) → Laid es s → Stands f s (all_rows own es)
    laid_list [] s l = tt
    laid_list (e ∷ es) s l = together f own e (all_rows own es) s (placed_list e s l.0) (laid_list es (s + rows e) l.1)
