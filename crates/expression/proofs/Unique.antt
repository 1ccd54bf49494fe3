-- The rows tell the expressions: a table is good for one list of expressions at most.
use mathlib.Core.Path.{◌≡◌, refl, sym, ap, ap₂, ◌∙◌, subst}
use mathlib.Core.List.{List, [], ◌∷◌}
use Prim.Native.Nat.{ℕ, zero, suc, ◌+◌, ◌≤◌}
use native.Mathlib.Omega.{arith}
use Rattle.expression.specs.Expression.{Expression, symbol, empty, concatenation, choice, repetition}
use Rattle.expression.specs.Rows.{GoodTable}
use Rattle.expression.specs.Columns.{rows}
use Rattle.expression.proofs.Placed.{rows_positive, total, Placed, Laid, placed_size}
use Rattle.expression.proofs.Tables.{kind_length, good_laid}
use Rattle.expression.specs.Rule.{number_at}

abbrev node : ℕ → ℕ → Expression → Expression → Expression
node zero x a b = symbol x
node (suc zero) x a b = empty
node (suc (suc zero)) x a b = concatenation a b
node (suc (suc (suc zero))) x a b = choice a b
node (suc (suc (suc (suc k)))) x a b = repetition a

module _ (kind name size : ℕ → ℕ) where
  -- the expression of at most m rows at the row s
  unfoldable decode : ℕ → ℕ → Expression
  decode zero s = empty
  decode (suc m) s = node (kind s) (name s) (decode m (suc s)) (decode m (suc s + size (suc s)))

  decoded : (e : Expression) (s m : ℕ) → Placed kind name size e s → rows e ≤ m → decode m s ≡ e
  unfolding decode
  decoded e s zero p h = absurd (omega (arith, rows_positive e))
  decoded (symbol f) s (suc m) p h = rw p.0 (ap symbol p.1)
  decoded empty s (suc m) p h = rw p.0
  decoded (concatenation a b) s (suc m) p h =
      rw (p.0, placed_size kind name size a (suc s) p.3)
      (ap₂ concatenation (decoded a (suc s) m p.3 (omega arith)) (decoded b (suc s + rows a) m p.4 (omega arith)))
  decoded (choice a b) s (suc m) p h =
      rw (p.0, placed_size kind name size a (suc s) p.3)
      (ap₂ choice (decoded a (suc s) m p.3 (omega arith)) (decoded b (suc s + rows a) m p.4 (omega arith)))
  decoded (repetition a) s (suc m) p h = rw p.0 (ap repetition (decoded a (suc s) m p.3 (omega arith)))

  one_expression : (d e : Expression) (s : ℕ) → Placed kind name size d s → Placed kind name size e s → d ≡ e
  one_expression d e s p q = sym (decoded d s (rows d + rows e) p (omega arith)) ∙ decoded e s (rows d + rows e) q (omega arith)

  one_list : (ds es : List Expression) (s : ℕ) → Laid kind name size ds s → Laid kind name size es s → total ds ≡ total es → ds ≡ es
  one_list [] [] s p q z = refl
  one_list [] (e ∷ es) s p q z = absurd (omega (arith, rows_positive e))
  one_list (d ∷ ds) [] s p q z = absurd (omega (arith, rows_positive d))
  one_list (d ∷ ds) (e ∷ es) s p q z =
      let same = one_expression d e s p.0 q.0 in
      let t : rows d ≡ rows e = ap rows same in
      ap₂ ◌∷◌ same (one_list ds es (s + rows d) p.1 (subst (λ (n : ℕ). Laid kind name size es (s + n)) (sym t) q.1) (omega arith))

pub unique : {kind name size : List ℕ} {ds es : List Expression} → GoodTable kind name size ds → GoodTable kind name size es → ds ≡ es
unique {kind} {name} {size} {ds} {es} g h =
    one_list (number_at kind) (number_at name) (number_at size) ds es 0 (good_laid g) (good_laid h)
    (sym (kind_length g) ∙ kind_length h)
