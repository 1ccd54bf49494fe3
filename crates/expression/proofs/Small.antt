-- The symbols of a good table are below 65,536, as all its names are.
use mathlib.Core.Path.{◌≡◌, subst}
use mathlib.Core.List.{List, [], ◌∷◌}
use Prim.Native.Nat.{ℕ, ◌<◌}
use native.Mathlib.Omega.{arith}
use lib.ListN.{length, get_or}
use Rattle.meaning.proofs.Lists.{Each, each_at, at_each, each_append, each_parts}
use Rattle.expression.proofs.Columns.{names_are}
use Rattle.expression.specs.Expression.{Expression, symbol, empty, concatenation, choice, repetition}
use Rattle.expression.specs.Rows.{GoodTable}
use Rattle.expression.specs.Columns.{name_of, preorder, name_rows}

abbrev pub SymbolsFit : Expression → Type 0
SymbolsFit (symbol f) = f < 65536
SymbolsFit empty = Unit {0}
SymbolsFit (concatenation a b) = SymbolsFit a × SymbolsFit b
SymbolsFit (choice a b) = SymbolsFit a × SymbolsFit b
SymbolsFit (repetition a) = SymbolsFit a

abbrev pub AllFit : List Expression → Type 0
AllFit [] = Unit {0}
AllFit (e ∷ es) = SymbolsFit e × AllFit es

fit_each : (e : Expression) → SymbolsFit e → Each 65536 (preorder name_of e)
fit_each (symbol f) h = (h, tt)
fit_each empty h = (omega arith, tt)
fit_each (concatenation a b) h = (omega arith, each_append 65536 (preorder name_of a) (preorder name_of b) (fit_each a h.0) (fit_each b h.1))
fit_each (choice a b) h = (omega arith, each_append 65536 (preorder name_of a) (preorder name_of b) (fit_each a h.0) (fit_each b h.1))
fit_each (repetition a) h = (omega arith, fit_each a h)

each_fit : (e : Expression) → Each 65536 (preorder name_of e) → SymbolsFit e
each_fit (symbol f) h = h.0
each_fit empty h = tt
each_fit (concatenation a b) h = let p = each_parts 65536 (preorder name_of a) (preorder name_of b) h.1 in (each_fit a p.0, each_fit b p.1)
each_fit (choice a b) h = let p = each_parts 65536 (preorder name_of a) (preorder name_of b) h.1 in (each_fit a p.0, each_fit b p.1)
each_fit (repetition a) h = each_fit a h.1

all_each : (es : List Expression) → AllFit es → Each 65536 (name_rows es)
all_each [] h = tt
all_each (e ∷ es) h = each_append 65536 (preorder name_of e) (name_rows es) (fit_each e h.0) (all_each es h.1)

each_all : (es : List Expression) → Each 65536 (name_rows es) → AllFit es
each_all [] h = tt
each_all (e ∷ es) h = let p = each_parts 65536 (preorder name_of e) (name_rows es) h in (each_fit e p.0, each_all es p.1)

pub all_small : {name : List ℕ} (es : List Expression) → name ≡ name_rows es → AllFit es → (i : ℕ) → i < length name → get_or name i 0 < 65536
all_small {name} es e h = rw e (each_at 65536 (name_rows es) (all_each es h))

pub small_all : {kind name size : List ℕ} {es : List Expression} → GoodTable kind name size es → AllFit es
small_all {name = name} {es = es} g = each_all es (subst (λ (l : List ℕ). Each 65536 l) (names_are es g) (at_each 65536 name g.small))
