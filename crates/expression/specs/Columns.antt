-- Not needed to believe the promise: each of the three lists by itself, for the proofs and for the contracts of functions that only our own
-- crates call.
use Rattle.std.specs.Prelude.{List, [], ◌∷◌, ◌++◌, ℕ, suc, ◌+◌}
use Rattle.expression.specs.Expression.{Expression, symbol, empty, concatenation, choice, repetition}

abbrev pub kind_of : Expression → ℕ
kind_of (symbol f) = 0
kind_of empty = 1
kind_of (concatenation a b) = 2
kind_of (choice a b) = 3
kind_of (repetition a) = 4

abbrev pub name_of : Expression → ℕ
name_of (symbol f) = f
name_of empty = 0
name_of (concatenation a b) = 0
name_of (choice a b) = 0
name_of (repetition a) = 0

-- the size: how many rows an expression takes, itself included
abbrev pub rows : Expression → ℕ
rows (symbol f) = 1
rows empty = 1
rows (concatenation a b) = suc (rows a + rows b)
rows (choice a b) = suc (rows a + rows b)
rows (repetition a) = suc (rows a)

-- the numbers of the rows of an expression in preorder, `own` giving that of its first row
abbrev pub preorder : (own : Expression → ℕ) → Expression → List ℕ
preorder own (symbol f) = own (symbol f) ∷ []
preorder own empty = own empty ∷ []
preorder own (concatenation a b) = own (concatenation a b) ∷ (preorder own a ++ preorder own b)
preorder own (choice a b) = own (choice a b) ∷ (preorder own a ++ preorder own b)
preorder own (repetition a) = own (repetition a) ∷ preorder own a

-- whole expressions one after another
abbrev pub all_rows : (own : Expression → ℕ) → List Expression → List ℕ
all_rows own [] = []
all_rows own (e ∷ es) = preorder own e ++ all_rows own es

abbrev pub kind_rows : List Expression → List ℕ
kind_rows es = all_rows kind_of es

abbrev pub name_rows : List Expression → List ℕ
name_rows es = all_rows name_of es

abbrev pub size_rows : List Expression → List ℕ
size_rows es = all_rows rows es
