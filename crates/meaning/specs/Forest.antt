-- 01, "From document to tree" and "What a matcher is": ground terms, sequences of them, and ground terms with one hole.
use Rattle.std.specs.Prelude.{ℕ, suc, ◌+◌}

-- a sequence of terms: none, or a term label(args) and the terms to its right
pub data Forest : Type 0 where
  none : Forest
  some : (label : ℕ) (args rest : Forest) → Forest
  deriving Discrete as Forest-discrete

pub record Term : Type 0 where
  pub label : ℕ
  pub args : Forest

abbrev pub term : ℕ → Forest → Term
term l us = record { label = l; args = us }

-- one term in front of a sequence
abbrev pub ◌◂◌ : Term → Forest → Forest
◌◂◌ T f = some T.label T.args f

infixr 60 ◌◂◌
-- one sequence behind another
unfoldable pub ◌⊕◌ : Forest → Forest → Forest
◌⊕◌ none g = g
◌⊕◌ (some l us rest) g = some l us (◌⊕◌ rest g)

infixr 60 ◌⊕◌
-- how many rows it takes in preorder, and how many terms it has side by side
unfoldable pub rows : Forest → ℕ
rows none = 0
rows (some l us rest) = suc (rows us + rows rest)

unfoldable pub terms : Forest → ℕ
terms none = 0
terms (some l us rest) = suc (terms rest)

-- the rows of a term, itself included
abbrev pub size : Term → ℕ
size T = suc (rows T.args)

-- a term with one hole: the bare hole, or label(left, inner, right) with the hole in inner
pub data Context : Type 0 where
  hole : Context
  node : (label : ℕ) (left : Forest) (inner : Context) (right : Forest) → Context
  deriving Discrete as Context-discrete

-- the context with a term in its hole
unfoldable pub plug : Context → Term → Term
plug hole T = T
plug (node l left c right) T = term l (left ⊕ (plug c T ◂ right))

-- the row of the hole, counted from the context's own start
unfoldable pub hole_row : Context → ℕ
hole_row hole = 0
hole_row (node l left c right) = suc (rows left + hole_row c)
