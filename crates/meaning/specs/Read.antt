-- Not needed to believe any promise: what the walk and the proofs read off entries and records. The substitution that a record means is here a
-- function of the tree, beside when it may be read.
use Rattle.std.specs.Prelude.{ℕ, zero, suc, ◌-◌, ◌+◌, ◌≤◌, ◌<◌, List, [], ◌∷◌, ◌≡◌}
use Rattle.std.proofs.Math.Decide.{dec_lt}
use Rattle.meaning.specs.Forest.{Forest, none, some, Term, term, rows, Context, hole, node, hole_row, terms, size}
use Rattle.meaning.specs.Pattern.{Pattern, Kind, an_individual, a_sequence, a_function, a_context}
use Rattle.meaning.specs.Matcher.{Value, of_individual, of_sequence, of_function, of_context}
use Rattle.meaning.specs.Record.{Entry, firsts_t}

-- the values of entries, and the entries of all variables
abbrev pub values : List Entry → List Value
values [] = []
values (e ∷ B) = e.value ∷ values B

abbrev pub firsts : Pattern → List Value → List Entry
firsts P σ = firsts_t σ P 0 []

-- how far below a value's start what it holds goes on: the hole's row of a context, the count of a sequence
abbrev pub span : Value → ℕ
span (of_individual l us) = 0
span (of_sequence f) = terms f
span (of_function l) = 0
span (of_context c) = hole_row c

-- the first terms of a sequence
unfoldable pub take_t : ℕ → Forest → Forest
take_t zero us = none
take_t (suc c) none = none
take_t (suc c) (some l us rest) = some l us (take_t c rest)

-- the term at the row d and the terms to its right
abbrev pub from_in : {A : Type 0} → Dec A → Forest → Forest → Forest
from_in (yes h) inside behind = inside
from_in (no h) inside behind = behind

unfoldable pub forest_from_row : Forest → ℕ → Forest
forest_from_row none d = none
forest_from_row (some l us rest) zero = some l us rest
forest_from_row (some l us rest) (suc d) = from_in (dec_lt d (rows us)) (forest_from_row us d) (forest_from_row rest (d - rows us))

abbrev pub head_term : Forest → Term
head_term none = term 0 none
head_term (some l us rest) = term l us

-- a sequence cut at one of its rows: what stands left, the context around the term there, the term, what stands right
pub record Cut : Type 0 where
  pub left : Forest
  pub around : Context
  pub inner : Term
  pub right : Forest

abbrev pub cut_in : {A : Type 0} → Dec A → ℕ → Forest → Forest → Cut → Cut → Cut
cut_in (yes h) l us rest i o = record { left = none; around = node l i.left i.around i.right; inner = i.inner; right = rest }
cut_in (no h) l us rest i o = record { left = some l us o.left; around = o.around; inner = o.inner; right = o.right }

unfoldable pub cut_f : Forest → ℕ → Cut
cut_f none d = record { left = none; around = hole; inner = term 0 none; right = none }
cut_f (some l us rest) zero = record { left = none; around = hole; inner = term l us; right = rest }
cut_f (some l us rest) (suc d) = cut_in (dec_lt d (rows us)) l us rest (cut_f us d) (cut_f rest (d - rows us))

-- a term cut at a row of its own: the context, and what fills its hole. (Beyond its rows: the bare hole.)
pub record Split : Type 0 where
  pub around : Context
  pub at : Term

abbrev pub under : {A : Type 0} → Dec A → Term → Cut → Split
under (yes h) T c = record { around = node T.label c.left c.around c.right; at = c.inner }
under (no h) T c = record { around = hole; at = T }

unfoldable pub cut : Term → ℕ → Split
cut T zero = record { around = hole; at = T }
cut T (suc d) = under (dec_lt d (rows T.args)) T (cut_f T.args d)

-- the value of the kind k at a record's numbers a and b; R is the tree
abbrev pub value_at : Kind → Forest → ℕ → ℕ → Value
value_at an_individual R a b = of_individual (head_term (forest_from_row R a)).label (head_term (forest_from_row R a)).args
value_at a_sequence R a b = of_sequence (take_t b (forest_from_row R a))
value_at a_function R a b = of_function (head_term (forest_from_row R a)).label
value_at a_context R a b = of_context (cut (head_term (forest_from_row R a)) (b - a)).around

abbrev pub read_off : List Kind → Forest → List ℕ → List Value
read_off [] R r = []
read_off (k ∷ Q) R [] = []
read_off (k ∷ Q) R (a ∷ []) = []
read_off (k ∷ Q) R (a ∷ b ∷ r) = value_at k R a b ∷ read_off Q R r

-- the two numbers a and b are good for a variable of the kind k; R is the tree, as a list of one
abbrev pub Fits : Kind → Forest → ℕ → ℕ → Type 0
Fits an_individual R a b = (a < rows R) × (b ≡ 0)
Fits a_sequence R a b = (a ≤ rows R) × (b ≤ terms (forest_from_row R a))
Fits a_function R a b = (a < rows R) × (b ≡ 0)
Fits a_context R a b = (a < rows R) × (a ≤ b) × (b < a + size (head_term (forest_from_row R a)))

-- two good numbers for each variable, and no more
abbrev pub GoodRecord : List Kind → Forest → List ℕ → Type 0
GoodRecord [] R [] = Unit {0}
GoodRecord [] R (a ∷ r) = ⊥
GoodRecord (k ∷ Q) R [] = ⊥
GoodRecord (k ∷ Q) R (a ∷ []) = ⊥
GoodRecord (k ∷ Q) R (a ∷ b ∷ r) = Fits k R a b × GoodRecord Q R r
