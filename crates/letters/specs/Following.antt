-- Not needed to believe the promise: how the tables are filled, row by row.
use Rattle.std.specs.Prelude.{◌≡◌, Bool, true, false, ◌&&◌, ◌||◌, List, [], ◌∷◌, ℕ, zero, suc, ◌+◌, ◌<◌, ◌≤◌, ◌^◌}
use Rattle.std.specs.Int.Bits.{bit_or}
use Rattle.expression.specs.Expression.{Expression, symbol, empty, concatenation, choice, repetition}
use Rattle.expression.specs.Columns.{rows}
use Rattle.expression.specs.Rule.{left_of, right_of}
use Rattle.letters.specs.declared.Tables.{Tables}
use Rattle.letters.specs.Tables.{name_of, first_of, null_of, cont_of, ends_of}

-- ---- what may come first in a row's words, and whether the empty word is one: from the last row up

abbrev pub gate : Bool → ℕ → ℕ
gate true x = x
gate false x = 0

abbrev pub head_set : ℕ → ℕ → ℕ → Bool → ℕ → ℕ
head_set zero s fl nl fr = 2 ^ s
head_set (suc zero) s fl nl fr = 0
head_set (suc (suc zero)) s fl nl fr = bit_or fl (gate nl fr)
head_set (suc (suc (suc zero))) s fl nl fr = bit_or fl fr
head_set (suc (suc (suc (suc k)))) s fl nl fr = fl

abbrev pub head_null : ℕ → Bool → Bool → Bool
head_null zero nl nr = false
head_null (suc zero) nl nr = true
head_null (suc (suc zero)) nl nr = nl && nr
head_null (suc (suc (suc zero))) nl nr = nl || nr
head_null (suc (suc (suc (suc k)))) nl nr = true

-- the row s has the first letters that its parts have
module _ (kind size first : ℕ → ℕ) (null : ℕ → Bool) (s : ℕ) where
  abbrev pub HeadRow : Type 0
  HeadRow =
      (first s ≡ head_set (kind s) s (first (left_of (kind s) s)) (null (left_of (kind s) s)) (first (right_of (kind s) s (size (s + 1)))))
      × (null s ≡ head_null (kind s) (null (left_of (kind s) s)) (null (right_of (kind s) s (size (s + 1)))))

-- each row's parts are rows
abbrev pub Shape : (kind size : ℕ → ℕ) → ℕ → Type 0
Shape kind size n = (s : ℕ) → s < n → (left_of (kind s) s < n) × (right_of (kind s) s (size (s + 1)) < n)

abbrev pub PartsAre : ℕ → ℕ → ℕ → ℕ → ℕ → Type 0
PartsAre k s z l r = (l ≡ left_of k s) × (r ≡ right_of k s z)

-- ---- what may come after a row's words: from the first row down

-- after the left part of a row: o if the right part comes over it, l if it may come again, else what comes after the row
abbrev pub followed : {A : Type 0} → ℕ → A → A → A → A
followed zero o l v = v
followed (suc zero) o l v = v
followed (suc (suc zero)) o l v = o
followed (suc (suc (suc zero))) o l v = v
followed (suc (suc (suc (suc k)))) o l v = l

module _ (first : ℕ → ℕ) (null : ℕ → Bool) where
  abbrev pub over_set : ℕ → ℕ → ℕ
  over_set r k = bit_or (first r) (gate (null r) k)

  abbrev pub over_end : ℕ → Bool → Bool
  over_end r f = null r && f

  abbrev pub loop_set : ℕ → ℕ → ℕ
  loop_set l k = bit_or (first l) k

  abbrev pub loop_end : ℕ → Bool → Bool
  loop_end l f = f

-- e stands at s and v comes after it; the parts of the rows before i have got what comes after them
module _ {A : Type 0} (over loop : ℕ → A → A) (after : ℕ → A) where
  abbrev pub Filled : Expression → ℕ → ℕ → A → Type 0
  Filled (symbol f) s i v = after s ≡ v
  Filled empty s i v = after s ≡ v
  Filled (concatenation a b) s i v =
      (after s ≡ v) × (s < i → Filled a (suc s) i (over (suc s + rows a) v) × Filled b (suc s + rows a) i v)
  Filled (choice a b) s i v = (after s ≡ v) × (s < i → Filled a (suc s) i v × Filled b (suc s + rows a) i v)
  Filled (repetition a) s i v = (after s ≡ v) × (s < i → Filled a (suc s) i (loop (suc s) v))

  abbrev pub AllFilled : List Expression → ℕ → ℕ → A → Type 0
  AllFilled [] s i v = Unit {0}
  AllFilled (e ∷ es) s i v = Filled e s i v × AllFilled es (s + rows e) i v

-- the same for the expressions es: after a top-level expression nothing comes, and the word may end
pub record ContsOf (first : ℕ → ℕ) (null : ℕ → Bool) (cont : ℕ → ℕ) (ends : ℕ → Bool) (es : List Expression) (i : ℕ) : Type 0 where
  pub sets : AllFilled (over_set first null) (loop_set first null) cont es 0 i 0
  pub finals : AllFilled (over_end first null) (loop_end first null) ends es 0 i true

-- ---- the two ways through the tables of n rows

-- nothing comes after the rows from `row` on, and the word may end there
abbrev pub Fresh : Tables → (row n : ℕ) → Type 0
Fresh tables row n = (s : ℕ) → row ≤ s → s < n → (cont_of tables s ≡ 0) × (ends_of tables s ≡ true)

-- the rows from `row` on have their names and their heads, and nothing comes after them yet
pub record Laid (kind name size : ℕ → ℕ) (n : ℕ) (tables : Tables) (row : ℕ) : Type 0 where
  pub names : (s : ℕ) → row ≤ s → s < n → name_of tables s ≡ name s
  pub heads : (s : ℕ) → row ≤ s → s < n → HeadRow kind size (first_of tables) (null_of tables) s
  pub fresh : Fresh tables row n

-- only what comes after the rows has changed
pub record SameHeads (old new : Tables) : Type 0 where
  pub names : name_of new ≡ name_of old
  pub firsts : first_of new ≡ first_of old
  pub nulls : null_of new ≡ null_of old
