-- Not needed to believe the promise: the rule on a row and its parts, by which the check works row by row.
use Rattle.std.specs.Prelude.{◌≡◌, List, ℕ, zero, suc, ◌+◌, ◌<◌, get_or}

-- the number of a row, 0 where there is none
abbrev pub number_at : List ℕ → ℕ → ℕ
number_at list = λ row. get_or list row 0

-- the rows of the parts of a row s of a kind, z being the size of the row below it; a leaf stands for its own parts
abbrev pub left_of : ℕ → ℕ → ℕ
left_of zero s = s
left_of (suc zero) s = s
left_of (suc (suc k)) s = s + 1

abbrev pub right_of : ℕ → ℕ → ℕ → ℕ
right_of zero s z = s
right_of (suc zero) s z = s
right_of (suc (suc zero)) s z = s + 1 + z
right_of (suc (suc (suc zero))) s z = s + 1 + z
right_of (suc (suc (suc (suc k)))) s z = s + 1

-- the size of a row of a kind whose parts have the sizes l and r
abbrev pub size_from : ℕ → ℕ → ℕ → ℕ
size_from zero l r = 1
size_from (suc zero) l r = 1
size_from (suc (suc zero)) l r = l + r + 1
size_from (suc (suc (suc zero))) l r = l + r + 1
size_from (suc (suc (suc (suc k)))) l r = l + 1

abbrev pub NameFits : ℕ → ℕ → Type 0
NameFits zero x = x < 65536
NameFits (suc k) x = x ≡ 0

-- the row s of n rows has a kind, its parts are rows, and its size is right
pub record SizeFits (kind size : ℕ → ℕ) (n s : ℕ) : Type 0 where
  pub known : kind s < 5
  pub left : left_of (kind s) s < n
  pub right : right_of (kind s) s (size (s + 1)) < n
  pub whole : size s ≡ size_from (kind s) (size (left_of (kind s) s)) (size (right_of (kind s) s (size (s + 1))))
