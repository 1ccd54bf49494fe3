-- Not needed to believe the promise: the lists in which rows are noted.
use Rattle.std.specs.Prelude.{◌≡◌, List, ◌++◌, ℕ, length, set, take, drop}

-- the list has these numbers first
pub record Holds (xs l : List ℕ) : Type 0 where
  pub rest : List ℕ
  pub is : l ≡ xs ++ rest

-- the three lists have room for 2,052 rows
pub record Long (s l z : List ℕ) : Type 0 where
  pub starts_long : length s ≡ 2052
  pub lengths_long : length l ≡ 2052
  pub sizes_long : length z ≡ 2052

-- three lists, each with one entry stored
pub record Put (row start size : ℕ) (s l z s' l' z' : List ℕ) : Type 0 where
  pub start_put : s' ≡ set s row start
  pub length_put : l' ≡ set l row size
  pub size_put : z' ≡ set z row 1

-- the first n numbers of three lists are copied into three lent ones
pub record Copied (n : ℕ) (s l z start width size start' width' size' : List ℕ) : Type 0 where
  pub start_copy : start' ≡ take n s ++ drop n start
  pub width_copy : width' ≡ take n l ++ drop n width
  pub size_copy : size' ≡ take n z ++ drop n size
