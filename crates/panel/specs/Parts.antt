-- 02, #106: "their tables laid end to end with lists of lengths, shares of the output": which part of a list belongs to a problem.
use Rattle.std.specs.Prelude.{ℕ, zero, suc, ◌+◌, ◌≡◌, List, [], ◌∷◌, ◌++◌, length, get_or, take, drop}
use Rattle.catalogue.specs.Listing.{joined}

-- "sums taken without wrapping"
unfoldable pub sum : List ℕ → ℕ
sum [] = 0
sum (n ∷ ns) = n + sum ns

-- the i-th part of a list: as many entries as the i-th length says, behind the parts before it
abbrev pub part : ℕ → List ℕ → List ℕ → List ℕ
part i lengths list = take (get_or lengths i 0) (drop (sum (take i lengths)) list)

-- the first k parts, in order
unfoldable pub first_parts : ℕ → List ℕ → List ℕ → List (List ℕ)
first_parts zero lengths list = []
first_parts (suc k) lengths list = first_parts k lengths list ++ (part k lengths list ∷ [])

-- where the lengths add up to the list, its parts joined are the list: every entry belongs to one part
abbrev pub PartsJoined : Type 0
PartsJoined = (lengths list : List ℕ) → sum lengths ≡ length list → joined (first_parts (length lengths) lengths list) ≡ list
