-- 01, "From document to tree": "A spelling in the dictionary has its place there, from 0, as label; another gets K, K+1, .. by first
-- appearance in preorder." From 02, #101, on this is the spelling's number, of which the label is made (grammar/specs/Rows).
use Rattle.std.specs.Prelude.{Bool, true, false, cond, ◌&&◌, List, [], ◌∷◌, ◌++◌, ℕ, suc, eqb, ltb, length}

abbrev pub are_same_bytes : List ℕ → List ℕ → Bool
are_same_bytes [] [] = true
are_same_bytes [] (b ∷ w) = false
are_same_bytes (a ∷ v) [] = false
are_same_bytes (a ∷ v) (b ∷ w) = eqb a b && are_same_bytes v w

-- the place of the first spelling that is w, or the number of spellings
abbrev pub place_of : List (List ℕ) → List ℕ → ℕ
place_of [] w = 0
place_of (n ∷ ns) w = cond (are_same_bytes n w) 0 (suc (place_of ns w))

-- what is known after w: a spelling that is new is the last from then on
abbrev pub learn : List (List ℕ) → List ℕ → List (List ℕ)
learn known w = cond (ltb (place_of known w) (length known)) known (known ++ (w ∷ []))

-- the numbers of the rows whose spellings in preorder are given; at first the names are known.
-- Elements and texts alike: a number depends on the spelling alone.
abbrev pub numbers_of : List (List ℕ) → List (List ℕ) → List ℕ
numbers_of names [] = []
numbers_of names (w ∷ ws) = place_of names w ∷ numbers_of (learn names w) ws
