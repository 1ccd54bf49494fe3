-- Not needed to believe the promise: the sizes of a tree's rows follow from how deep the rows are (01, "From document to tree").
use Rattle.std.specs.Prelude.{cond, List, [], ◌∷◌, ℕ, suc, ltb}

-- how many rows are deeper than d, up to the first that is not
unfoldable pub deeper : ℕ → List ℕ → ℕ
deeper d [] = 0
deeper d (e ∷ es) = cond (ltb d e) (suc (deeper d es)) 0

-- a row holds itself and the rows behind it that are deeper
unfoldable pub sizes_of : List ℕ → List ℕ
sizes_of [] = []
sizes_of (d ∷ ds) = suc (deeper d ds) ∷ sizes_of ds
