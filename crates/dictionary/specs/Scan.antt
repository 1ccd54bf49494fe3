-- Not needed to believe the promise: bytes cut at every byte 10, which the walk over the dictionary cites.
use Rattle.std.specs.Prelude.{cond, List, [], ◌∷◌, ℕ, suc, ◌-◌, eqb, take, drop}

-- the bytes from start up to end
abbrev pub range : List ℕ → ℕ → ℕ → List ℕ
range bytes start end = take (end - start) (drop start bytes)

-- how many bytes stand before the first byte 10
abbrev pub upto : List ℕ → ℕ
upto [] = 0
upto (b ∷ v) = cond (eqb b 10) 0 (suc (upto v))

abbrev pub push : ℕ → List (List ℕ) → List (List ℕ)
push b [] = (b ∷ []) ∷ []
push b (n ∷ ns) = (b ∷ n) ∷ ns

-- the pieces between the bytes 10; the last one may lack its byte 10
abbrev pub pieces : List ℕ → List (List ℕ)
pieces [] = []
pieces (b ∷ v) = cond (eqb b 10) ([] ∷ pieces v) (push b (pieces v))
