-- Not needed to believe the promise: what a text's lines are, the parts between its line feeds, but for an empty one at its end.
use Rattle.std.specs.Prelude.{◌≢◌, ℕ, List, [], ◌∷◌, ◌++◌, EachIndex, slice_index}

-- none of its bytes is a line feed
abbrev pub IsOneLine : List ℕ → Type 0
IsOneLine line = EachIndex line (λ k. slice_index line k ≢ 10)

-- P holds of each line of the text
pub data EachLine (P : List ℕ → Type 0) : List ℕ → Type 0 where
  none : EachLine P []
  last : {line : List ℕ} → IsOneLine line → P line → EachLine P line
  more : {line rest : List ℕ} → IsOneLine line → P line → EachLine P rest → EachLine P (line ++ 10 ∷ rest)
