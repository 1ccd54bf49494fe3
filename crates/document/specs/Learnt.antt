-- Not needed to believe the promise: what `read` knows once the dictionary's names are learnt, from an index that was clear.
use Rattle.std.specs.Prelude.{true, List, ℕ, ◌≤◌, length}
use Rattle.dictionary.specs.Index.{NamesLearnt}

pub record MayRead (d w : List ℕ) (names : ℕ) (clear index : List ℕ) : Type 0 where
  pub learnt : NamesLearnt d true names clear index
  pub large : 11264 ≤ length clear
  pub short : length w ≤ 32768
