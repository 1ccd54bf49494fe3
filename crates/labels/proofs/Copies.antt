-- Lists that are copied into lent ones.
use mathlib.Core.Path.{◌≡◌, refl, ap, ◌∙◌}
use mathlib.Core.List.{List, ◌++◌}
use Prim.Native.Nat.{ℕ}
use lib.ListN.{length, take, drop}
use lib.Seq.{take_at}
use Rattle.meaning.specs.Calls.{Filled}
use Rattle.labels.specs.Lists.{Holds}

-- the rows that are noted, copied into a lent list
pub copied : {xs l after : List ℕ} (before : List ℕ) {n : ℕ} → Holds xs l → length xs ≡ n → after ≡ take n l ++ drop n before → Filled xs before after
copied {xs} {l} {after} before {n} h e q =
    q ∙ rw (ap (take n) h.is ∙ take_at xs h.rest n e, e) refl
