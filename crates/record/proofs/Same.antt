-- What the comparison of the record that was found with the one that was lent says.
use Prim.Native.Nat.{ℕ}
use mathlib.Core.Path.{◌≡◌}
use mathlib.Core.Bool.{Bool}
use mathlib.Core.List.{List}
use lib.Dec.{eqb}
use lib.ListN.{length, take}
use lib.Pointwise.{pointwise}
use Rattle.std.specs.Bool.{Decides}
use Rattle.std.proofs.lemmas.Bool.Decides.{Decides-eqb}
use Rattle.std.proofs.lemmas.Slice.Eq.{slice_eq-Decides}
use Rattle.meaning.specs.Calls.{Says}
use Rattle.record.specs.Copied.{Copied}

pub says_copied : {list found : List ℕ} {r : Bool} → length found ≡ 32 → r ≡ pointwise eqb (take (length list) found) list → Says r (Copied list found)
says_copied {list} {found} {r} long told =
    let same : Decides r (take (length list) found ≡ list) = slice_eq-Decides Decides-eqb (take (length list) found) list r told in
    (λ e. record { long = long; same = same.0 e }, λ copied. same.1 copied.same)
