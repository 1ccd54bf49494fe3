use Prim.Native.Nat.{ℕ}
use mathlib.Core.Bool.{Bool}
use mathlib.Core.List.{List}
use mathlib.Core.Path.{◌≡◌, refl}
use lib.Dec.{T, eqb, eqb→eq}
use lib.ListN.{length, get_or}
use Rattle.grammar.specs.Classes.{class_number}
use Rattle.tokens.specs.Tokens.{Coded}
use Rattle.tokens.proofs.Table.{every, at}
use Rattle.tokens.proofs.class.codes.Goals as goal

-- The table's rule, proved at all of its entries by one test that antt computes.
right : ℕ → ℕ → Bool
right k x = eqb x (class_number k)

coded : (xs : List ℕ) → length xs ≡ 128 → T (every right 0 xs) → Coded xs
unfolding right
coded xs n t = record { each = λ k h. eqb→eq (get_or xs k 0) (class_number k) (at right xs t k (rw n h)) }

pub returns : goal.returns
unfolding right class_number
returns c = coded _ refl tt
