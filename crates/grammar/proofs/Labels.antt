-- Labels, made of sort and number: half the label is the number, an even label is an element's.
use mathlib.Core.Path.{◌≡◌, refl, ap}
use mathlib.Core.Logic.{◌↔◌}
use mathlib.Core.List.{List, [], ◌∷◌}
use Prim.Native.Nat.{ℕ, zero, suc, ◌*◌, ◌/◌, ◌%◌, ◌<◌}
use native.Mathlib.Omega.{arith}
use lib.ListN.{length, get_or}
use Rattle.grammar.specs.Rows.{Sort, of_element, of_text, label_of, label_each}

pub half_label : (s : Sort) (n : ℕ) → label_of s n / 2 ≡ n
half_label of_element n = omega arith
half_label of_text n = omega arith

pub label_even : (s : Sort) (n : ℕ) → (label_of s n % 2 ≡ 0) ↔ (s ≡ of_element)
label_even of_element n = (λ h. refl, λ h. omega arith)
label_even of_text n = (λ h. absurd (omega (arith, h)), λ h. absurd (omega (arith, ap (λ q. label_of q n) h)))

pub label_below : (s : Sort) (n m : ℕ) → n < m → label_of s n < 2 * m
label_below of_element n m h = omega arith
label_below of_text n m h = omega arith

-- equal labels are of equal sorts
pub label_sort : (s t : Sort) (n m : ℕ) → label_of s n ≡ label_of t m → s ≡ t
label_sort of_element of_element n m e = refl
label_sort of_element of_text n m e = absurd (omega (arith, e))
label_sort of_text of_element n m e = absurd (omega (arith, e))
label_sort of_text of_text n m e = refl

-- ROW BY ROW
pub label_each_lem : (ss : List Sort) (ns : List ℕ) (i : ℕ) → i < length ss → i < length ns → get_or (label_each ss ns) i 0 ≡ label_of (get_or ss i of_element) (get_or ns i 0)
label_each_lem [] ns i h k = absurd (omega arith)
label_each_lem (s ∷ ss) [] i h k = absurd (omega arith)
label_each_lem (s ∷ ss) (n ∷ ns) zero h k = refl
label_each_lem (s ∷ ss) (n ∷ ns) (suc i) h k = label_each_lem ss ns i (omega arith) (omega arith)

pub length_each : (ss : List Sort) (ns : List ℕ) → length ss ≡ length ns → length (label_each ss ns) ≡ length ns
length_each [] [] h = refl
length_each [] (n ∷ ns) h = absurd (omega (arith, h))
length_each (s ∷ ss) [] h = absurd (omega (arith, h))
length_each (s ∷ ss) (n ∷ ns) h = ap suc (length_each ss ns (omega (arith, h)))
