-- The labels of a document's rows: half of one is the number of the row's spelling, and it is even exactly for an element's.
use mathlib.Core.Path.{◌≡◌, sym, ap, ◌∙◌}
use mathlib.Core.Logic.{◌↔◌}
use mathlib.Core.List.{List, []}
use Prim.Native.Nat.{ℕ, ◌+◌, ◌*◌, ◌%◌, ◌≤◌, ◌<◌}
use native.Mathlib.Omega.{arith}
use lib.ListN.{length, get_or, length-map}
use Rattle.grammar.specs.Grammar.{◌⊲◌, Content}
use Rattle.grammar.specs.Rows.{of_element, label_of, Row, rows_of}
use Rattle.grammar.proofs.Labels.{half_label, label_even, label_below, label_sort, label_each_lem, length_each}
use Rattle.dictionary.specs.Numbers.{numbers_of}
use Rattle.dictionary.specs.Spelling.{half}
use Rattle.dictionary.proofs.Numbers.{length_numbers, number_below, equal_numbers, equal_spellings}
use Rattle.document.specs.Reading.{spellings_of, sorts_of, labels_of}

spellings_all : (f : Content) → length (spellings_of f) ≡ length (rows_of f)
spellings_all f = length-map (rows_of f) (λ (x : Row). x.spelling ⊲ [])

pub spelled_row : (f : Content) (i : ℕ) → i < length (rows_of f) → i < length (spellings_of f)
spelled_row f i h = omega (arith, spellings_all f)

module _ (names : List (List ℕ)) (f : Content) where
  sorts_all : length (sorts_of f) ≡ length (spellings_of f)
  sorts_all = length-map (rows_of f) (λ (x : Row). x.sort) ∙ sym (spellings_all f)

  pub length_labels : length (labels_of names f) ≡ length (spellings_of f)
  length_labels =
      length_each (sorts_of f) (numbers_of names (spellings_of f)) (sorts_all ∙ sym (length_numbers names (spellings_of f))) ∙ length_numbers names (spellings_of f)

  module _ (i : ℕ) (h : i < length (spellings_of f)) where
    label_is : get_or (labels_of names f) i 0 ≡ label_of (get_or (sorts_of f) i of_element) (get_or (numbers_of names (spellings_of f)) i 0)
    label_is = label_each_lem (sorts_of f) (numbers_of names (spellings_of f)) i (omega (arith, sorts_all)) (omega (arith, length_numbers names (spellings_of f)))

    pub half_at : half (get_or (labels_of names f) i 0) ≡ get_or (numbers_of names (spellings_of f)) i 0
    half_at = ap half label_is ∙ half_label (get_or (sorts_of f) i of_element) (get_or (numbers_of names (spellings_of f)) i 0)

    pub even_at : (get_or (labels_of names f) i 0 % 2 ≡ 0) ↔ (get_or (sorts_of f) i of_element ≡ of_element)
    even_at = rw label_is (label_even (get_or (sorts_of f) i of_element) (get_or (numbers_of names (spellings_of f)) i 0))

    pub below_at : get_or (labels_of names f) i 0 < 2 * (length names + length (spellings_of f))
    below_at = rw label_is (label_below (get_or (sorts_of f) i of_element) (get_or (numbers_of names (spellings_of f)) i 0) (length names + length (spellings_of f)) (number_below names (spellings_of f) i h))

    pub small_at : length names ≤ 1024 → length (rows_of f) ≤ 2048 → get_or (labels_of names f) i 0 < 6144
    small_at a b = omega (arith, below_at, spellings_all f)

  module _ (i j : ℕ) (h : i < length (spellings_of f)) (k : j < length (spellings_of f)) where
    pub same_half : (half (get_or (labels_of names f) i 0) ≡ half (get_or (labels_of names f) j 0)) ↔ (get_or (spellings_of f) i [] ≡ get_or (spellings_of f) j [])
    same_half = (
      λ e. equal_spellings names (spellings_of f) i j h k (sym (half_at i h) ∙ e ∙ half_at j k),
      λ e. half_at i h ∙ equal_numbers names (spellings_of f) i j h k e ∙ sym (half_at j k),
    )

    pub same_label : (get_or (labels_of names f) i 0 ≡ get_or (labels_of names f) j 0)
        ↔ ((get_or (spellings_of f) i [] ≡ get_or (spellings_of f) j []) × (get_or (sorts_of f) i of_element ≡ get_or (sorts_of f) j of_element))
    same_label = (
      λ e. (same_half.0 (ap half e), label_sort _ _ _ _ (sym (label_is i h) ∙ e ∙ label_is j k)),
      λ e. label_is i h ∙ ap (λ q. label_of q (get_or (numbers_of names (spellings_of f)) i 0)) e.1
          ∙ ap (label_of (get_or (sorts_of f) j of_element)) (equal_numbers names (spellings_of f) i j h k e.0) ∙ sym (label_is j k),
    )
