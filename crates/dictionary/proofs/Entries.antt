-- A known spelling is compared with the document's.
use mathlib.Core.Path.{◌≡◌, sym, ap, ◌∙◌}
use mathlib.Core.Bool.{Bool, false, true≢false}
use mathlib.Core.List.{List, []}
use Prim.Native.Nat.{ℕ, ◌+◌, ◌-◌, ◌*◌, ◌≤◌, ◌<◌}
use native.Mathlib.Omega.{arith}
use lib.ListN.{length, get_or}
use borrow.Author.Tests.{lt-ltb, le-ltb}
use Rattle.meaning.specs.Calls.{Says}
use Rattle.dictionary.specs.Scan.{range}
use Rattle.dictionary.specs.Index.{source_of, Entry, MayNumber}
use Rattle.dictionary.proofs.Ranges.{range_length}

pub source_name : (dictionary document : List ℕ) (names place : ℕ) → place < names → source_of dictionary document names place ≡ dictionary
source_name dictionary document names place h = simp (lt-ltb place names h)

pub source_new : (dictionary document : List ℕ) (names place : ℕ) → names ≤ place → source_of dictionary document names place ≡ document
source_new dictionary document names place h = simp (le-ltb place names h)

-- A KNOWN SPELLING COMPARED: it stands in its source from `at` to `to`
module _ {dictionary document : List ℕ} {names : ℕ} {index : List ℕ} {count start end : ℕ} {known : List (List ℕ)}
    (m : MayNumber dictionary document names index count start end known) (place : ℕ) (p : place < count) {at to : ℕ}
    (is_at : at ≡ get_or index (2048 + 3 * place) 0) (is_to : to ≡ get_or index (2049 + 3 * place) 0) where
  here : Entry (source_of dictionary document names place) (get_or known place []) at to
  here = rw (is_at, is_to) (m.indexed.entry place (omega (arith, m.counted)))

  pub entry_ordered : at ≤ to
  entry_ordered = here.ordered

  entry_size : length (get_or known place []) ≡ to - at
  entry_size = ap length here.spelled ∙ range_length (source_of dictionary document names place) at to here.inside

  pub entry_differs : (to - at ≡ end - start → ⊥) → Says false (get_or known place [] ≡ range document start end)
  entry_differs n =
      (λ e. absurd (true≢false (sym e)), λ e. absurd (n (omega (arith, entry_size, ap length e, range_length document start end m.inside))))

  module _ (source : List ℕ) (is_source : source_of dictionary document names place ≡ source) (even : to - at ≡ end - start) where
    entry_inside : at + (end - start) ≤ length source
    entry_inside = omega (arith, here.inside, here.ordered, ap length is_source)

    entry_says : (r : Bool) → Says r (range source at (at + (end - start)) ≡ range document start end) → Says r (get_or known place [] ≡ range document start end)
    entry_says r s =
        let far : to ≡ at + (end - start) = omega (arith, here.ordered) in
        let same : get_or known place [] ≡ range source at (at + (end - start)) = here.spelled ∙ ap (λ (l : List ℕ). range l at to) is_source ∙ ap (range source at) far in
        (λ e. same ∙ s.0 e, λ e. s.1 (sym same ∙ e))

  -- a name, which stands in the dictionary
  module _ (h : place < names) (even : to - at ≡ end - start) where
    pub name_inside : at + (end - start) ≤ length dictionary
    name_inside = entry_inside dictionary (source_name dictionary document names place h) even

    pub name_says : (r : Bool) → Says r (range dictionary at (at + (end - start)) ≡ range document start end) → Says r (get_or known place [] ≡ range document start end)
    name_says = entry_says dictionary (source_name dictionary document names place h) even

  -- a spelling that was learnt from the document
  module _ (h : names ≤ place) (even : to - at ≡ end - start) where
    pub learnt_inside : at + (end - start) ≤ length document
    learnt_inside = entry_inside document (source_new dictionary document names place h) even

    pub learnt_says : (r : Bool) → Says r (range document at (at + (end - start)) ≡ range document start end) → Says r (get_or known place [] ≡ range document start end)
    learnt_says = entry_says document (source_new dictionary document names place h) even
