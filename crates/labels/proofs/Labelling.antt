-- Labels, row by row.
use mathlib.Core.Path.{◌≡◌, refl, sym, ap, ◌∙◌}
use mathlib.Core.Bool.{Bool, true, false, cond}
use mathlib.Core.List.{List, [], ◌∷◌, ◌++◌}
use Prim.Native.Nat.{ℕ, ◌+◌, ◌-◌, ◌*◌, ◌≤◌, ◌<◌}
use native.Mathlib.Omega.{arith}
use native.Mathlib.Numerals.{add-one}
use Rattle.std.specs.Int.{from_bool}
use lib.Dec.{eqb, ltb}
use borrow.Author.Tests.{eqb-true, eqb-false, ltb-true, ltb-false}
use lib.ListN.{length, get_or, set, take, length-append}
use lib.Seq.{take-suc}
use Rattle.meaning.specs.Calls.{Filled}
use Rattle.labels.proofs.Upto.{Upto, upto_more, upto_all}
use Rattle.dictionary.specs.Scan.{range}
use Rattle.dictionary.specs.Numbers.{place_of, learn, numbers_of}
use Rattle.dictionary.proofs.Numbers.{known_after, place_le, known_next, number_at, length_numbers}
use Rattle.dictionary.specs.Index.{Indexed, MayNumber, Numbered}
use Rattle.grammar.specs.Grammar.{less}
use Rattle.grammar.specs.Rows.{Sort, of_element, of_text, label_of, label_each}
use Rattle.grammar.specs.Told.{Tells}
use Rattle.grammar.proofs.Labels.{label_each_lem, length_each}
use Rattle.labels.specs.Labelling.{MayLabelRows}

known_more : (ns ws : List (List ℕ)) (r : ℕ) → r < length ws → known_after ns (take (r + 1) ws) ≡ learn (known_after ns (take r ws)) (get_or ws r [])
known_more ns ws r h = rw (add-one r, take-suc ws r [] h) (known_next ns (take r ws) (get_or ws r []))

learn_count : (ns : List (List ℕ)) (v : List ℕ) → length (learn ns v) ≡ cond (ltb (place_of ns v) (length ns)) (length ns) (length ns + 1)
learn_count ns v = go (ltb (place_of ns v) (length ns))
  where
    go : (t : Bool) → length (cond t ns (ns ++ (v ∷ []))) ≡ cond t (length ns) (length ns + 1)
    go true = refl
    go false = length-append ns (v ∷ [])

-- how many are known after a number was found: one that is not among the known ones is new
pub counted_new : (count found : ℕ) {new : ℕ} → found ≤ count → new ≡ from_bool (eqb found count) → count + new ≡ cond (ltb found count) count (count + 1)
counted_new count found {new} h = go (ltb found count) refl (eqb found count) refl
  where
    go : (s : Bool) → ltb found count ≡ s → (t : Bool) → eqb found count ≡ t → new ≡ from_bool t → count + new ≡ cond s count (count + 1)
    go true p true q e = absurd (omega (arith, ltb-true found count p, eqb-true found count q))
    go true p false q e = omega (arith, e)
    go false p true q e = omega (arith, e)
    go false p false q e = absurd (eqb-false found count q (omega (arith, ltb-false found count p)))

-- A LABEL, by the byte before the spelling
pub told_element : {w : List ℕ} {from : ℕ} (number : ℕ) (sort : Sort) → Tells w from sort → get_or w (from - 1) 0 ≡ less → 2 * number ≡ label_of sort number
told_element number of_element t e = refl
told_element number of_text t e = absurd (omega (arith, t.is, e))

pub told_text : {w : List ℕ} {from : ℕ} (number : ℕ) (sort : Sort) → Tells w from sort → (get_or w (from - 1) 0 ≡ less → ⊥) → 2 * number + 1 ≡ label_of sort number
told_text number of_element t e = absurd (e t.is)
told_text number of_text t e = refl

-- THE LOOP'S INVARIANT
pub record LabelledTo (d w : List ℕ) (names : ℕ) (index₀ label₀ index label : List ℕ) (known : List (List ℕ)) (sorts : List Sort) (ws : List (List ℕ)) (rows count row : ℕ) : Type 0 where
  pub indexed : Indexed d w names index (known_after known (take row ws))
  pub kept : length index ≡ length index₀
  pub counted : length (known_after known (take row ws)) ≡ count
  pub low : names ≤ count
  pub high : count ≤ names + row
  pub within : row ≤ rows
  pub labelled : Upto (label_each sorts (numbers_of known ws)) label₀ row label

module _ {d w : List ℕ} {names : ℕ} {index₀ label₀ start width : List ℕ} {rows : ℕ} {known : List (List ℕ)} {sorts : List Sort} {ws : List (List ℕ)}
    (m : MayLabelRows d w names index₀ label₀ start width rows known sorts ws) where
  numbers_rows : length (numbers_of known ws) ≡ rows
  numbers_rows = length_numbers known ws ∙ m.all

  labels_rows : length (label_each sorts (numbers_of known ws)) ≡ rows
  labels_rows = length_each sorts (numbers_of known ws) (m.sorted ∙ sym numbers_rows) ∙ numbers_rows

  pub labels_begin : LabelledTo d w names index₀ label₀ index₀ label₀ known sorts ws rows names 0
  labels_begin = record {
    indexed = m.indexed;
    kept = refl;
    counted = m.counted;
    low = omega arith;
    high = omega arith;
    within = omega arith;
    labelled = record { is = refl; long = refl };
  }

  module _ {index label : List ℕ} {count row : ℕ} (k : LabelledTo d w names index₀ label₀ index label known sorts ws rows count row) where
    pub labels_end : rows ≤ row → Filled (label_each sorts (numbers_of known ws)) label₀ label
    labels_end h = upto_all k.labelled (omega (arith, k.within, labels_rows))

    module _ (here : row < rows) {from to : ℕ} (is_from : from ≡ get_or start row 0) (is_to : to ≡ from + get_or width row 0) where
      to_is : to ≡ get_or start row 0 + get_or width row 0
      to_is = is_to ∙ ap (λ (n : ℕ). n + get_or width row 0) is_from

      pub to_short : to ≤ 32768
      to_short = omega (arith, to_is, (m.spells row here).inside, m.short)

      pub may_number : MayNumber d w names index count from to (known_after known (take row ws))
      may_number = record {
        indexed = k.indexed;
        counted = k.counted;
        named = k.low;
        room = omega (arith, k.high, k.kept, m.few_names, m.few_rows, m.large);
        countable = omega (arith, k.high, m.few_names, m.few_rows);
        ordered = omega (arith, is_to);
        inside = omega (arith, to_is, (m.spells row here).inside);
        short = omega (arith, to_short);
      }

      -- what the row is of
      pub its_sort : Tells w from (get_or sorts row of_element)
      its_sort = rw is_from (m.tells row here)

      pub from_inside : from ≤ length w
      from_inside = omega (arith, is_from, (m.spells row here).inside)

      spelling : range w from to ≡ get_or ws row []
      spelling = rw (to_is, is_from) (m.spells row here).is

      module _ {index' : List ℕ} {found : ℕ} (done : Numbered d w names index index' (known_after known (take row ws)) (range w from to) found) where
        place : found ≡ place_of (known_after known (take row ws)) (get_or ws row [])
        place = done.placed ∙ ap (place_of (known_after known (take row ws))) spelling

        pub found_few : found ≤ count
        found_few = omega (arith, place, place_le (known_after known (take row ws)) (get_or ws row []), k.counted)

        pub count_few : count ≤ 3071
        count_few = omega (arith, k.high, m.few_names, m.few_rows)

        in_ws : row < length ws
        in_ws = omega (arith, m.all)

        pub labels_next : {count' new : ℕ} → new ≡ label_of (get_or sorts row of_element) found → count' ≡ cond (ltb found count) count (count + 1) →
            LabelledTo d w names index₀ label₀ index' (set label row new) known sorts ws rows count' (row + 1)
        labels_next {count'} {new} made e = record {
          indexed = rw (known_more known ws row in_ws) (rw spelling at done.indexed);
          kept = done.kept ∙ k.kept;
          counted = ap length (known_more known ws row in_ws) ∙ learn_count (known_after known (take row ws)) (get_or ws row []) ∙ rw (← place, k.counted) (sym e);
          low = (bounds (ltb found count) e).0;
          high = (bounds (ltb found count) e).1;
          within = omega arith;
          labelled = upto_more k.labelled (omega (arith, here, m.room_label)) (omega (arith, labels_rows))
              (label_each_lem sorts (numbers_of known ws) row (omega (arith, m.sorted)) (omega (arith, numbers_rows))
              ∙ ap (label_of (get_or sorts row of_element)) (number_at known ws row in_ws ∙ sym place) ∙ sym made) refl;
        }
          where
            bounds : (t : Bool) → count' ≡ cond t count (count + 1) → (names ≤ count') × (count' ≤ names + (row + 1))
            bounds true h = (omega (arith, h, k.low), omega (arith, h, k.high))
            bounds false h = (omega (arith, h, k.low), omega (arith, h, k.high))
