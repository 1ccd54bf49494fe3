-- The spelling lookup of a tree that was read.
use mathlib.Core.Path.{◌≡◌, refl, sym, ap, ◌∙◌}
use mathlib.Core.Bool.{Bool, true, false, cond}
use mathlib.Core.List.{List, [], ◌++◌}
use Prim.Native.Nat.{ℕ, ◌+◌, ◌<◌}
use native.Mathlib.Omega.{arith}
use lib.Dec.{ltb}
use lib.ListN.{length, get_or, take, drop, length-append, length-map}
use lib.Seq.{get_or-take}
use borrow.Author.Tests.{ltb-true, lt-ltb, le-leb}
use Rattle.grammar.specs.Grammar.{◌⊲◌, Content}
use Rattle.grammar.specs.Rows.{#, Row, rows_of, starts, lengths}
use Rattle.dictionary.specs.Names.{GoodDictionary}
use Rattle.dictionary.specs.Numbers.{numbers_of}
use Rattle.dictionary.proofs.Numbers.{known_after, number_spelling, known_at}
use Rattle.dictionary.specs.Spelling.{part_of_dictionary, part_of_document, half, spelling_of, bytes_of, SpellingAnswered}
use Rattle.dictionary.proofs.Parts.{name_bytes}
use Rattle.document.specs.Reading.{spellings_of, labels_of, Spelt, Read}
use Rattle.document.proofs.Labels.{half_at, length_labels}
use Rattle.document.proofs.Cases.{Cases, bad_dictionary, bad_document, without_room, filled, cases}
use Rattle.document.proofs.Promises.{spelt}

module _ {d w label start width : List ℕ} {names : List (List ℕ)} {f : Content} {rows row : ℕ} (g : GoodDictionary d names) (s : Spelt w label start width rows names f)
    (l : row < rows) (in_label : row < length label) (in_start : row < length start) (in_width : row < length width) where
  its_number : half (get_or label row 0) ≡ get_or (numbers_of names (spellings_of f)) row 0
  its_number =
      ap half (sym (get_or-take rows label row 0 l) ∙ ap (λ (xs : List ℕ). get_or xs row 0) s.labelled)
      ∙ half_at names f row (omega (arith, s.all))

  -- where the dictionary answers
  by_name : half (get_or label row 0) < length names → bytes_of d w (part_of_dictionary names (half (get_or label row 0))) ≡ get_or (spellings_of f) row []
  by_name p =
      name_bytes d names g (half (get_or label row 0)) p w
      ∙ sym (known_at names (spellings_of f) (half (get_or label row 0)) p)
      ∙ ap (λ (k : ℕ). get_or (known_after names (spellings_of f)) k []) its_number
      ∙ number_spelling names (spellings_of f) row (omega (arith, s.all))

  -- where the document does
  by_document : bytes_of d w (part_of_document w (get_or start row 0) (get_or width row 0)) ≡ get_or (spellings_of f) row []
  by_document = rw (le-leb (get_or start row 0 + get_or width row 0) (length w) (s.inside row l)) (s.bytes row l)

  answered : bytes_of d w (spelling_of names w label start width row) ≡ get_or (spellings_of f) row []
  unfolding spelling_of
  answered =
      rw (lt-ltb row (length label) in_label, lt-ltb row (length start) in_start, lt-ltb row (length width) in_width)
      (either (ltb (half (get_or label row 0)) (length names)) refl)
    where
      either : (t : Bool) → ltb (half (get_or label row 0)) (length names) ≡ t →
          bytes_of d w (cond t (part_of_dictionary names (half (get_or label row 0))) (part_of_document w (get_or start row 0) (get_or width row 0))) ≡ get_or (spellings_of f) row []
      either true e = by_name (ltb-true (half (get_or label row 0)) (length names) e)
      either false e = by_document

  pub looked_up : {d_at w_at at : ℕ × ℕ} {bytes : List ℕ} → SpellingAnswered d_at w_at d w label start width row at bytes → bytes ≡ take (get_or width row 0) (drop (get_or start row 0) w)
  looked_up x =
      x.bytes_are
      ∙ ap (λ (ns : List (List ℕ)). bytes_of d w (spelling_of ns w label start width row)) (x.taken.good names g)
      ∙ answered
      ∙ sym (s.bytes row l)

-- a list that begins with xs has the places of xs
begun : {n row : ℕ} (xs before after : List ℕ) → after ≡ xs ++ drop (length xs) before → length xs ≡ n → row < n → row < length after
begun xs before after e h l = omega (arith, ap length e, length-append xs (drop (length xs) before))

pub lookup_is_read : (d w label size start width label' size' start' width' : List ℕ) (place rows row : ℕ) (d_at w_at at : ℕ × ℕ) (bytes : List ℕ) → Read d w label size start width label' size' start' width' 0 place rows → row < rows →
    SpellingAnswered d_at w_at d w label' start' width' row at bytes → bytes ≡ take (get_or width' row 0) (drop (get_or start' row 0) w)
lookup_is_read d w _ _ _ _ _ _ _ _ p n row d_at w_at at bytes r l x = go (cases r) refl l x
  where
    go : {label size start width label' size' start' width' : List ℕ} {c p n : ℕ} → Cases d w label size start width label' size' start' width' c p n → c ≡ 0 → row < n →
        SpellingAnswered d_at w_at d w label' start' width' row at bytes → bytes ≡ take (get_or width' row 0) (drop (get_or start' row 0) w)
    go (bad_dictionary h u) e l x = absurd (omega (arith, e))
    go (bad_document g v z u) e l x = absurd (z e)
    go (without_room g v z u) e l x = absurd (omega (arith, e))
    go {label} {size} {start} {width} {label'} {size'} {start'} {width'} (filled {names} {f} g v z y u) e l x =
        let s = spelt g v y u in
        let k : length (rows_of f) ≡ _ = sym (length-map (rows_of f) (λ (x : Row). x.spelling ⊲ [])) ∙ s.all in
        looked_up g s l
        (begun (labels_of names f) label label' u.label_is (length_labels names f ∙ s.all) l)
        (begun (starts f) start start' u.start_is (length-map (rows_of f) (λ (x : Row). x.start) ∙ k) l)
        (begun (lengths f) width width' u.width_is (length-map (rows_of f) (λ (x : Row). # x.spelling) ∙ k) l)
        x
