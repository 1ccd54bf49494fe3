-- The answers of `read` and `check`.
use mathlib.Core.Path.{◌≡◌, refl, sym, ap, ◌∙◌, subst}
use mathlib.Core.Bool.{Bool, true, false}
use mathlib.Core.List.{List, [], map}
use Prim.Native.Nat.{ℕ, ◌≤◌, ◌<◌, min}
use native.Mathlib.Omega.{arith}
use lib.Dec.{ltb}
use lib.ListN.{length, length-map}
use borrow.Author.Tests.{ltb-true, ltb-false}
use Rattle.tree.specs.Rows.{depth}
use Rattle.tree.proofs.Lists.{sizes_rows}
use Rattle.grammar.specs.Grammar.{Bytes, ◌⊲◌, Content, Document, OutsideAt}
use Rattle.grammar.specs.Rows.{Sort, shape, #, Row, rows_of}
use Rattle.grammar.proofs.Trees.{shape_rows}
use Rattle.std.specs.Prelude.{Err}
use Rattle.judge.specs.Answer.{number_of_refusal, place_of}
use Rattle.judge.specs.declared.refusal.Refusal.{Refusal}
use Rattle.judge.specs.declared.refusal.Refusal.TheVariants.{Outside}
use Rattle.judge.specs.Verdict.{Verdict, long as long_document, outside, deep, many, read}
use Rattle.dictionary.specs.Names.{GoodDictionary, DictionaryChecked}
use Rattle.dictionary.specs.Index.{Indexed}
use Rattle.document.specs.Reading.{Unchanged, shortest, Read, ReaderAnswer, spellings_of, sorts_of}
use Rattle.document.proofs.Cases.{bad_document, without_room, filled, told, judged_as}
use Rattle.document.specs.Learnt.{MayRead}
use Rattle.labels.specs.Lists.{Copied}
use Rattle.labels.specs.Labelling.{MayLabelRows, LabelsRows}
use Rattle.labels.proofs.Copies.{copied}
use Rattle.rows.specs.Notes.{RowsNoted, TooLarge}
use Rattle.rows.proofs.Large.{rows_count}
use Rattle.document.proofs.Filling.{rows_spell, rows_tell}

-- THE DICTIONARY
pub is_good : {d : List ℕ} {good : Bool} {k : ℕ} → DictionaryChecked d good k → good ≡ true → (names : List (List ℕ)) × GoodDictionary d names × (k ≡ length names)
is_good c e =
    let g = c.says.0 e in
    (g.0, g.1, c.counted.2 ∙ ap length (c.counted.1.good g.0 g.1))

-- THE VERDICT: code 0
pub record Whole (w : List ℕ) (p n : ℕ) : Type 0 where
  pub f : Content
  pub t : Bytes
  pub document : Document w f t
  pub short : length w ≤ 32768
  pub rows_are : length (rows_of f) ≡ n
  pub few : n ≤ 2048
  pub shallow : depth (shape f) ≤ 64
  pub place : p ≡ 0
  pub verdict : Verdict w 0 0 n

pub whole : {w : List ℕ} {c p n : ℕ} → Verdict w c p n → c ≡ 0 → Whole w p n
whole (long_document h) e = absurd (omega (arith, e))
whole (outside h k) e = absurd (omega (arith, e))
whole (deep h d k) e = absurd (omega (arith, e))
whole (many h d k l) e = absurd (omega (arith, e))
whole (read {f} {t} h d k l) e = record {
  f = f;
  t = t;
  document = d;
  short = h;
  rows_are = rows_count f ∙ sym (shape_rows f);
  few = l;
  shallow = k;
  place = refl;
  verdict = read h d k l;
}

-- THE ANSWERS OF `read`
unchanged : (label size start width : List ℕ) → Unchanged label size start width label size start width
unchanged label size start width = (refl, refl, refl, refl)

module _ {d w label size start width : List ℕ} {good : Bool} {k : ℕ} (dictionary : DictionaryChecked d good k) where
  pub answers_refused : {c p n : ℕ} → good ≡ true → Verdict w c p n → (c ≡ 0 → ⊥) → Read d w label size start width label size start width c p n
  answers_refused e v h = told (bad_document (is_good dictionary e).1 v h (unchanged label size start width))

  pub answers_small : {c p n : ℕ} → good ≡ true → Verdict w c p n → c ≡ 0 →
      ((n ≤ length label) × (n ≤ length size) × (n ≤ length start) × (n ≤ length width) → ⊥) → Read d w label size start width label size start width 6 0 0
  answers_small {c} {p} {n} e v h no_room =
      told (without_room (is_good dictionary e).1 (whole v h).verdict (go (ltb (shortest label size start width) n) refl) (unchanged label size start width))
    where
      go : (t : Bool) → ltb (shortest label size start width) n ≡ t → shortest label size start width < n
      go true q = ltb-true (shortest label size start width) n q
      go false q =
          let s : n ≤ shortest label size start width = ltb-false (shortest label size start width) n q in
          absurd (no_room ((least s).0, (least s).1, (least s).2, (least s).3))
        where
          least : n ≤ min (min (length label) (length size)) (min (length start) (length width)) → (n ≤ length label) × (n ≤ length size) × (n ≤ length start) × (n ≤ length width)
          least s = (omega arith, omega arith, omega arith, omega arith)

-- where the rows are noted
pub noted_verdict : {w S L Z : List ℕ} {n : ℕ} → length w ≤ 32768 → RowsNoted w S L Z n → Verdict w 0 0 n
noted_verdict {w} {S} {L} {Z} {n} short h =
    subst (λ (x : ℕ). Verdict w 0 0 x) h.rows_are (read short h.document h.shallow (omega (arith, h.few, h.rows_are)))

module _ {d w clear index : List ℕ} (label size start width : List ℕ) {k : ℕ} (may : MayRead d w k clear index) {S L Z : List ℕ} {n : ℕ} (noted : RowsNoted w S L Z n)
    (room : (n ≤ length label) × (n ≤ length size) × (n ≤ length start) × (n ≤ length width)) where
  names : List (List ℕ)
  names = (is_good may.learnt.checked refl).0

  good_names : GoodDictionary d names
  unfolding names
  good_names = (is_good may.learnt.checked refl).1

  names_are : k ≡ length names
  unfolding names
  names_are = (is_good may.learnt.checked refl).2

  rows_n : length (rows_of noted.f) ≡ n
  rows_n = rows_count noted.f ∙ sym (shape_rows noted.f) ∙ noted.rows_are

  long : (g : Row → ℕ) → length (map g (rows_of noted.f)) ≡ n
  long g = length-map (rows_of noted.f) g ∙ rows_n

  labelling : MayLabelRows d w k index label S L n names (sorts_of noted.f) (spellings_of noted.f)
  labelling = record {
    indexed = subst (λ (x : ℕ). Indexed d w x index names) (sym names_are) (may.learnt.indexed names good_names w);
    counted = sym names_are;
    few_names = omega (arith, names_are, good_names.few);
    large = omega (arith, may.learnt.kept, may.large);
    short = may.short;
    few_rows = noted.few;
    room_label = room.0;
    all = length-map (rows_of noted.f) (λ (x : Row). x.spelling ⊲ []) ∙ rows_n;
    spells = λ r h. rows_spell noted.document noted.starts_are noted.lengths_are r (omega (arith, rows_n));
    sorted = length-map (rows_of noted.f) (λ (x : Row). x.sort) ∙ rows_n;
    tells = λ r h. rows_tell noted.document noted.starts_are r (omega (arith, rows_n));
  }

  pub may_label_rows : (ns : List (List ℕ)) × (sorts : List Sort) × (ws : List (List ℕ)) × MayLabelRows d w k index label S L n ns sorts ws
  may_label_rows = (names, sorts_of noted.f, spellings_of noted.f, labelling)

  module _ {start' width' size' : List ℕ} (copies : Copied n S L Z start width size start' width' size') where
    pub answers_read : {label' : List ℕ} → LabelsRows d w k index label S L n label' → Read d w label size start width label' size' start' width' 0 0 n
    answers_read h =
        told (filled good_names (noted_verdict may.short noted) (omega (arith, room)) noted.document (record {
          label_is = h names (sorts_of noted.f) (spellings_of noted.f) labelling;
          size_is = copied size noted.sizes_are (sizes_rows (shape noted.f) ∙ noted.rows_are) copies.size_copy;
          start_is = copied start noted.starts_are (long (λ (x : Row). x.start)) copies.start_copy;
          width_is = copied width noted.lengths_are (long (λ (x : Row). # x.spelling)) copies.width_copy;
        }))

-- where they are not
pub outside_verdict : {w : List ℕ} {q : ℕ} {e : Refusal} → length w ≤ 32768 → OutsideAt w q → e ≡ Outside q → Verdict w (number_of_refusal e) (place_of (Err e)) 0
outside_verdict short h e = rw e (outside short h)

pub beyond_refused : {w : List ℕ} {c p n : ℕ} → TooLarge w → Verdict w c p n → c ≡ 0 → ⊥
beyond_refused h v e = let d = whole v e in h d.f d.t d.document d.shallow (omega (arith, d.few, d.rows_are, rows_count d.f, shape_rows d.f))

-- THE ANSWERS OF `check`
pub answers_checked : {d w : List ℕ} {good : Bool} {k c p n : ℕ} → DictionaryChecked d good k → good ≡ true → Verdict w c p n → ReaderAnswer d w 2048 c p n
answers_checked k e v = judged_as (is_good k e).1 v
