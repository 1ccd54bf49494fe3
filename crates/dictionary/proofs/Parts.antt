-- Where a row's spelling stands.
use mathlib.Core.Path.{◌≡◌, refl, sym, ap, ◌∙◌}
use mathlib.Core.Bool.{Bool, true, false, cond, ◌&&◌, true≢false}
use mathlib.Core.List.{List, [], ◌∷◌, ◌++◌}
use Prim.Native.Nat.{ℕ, suc, ◌+◌, ◌-◌, ◌≤◌, ◌<◌}
use native.Mathlib.Omega.{arith}
use native.Mathlib.Nat.{add-sub_cancel_left}
use native.Mathlib.Decide.{ℕ_discrete, dec_le}
use lib.Dec.{eqb, leb, ltb}
use lib.ListN.{length, get_or, take, drop, length-drop, length-append, drop_of_length-le, take-append-drop}
use lib.Seq.{take_at, drop_at, drop-cons}
use borrow.Author.Tests.{ltb-true, leb-true, eq-eqb, ne_eqb, lt-ltb, le-ltb, le-leb, lt-leb}
use Rattle.dictionary.specs.Names.{encoding, GoodDictionary, NamesOf, DictionaryChecked}
use Rattle.dictionary.specs.Scan.{range, upto, pieces}
use Rattle.dictionary.specs.Source.{number_of_source}
use Rattle.dictionary.specs.declared.spelling.Part.{Part}
use Rattle.dictionary.specs.declared.spelling.Source.{Source}
use Rattle.dictionary.specs.declared.spelling.Source.TheVariants.{Dictionary, Document}
use Rattle.dictionary.specs.Spelling.{PartOf, empty_part, part_of_dictionary, part_of_document, half, spelling_of, bytes_of, IsPart, PartAnswered, part_stands_at, SpellingAnswered}
use Rattle.dictionary.proofs.Pieces.{piece_length, within, encoding_append}
use Rattle.dictionary.proofs.Names.{Begins, begins_next, begins_start, piece_is, good_pieces, names_unique, names_good, bad_end}
use Rattle.dictionary.proofs.Decided.{named}

-- THE WALK TO A NAME: while a name is still to come, the walk is inside the dictionary
module _ (d : List ℕ) (names : List (List ℕ)) (g : GoodDictionary d names) (start before : ℕ) (b : Begins d start before) (more : before < length names) where
  pub start_inside : start < length d
  start_inside = elim (dec_le (length d) start) [ yes h ↦ absurd (ended h) | no h ↦ omega arith ]
    where
      ended : length d ≤ start → ⊥
      ended h =
          let none : pieces (drop start d) ≡ [] = rw (drop_of_length-le d h) in
          omega (arith, length-drop before (pieces d), ap length b.rest, ap length none, ap length (good_pieces g))

  module _ (end : ℕ) (is_end : end ≡ start + upto (drop start d)) where
    pub end_inside : end < length d
    end_inside = elim (ℕ_discrete end (length d)) [
      | yes h ↦ absurd (bad_end d start end before start_inside is_end b names g h)
      | no h ↦ omega (arith, within d start end start_inside is_end)
    ]

    pub walked : Begins d (end + 1) (before + 1)
    walked = begins_next d start end before start_inside is_end b end_inside

    pub name_found : (place : ℕ) → before ≡ place → IsPart 0 start (end - start) (part_of_dictionary names place)
    name_found place h = record {
      source_is = refl;
      start_is = begins_start b ∙ ap (λ (l : List (List ℕ)). length (encoding (take before l))) (good_pieces g) ∙ ap (λ (k : ℕ). length (encoding (take k names))) h;
      length_is =
          sym (piece_length d start end start_inside is_end)
          ∙ ap length (sym (piece_is d start end before start_inside is_end b) ∙ ap (λ (l : List (List ℕ)). get_or l before []) (good_pieces g) ∙ ap (λ (k : ℕ). get_or names k []) h);
    }

-- A PART OF THE DOCUMENT
pub document_inside : (document : List ℕ) (start count : ℕ) → start + count ≤ length document → IsPart 1 start count (part_of_document document start count)
document_inside document start count h = rw (le-leb (start + count) (length document) h) (record { source_is = refl; start_is = refl; length_is = refl })

pub document_outside : (document : List ℕ) (start count : ℕ) → length document < start + count → IsPart 1 0 0 (part_of_document document start count)
document_outside document start count h = rw (lt-leb (start + count) (length document) h) (record { source_is = refl; start_is = refl; length_is = refl })

-- A NAME OF A GOOD DICTIONARY, in its bytes
module _ (d : List ℕ) (names : List (List ℕ)) (g : GoodDictionary d names) (place : ℕ) (p : place < length names) where
  around : d ≡ encoding (take place names) ++ (get_or names place [] ++ (10 ∷ encoding (drop (suc place) names)))
  around =
      g.encoded
      ∙ ap encoding (sym (take-append-drop place names))
      ∙ encoding_append (take place names) (drop place names)
      ∙ ap (λ (l : List (List ℕ)). encoding (take place names) ++ encoding l) (drop-cons names place [] p)

  good_inside : length (encoding (take place names)) + length (get_or names place []) ≤ length d
  good_inside =
      omega (
        arith,
        ap length around,
        length-append (encoding (take place names)) (get_or names place [] ++ (10 ∷ encoding (drop (suc place) names))),
        length-append (get_or names place []) (10 ∷ encoding (drop (suc place) names)),
      )

  -- the bytes of a name's part are the name
  pub name_bytes : (document : List ℕ) → bytes_of d document (part_of_dictionary names place) ≡ get_or names place []
  name_bytes document =
      ap (λ (l : List ℕ). take (length (get_or names place [])) (drop (length (encoding (take place names))) l)) around
      ∙ ap (take (length (get_or names place [])))
      (drop_at (encoding (take place names)) (get_or names place [] ++ (10 ∷ encoding (drop (suc place) names))) (length (encoding (take place names))) refl)
      ∙ take_at (get_or names place []) (10 ∷ encoding (drop (suc place) names)) (length (get_or names place [])) refl

name_inside : (d : List ℕ) (names : List (List ℕ)) → NamesOf d names → (place : ℕ) → place < length names → length (encoding (take place names)) + length (get_or names place []) ≤ length d
name_inside d names x place p =
    elim (dec_le (length (encoding (take place names)) + length (get_or names place [])) (length d)) [
      | yes h ↦ h
      | no h ↦ absurd (let z : names ≡ [] = x.bad (λ ns g. h (good_inside d names (rw (x.good ns g) g) place p)) in omega (arith, ap length z))
    ]

-- EVERY PART LIES IN ITS SOURCE
abbrev Inside : List ℕ → List ℕ → PartOf → Type 0
Inside dictionary document part = part.start + part.length ≤ length (cond (eqb part.source 0) dictionary document)

part_inside : (dictionary document labels starts lengths : List ℕ) (row : ℕ) (names : List (List ℕ)) → NamesOf dictionary names →
    Inside dictionary document (spelling_of names document labels starts lengths row)
unfolding spelling_of
part_inside dictionary document labels starts lengths row names x =
    listed (ltb row (length labels) && ltb row (length starts) && ltb row (length lengths)) _
    (named_or_not (ltb (half (get_or labels row 0)) (length names)) refl)
  where
    document_part : (start count : ℕ) (t : Bool) → leb (start + count) (length document) ≡ t →
        Inside dictionary document (cond t (record { source = 1; start = start; length = count }) empty_part)
    document_part start count true e = leb-true (start + count) (length document) e
    document_part start count false e = omega arith

    named_or_not : (t : Bool) → ltb (half (get_or labels row 0)) (length names) ≡ t →
        Inside dictionary document (cond t (part_of_dictionary names (half (get_or labels row 0))) (part_of_document document (get_or starts row 0) (get_or lengths row 0)))
    named_or_not true e = name_inside dictionary names x (half (get_or labels row 0)) (ltb-true (half (get_or labels row 0)) (length names) e)
    named_or_not false e = document_part (get_or starts row 0) (get_or lengths row 0) (leb (get_or starts row 0 + get_or lengths row 0) (length document)) refl

    listed : (t : Bool) (p : PartOf) → Inside dictionary document p → Inside dictionary document (cond t p empty_part)
    listed true p h = h
    listed false p h = omega arith

-- what the check says where it counts names
pub checked_names : {d : List ℕ} {good : Bool} {k : ℕ} → DictionaryChecked d good k → (place : ℕ) → place < k →
    (names : List (List ℕ)) × GoodDictionary d names × (place < length names)
checked_names {good = true} x place h =
    let g : (names : List (List ℕ)) × GoodDictionary _ names = x.says.0 refl in
    (g.0, g.1, omega (arith, x.counted.2, ap length (x.counted.1.good g.0 g.1)))
checked_names {good = false} x place h =
    absurd
    (let z : x.counted.0 ≡ [] = x.counted.1.bad (λ ns g. true≢false (sym (x.says.1 (ns, g)))) in
    omega (arith, x.counted.2, ap length z))

-- THE ANSWERS OF `part_of`
module _ {dictionary document labels starts lengths : List ℕ} {row : ℕ} where
  empty_answer : ltb row (length labels) && ltb row (length starts) && ltb row (length lengths) ≡ false → PartAnswered dictionary document labels starts lengths row 1 0 0
  unfolding spelling_of
  empty_answer h = record {
    names = (named dictionary).0;
    taken = (named dictionary).1;
    part_is = rw h (record { source_is = refl; start_is = refl; length_is = refl });
  }

  pub far_label : length labels ≤ row → PartAnswered dictionary document labels starts lengths row 1 0 0
  far_label h = empty_answer (simp (le-ltb row (length labels) h))

  pub far_start : row < length labels → length starts ≤ row → PartAnswered dictionary document labels starts lengths row 1 0 0
  far_start a h = empty_answer (simp (lt-ltb row (length labels) a, le-ltb row (length starts) h))

  pub far_length : row < length labels → row < length starts → length lengths ≤ row → PartAnswered dictionary document labels starts lengths row 1 0 0
  far_length a b h = empty_answer (simp (lt-ltb row (length labels) a, lt-ltb row (length starts) b, le-ltb row (length lengths) h))

  module _ (a : row < length labels) (b : row < length starts) (c : row < length lengths) {place : ℕ} (is_place : place ≡ half (get_or labels row 0)) {good : Bool} {k : ℕ}
      (checked : DictionaryChecked dictionary good k) {source start count : ℕ} where
    pub name_answer : place < k → ((names : List (List ℕ)) → GoodDictionary dictionary names → IsPart source start count (part_of_dictionary names place)) →
        PartAnswered dictionary document labels starts lengths row source start count
    unfolding spelling_of
    name_answer h is =
        let g : (names : List (List ℕ)) × GoodDictionary dictionary names × (place < length names) = checked_names checked place h in
        record {
          names = g.0;
          taken = names_good g.1;
          part_is =
              simp
              (lt-ltb row (length labels) a, lt-ltb row (length starts) b, lt-ltb row (length lengths) c, ← is_place, lt-ltb place (length g.0) g.2)
              (is g.0 g.1);
        }

    pub document_answer : k ≤ place → IsPart source start count (part_of_document document (get_or starts row 0) (get_or lengths row 0)) →
        PartAnswered dictionary document labels starts lengths row source start count
    unfolding spelling_of
    document_answer h is = record {
      names = checked.counted.0;
      taken = checked.counted.1;
      part_is =
          simp (
            lt-ltb row (length labels) a,
            lt-ltb row (length starts) b,
            lt-ltb row (length lengths) c,
            ← is_place,
            le-ltb place (length checked.counted.0) (omega (arith, checked.counted.2)),
          )
          is;
    }

pub is_document : {source : ℕ} → source ≡ 1 → source ≡ 0 → ⊥
is_document e h = omega arith

-- THE ANSWERS OF `spelling`: the bytes from start to start + count
module _ {dictionary document labels starts lengths : List ℕ} {row source start count : ℕ} (x : PartAnswered dictionary document labels starts lengths row source start count) where
  in_source : start + count ≤ length (cond (eqb source 0) dictionary document)
  in_source = rw (x.part_is.source_is, x.part_is.start_is, x.part_is.length_is) (part_inside dictionary document labels starts lengths row x.names x.taken)

  spelled : (d w at : ℕ × ℕ) (text : List ℕ) → cond (eqb source 0) dictionary document ≡ text → cond (eqb source 0) (d.0, start + d.1) (w.0, start + w.1) ≡ at →
      SpellingAnswered d w dictionary document labels starts lengths row at (range text start (start + count))
  spelled d w at text e f = record {
    names = x.names;
    taken = x.taken;
    bytes_are =
        ap (λ (k : ℕ). take k (drop start text)) (add-sub_cancel_left start count)
        ∙ ap (λ (l : List ℕ). take count (drop start l)) (sym e)
        ∙ rw (x.part_is.source_is, x.part_is.start_is, x.part_is.length_is) refl;
    stands = sym f ∙ rw (x.part_is.source_is, x.part_is.start_is) refl;
  }

  pub inside_dictionary : source ≡ 0 → start + count ≤ length dictionary
  inside_dictionary h = rw (eq-eqb source 0 h) at in_source

  pub inside_document : (source ≡ 0 → ⊥) → start + count ≤ length document
  inside_document h = rw (ne_eqb source 0 h) at in_source

  pub spelled_dictionary : (d w : ℕ × ℕ) → source ≡ 0 → SpellingAnswered d w dictionary document labels starts lengths row (d.0, start + d.1) (range dictionary start (start + count))
  spelled_dictionary d w h = spelled d w (d.0, start + d.1) dictionary (simp (eq-eqb source 0 h)) (simp (eq-eqb source 0 h))

  pub spelled_document : (d w : ℕ × ℕ) → (source ≡ 0 → ⊥) → SpellingAnswered d w dictionary document labels starts lengths row (w.0, start + w.1) (range document start (start + count))
  spelled_document d w h = spelled d w (w.0, start + w.1) document (simp (ne_eqb source 0 h)) (simp (ne_eqb source 0 h))

-- BOTH PROMISES SETTLE THEIR ANSWERS
abbrev source_of : ℕ → Source
source_of n = cond (eqb n 0) Dictionary Document

of_its_number : (a : Source) → source_of (number_of_source a) ≡ a
of_its_number Dictionary = refl
of_its_number Document = refl

one_source : (a b : Source) → number_of_source a ≡ number_of_source b → a ≡ b
one_source a b e = sym (of_its_number a) ∙ ap source_of e ∙ of_its_number b

module _ (dictionary document labels starts lengths : List ℕ) (row : ℕ) where
  pub part_unique : (s t u s' t' u' : ℕ) → PartAnswered dictionary document labels starts lengths row s t u → PartAnswered dictionary document labels starts lengths row s' t' u' →
      (s ≡ s') × (t ≡ t') × (u ≡ u')
  part_unique s t u s' t' u' x y =
      let e : spelling_of x.names document labels starts lengths row ≡ spelling_of y.names document labels starts lengths row =
      ap (λ (l : List (List ℕ)). spelling_of l document labels starts lengths row) (names_unique x.taken y.taken) in (
        x.part_is.source_is ∙ ap (λ (p : PartOf). p.source) e ∙ sym y.part_is.source_is,
        x.part_is.start_is ∙ ap (λ (p : PartOf). p.start) e ∙ sym y.part_is.start_is,
        x.part_is.length_is ∙ ap (λ (p : PartOf). p.length) e ∙ sym y.part_is.length_is,
      )

  -- .. and the part itself, of which these are the numbers
  pub one_part : (p q : Part) → PartAnswered dictionary document labels starts lengths row (number_of_source p.source) p.start p.length →
      PartAnswered dictionary document labels starts lengths row (number_of_source q.source) q.start q.length → p ≡ q
  one_part p q x y =
      let o = part_unique _ _ _ _ _ _ x y in
      let same : p.source ≡ q.source = one_source p.source q.source o.0 in
      λ i. record { source = same i; start = o.1 i; length = o.2 i }

  pub spelling_unique : (d w at at' : ℕ × ℕ) (v v' : List ℕ) → SpellingAnswered d w dictionary document labels starts lengths row at v →
      SpellingAnswered d w dictionary document labels starts lengths row at' v' → (at ≡ at') × (v ≡ v')
  spelling_unique d w at at' v v' x y =
      let e : spelling_of x.names document labels starts lengths row ≡ spelling_of y.names document labels starts lengths row =
      ap (λ (l : List (List ℕ)). spelling_of l document labels starts lengths row) (names_unique x.taken y.taken) in
      (x.stands ∙ ap (part_stands_at d w) e ∙ sym y.stands, x.bytes_are ∙ ap (bytes_of dictionary document) e ∙ sym y.bytes_are)
