-- The walk over the dictionary says exactly whether its rules hold; its names are unique.
use mathlib.Core.Path.{◌≡◌, refl, sym, ap, ◌∙◌}
use mathlib.Core.Bool.{Bool, true, false, true≢false}
use mathlib.Core.List.{List, [], ◌∷◌, ◌++◌, List-discrete}
use Prim.Native.Nat.{ℕ, suc, ◌+◌, ◌-◌, ◌≤◌, ◌<◌}
use native.Mathlib.Omega.{arith}
use native.Mathlib.Numerals.{add-one}
use native.Mathlib.Decide.{ℕ_discrete}
use lib.ListN.{length, get_or, take, drop, length-drop, drop_of_length-le, take-append-drop}
use lib.Seq.{drop-drop, take-suc, take-add, get_or-drop, drop_at, take_all, length-take-le}
use Rattle.std.specs.Prelude.{Option, Some, None}
use Rattle.std.specs.Option.{is_some, unwrap_or}
use Rattle.meaning.proofs.Answers.{one_answer}
use Rattle.dictionary.specs.Names.{encoding, GoodDictionary, NamesOf, DictionaryChecked}
use Rattle.dictionary.specs.Scan.{range, upto, pieces}
use Rattle.dictionary.proofs.Pieces.{upto_lt, pieces_encoding, encoding_append, first, piece_length, is_ten}

pub good_pieces : {d : List ℕ} {ns : List (List ℕ)} → GoodDictionary d ns → pieces d ≡ ns
good_pieces {d} {ns} g = rw g.encoded (pieces_encoding ns g.each)

-- THE NAMES ARE UNIQUE
pub good_unique : {d : List ℕ} {ns ms : List (List ℕ)} → GoodDictionary d ns → GoodDictionary d ms → ns ≡ ms
good_unique g h = sym (good_pieces g) ∙ good_pieces h

pub names_unique : {d : List ℕ} {ns ms : List (List ℕ)} → NamesOf d ns → NamesOf d ms → ns ≡ ms
names_unique {d} {ns} {ms} a b =
    elim (List-discrete (List-discrete ℕ_discrete) ns ms) [
      | yes e ↦ e
      | no n ↦ absurd (n (a.bad (none n) ∙ sym (b.bad (none n))))
    ]
  where
    none : (ns ≡ ms → ⊥) → (l : List (List ℕ)) → GoodDictionary d l → ⊥
    none n l g = n (a.good l g ∙ sym (b.good l g))

-- 01: "No bytes means no names."
pub no_bytes : GoodDictionary [] []
no_bytes = record { encoded = refl; each = λ j p. absurd (omega arith); different = λ i j p q e. omega arith; few = omega arith; short = omega arith }

-- the check's answer, in both cases
pub names_good : {d : List ℕ} {ns : List (List ℕ)} → GoodDictionary d ns → NamesOf d ns
names_good {d} {ns} g = record { good = λ ms h. good_unique g h; bad = λ h. absurd (h ns g) }

pub names_bad : {d : List ℕ} → ((ns : List (List ℕ)) → GoodDictionary d ns → ⊥) → NamesOf d []
names_bad h = record { good = λ ms g. absurd (h ms g); bad = λ k. refl }

pub checked_good : {d : List ℕ} {ns : List (List ℕ)} → GoodDictionary d ns → DictionaryChecked d true (length ns)
checked_good {d} {ns} g = record { says = (λ h. (ns, g), λ h. refl); counted = (ns, names_good g, refl) }

pub checked_bad : {d : List ℕ} → ((ns : List (List ℕ)) → GoodDictionary d ns → ⊥) → DictionaryChecked d false 0
checked_bad h = record { says = (λ e. absurd (true≢false (sym e)), λ g. absurd (h g.0 g.1)); counted = ([], names_bad h, refl) }

-- THE PROMISE OF THE CHECK SETTLES ITS ANSWER
pub checked_unique : (d : List ℕ) (a b : Bool) (j k : ℕ) → DictionaryChecked d a j → DictionaryChecked d b k → (a ≡ b) × (j ≡ k)
checked_unique d a b j k s t =
    (one_answer a b s.says t.says, s.counted.2 ∙ ap length (names_unique s.counted.1 t.counted.1) ∙ sym t.counted.2)

-- .. and with it the number that is given or not
one_told : (r s : Option ℕ) → is_some r ≡ is_some s → unwrap_or r 0 ≡ unwrap_or s 0 → r ≡ s
one_told None None e f = refl
one_told None (Some k) e f = absurd (true≢false (sym e))
one_told (Some j) None e f = absurd (true≢false e)
one_told (Some j) (Some k) e f = ap Some f

pub one_checked : {d : List ℕ} {r s : Option ℕ} → DictionaryChecked d (is_some r) (unwrap_or r 0) → DictionaryChecked d (is_some s) (unwrap_or s 0) → r ≡ s
one_checked {d} {r} {s} a b = let o = checked_unique d _ _ _ _ a b in one_told r s o.0 o.1

-- THE WALK: p is where the piece k starts
pub record Begins (d : List ℕ) (p k : ℕ) : Type 0 where
  pub inside : p ≤ length d
  pub counted : k ≤ length (pieces d)
  pub done : take p d ≡ encoding (take k (pieces d))
  pub rest : pieces (drop p d) ≡ drop k (pieces d)

pub begins : (d : List ℕ) → Begins d 0 0
begins d = record { inside = omega arith; counted = omega arith; done = refl; rest = refl }

-- how far the walk has come is what the names before take
pub begins_start : {d : List ℕ} {p k : ℕ} → Begins d p k → p ≡ length (encoding (take k (pieces d)))
begins_start {d} {p} {k} b = sym (length-take-le p d b.inside) ∙ ap length b.done

pub begins_end : {d : List ℕ} {p k : ℕ} → Begins d p k → length d ≤ p → (d ≡ encoding (pieces d)) × (length (pieces d) ≡ k)
begins_end {d} {p} {k} b h =
    let none : pieces (drop p d) ≡ [] = rw (drop_of_length-le d h) in
    let few : length (pieces d) ≤ k = omega (arith, length-drop k (pieces d), ap length b.rest, ap length none) in
    (sym (take_all p d h) ∙ b.done ∙ ap encoding (take_all k (pieces d) few), omega (arith, b.counted))

module _ (d : List ℕ) (p e k : ℕ) (here : p < length d) (is_e : e ≡ p + upto (drop p d)) (b : Begins d p k) where
  cut : drop k (pieces d) ≡ range d p e ∷ pieces (drop (e + 1) d)
  cut = sym b.rest ∙ first d p e here is_e

  pub there : k < length (pieces d)
  there = omega (arith, length-drop k (pieces d), ap length cut)

  pub piece_is : get_or (pieces d) k [] ≡ range d p e
  piece_is =
      let z : k ≡ k + 0 = omega arith in
      ap (λ (i : ℕ). get_or (pieces d) i []) z ∙ sym (get_or-drop k (pieces d) 0 []) ∙ ap (λ (l : List (List ℕ)). get_or l 0 []) cut

  taken : e < length d → take (e + 1) d ≡ take p d ++ (range d p e ++ (10 ∷ []))
  taken h =
      let far : e + 1 ≡ p + suc (e - p) = omega arith in
      let inside : e - p < length (drop p d) = omega (arith, length-drop p d) in
      let place : p + (e - p) ≡ e = omega arith in
      let ten : get_or (drop p d) (e - p) 0 ≡ 10 = get_or-drop p d (e - p) 0 ∙ ap (λ (i : ℕ). get_or d i 0) place ∙ is_ten d p e here is_e h in
      ap (λ (i : ℕ). take i d) far
      ∙ take-add p (suc (e - p)) d
      ∙ ap (λ (l : List ℕ). take p d ++ l) (take-suc (drop p d) (e - p) 0 inside ∙ ap (λ (t : ℕ). range d p e ++ (t ∷ [])) ten)

  encoded : encoding (take (k + 1) (pieces d)) ≡ encoding (take k (pieces d)) ++ (range d p e ++ (10 ∷ []))
  encoded =
      ap (λ (i : ℕ). encoding (take i (pieces d))) (add-one k)
      ∙ ap encoding (take-suc (pieces d) k [] there)
      ∙ encoding_append (take k (pieces d)) (get_or (pieces d) k [] ∷ [])
      ∙ ap (λ (n : List ℕ). encoding (take k (pieces d)) ++ (n ++ (10 ∷ []))) piece_is

  pub begins_next : e < length d → Begins d (e + 1) (k + 1)
  begins_next h = record {
    inside = omega arith;
    counted = omega (arith, there);
    done = taken h ∙ ap (λ (l : List ℕ). l ++ (range d p e ++ (10 ∷ []))) b.done ∙ sym encoded;
    rest = ap (λ (l : List (List ℕ)). drop 1 l) (sym cut) ∙ drop-drop 1 k (pieces d);
  }

  -- WHY A DICTIONARY IS BAD
  module _ (ns : List (List ℕ)) (g : GoodDictionary d ns) where
    pub bad_end : e ≡ length d → ⊥
    bad_end h =
        let whole : d ≡ take p d ++ encoding (drop k (pieces d)) =
        g.encoded
        ∙ ap encoding (sym (good_pieces g) ∙ sym (take-append-drop k (pieces d)))
        ∙ encoding_append (take k (pieces d)) (drop k (pieces d))
        ∙ ap (λ (l : List ℕ). l ++ encoding (drop k (pieces d))) (sym b.done) in
        let tail : drop p d ≡ range d p e ++ (10 ∷ encoding (pieces (drop (e + 1) d))) =
        ap (drop p) whole ∙ drop_at (take p d) (encoding (drop k (pieces d))) p (length-take-le p d b.inside) ∙ ap encoding cut in
        omega (arith, upto_lt (range d p e) (encoding (pieces (drop (e + 1) d))), ap upto tail, ap length tail, length-drop p d)

    pub bad_empty : e ≡ p → ⊥
    bad_empty h =
        let same : get_or ns k [] ≡ range d p e = ap (λ (l : List (List ℕ)). get_or l k []) (sym (good_pieces g)) ∙ piece_is in
        omega (arith, (g.each k (omega (arith, there, ap length (good_pieces g)))).present, ap length same, piece_length d p e here is_e)

    pub bad_many : 1024 ≤ k → ⊥
    bad_many h = omega (arith, there, ap length (good_pieces g), g.few)

    pub bad_twice : (i : ℕ) → i < k → get_or (pieces d) i [] ≡ range d p e → ⊥
    bad_twice i h q =
        let same : get_or ns i [] ≡ get_or ns k [] =
        ap (λ (l : List (List ℕ)). get_or l i []) (sym (good_pieces g)) ∙ q ∙ sym piece_is ∙ ap (λ (l : List (List ℕ)). get_or l k []) (good_pieces g) in
        g.different i k h (omega (arith, there, ap length (good_pieces g))) same
