-- What is promised of `read` and `check` beside their contracts.
use mathlib.Core.Path.{◌≡◌, refl, sym, ap, ◌∙◌}
use mathlib.Core.List.{List, []}
use Prim.Native.Nat.{ℕ, ◌+◌, ◌-◌, ◌*◌, ◌≤◌, ◌<◌}
use native.Mathlib.Omega.{arith}
use lib.ListN.{length, get_or, take, drop, length-map}
use lib.Seq.{take_at}
use Rattle.std.specs.Prelude.{Result}
use Rattle.meaning.specs.Forest.{none, Term, ◌◂◌}
use Rattle.tree.specs.Rows.{GoodRows, labels, sizes, depth}
use Rattle.tree.proofs.Lists.{labels_rows, sizes_rows}
use Rattle.grammar.specs.Grammar.{Bytes, ◌⊲◌, Content, Document}
use Rattle.grammar.specs.Rows.{label_of, shape, Row, rows_of}
use Rattle.grammar.proofs.Unique.{one_reading}
use Rattle.grammar.proofs.Trees.{one_term, depth_is, shape_depth}
use Rattle.judge.specs.Answer as Told
use Rattle.judge.specs.Verdict.{Verdict}
use Rattle.judge.specs.declared.refusal.Refusal.{Refusal}
use Rattle.judge.proofs.OneVerdict.{one_verdict, one_told}
use Rattle.dictionary.specs.Scan.{range}
use Rattle.dictionary.specs.Names.{GoodDictionary}
use Rattle.dictionary.proofs.Names.{good_unique}
use Rattle.labels.specs.Labelling.{Spells}
use Rattle.document.specs.Reading.{spellings_of, labels_of, Unchanged, Written, Spelt, shortest, Read, DocumentChecked}
use Rattle.document.proofs.Cases.{Cases, bad_dictionary, bad_document, without_room, filled, cases, CheckCases, bad, judged, check_cases}
use Rattle.document.proofs.Labels.{length_labels, below_at}
use Rattle.document.proofs.Filling.{number_of, tree_of, tree_labels, tree_sizes, filled_holds, rows_spell}
use Rattle.document.proofs.Answers.{whole}

-- ONE ANSWER
abbrev pub Same : (code place rows : ℕ) (label size start width : List ℕ) (code' place' rows' : ℕ) (label' size' start' width' : List ℕ) → Type 0
Same c p n l s b w c' p' n' l' s' b' w' = (c ≡ c') × (p ≡ p') × (n ≡ n') × (l ≡ l') × (s ≡ s') × (b ≡ b') × (w ≡ w')

module _ {label size start width label₁ size₁ start₁ width₁ label₂ size₂ start₂ width₂ : List ℕ} {c₁ p₁ n₁ c₂ p₂ n₂ : ℕ} where
  -- where nothing is written
  same_kept : (c₁ ≡ c₂) × (p₁ ≡ p₂) × (n₁ ≡ n₂) → Unchanged label size start width label₁ size₁ start₁ width₁ →
      Unchanged label size start width label₂ size₂ start₂ width₂ → Same c₁ p₁ n₁ label₁ size₁ start₁ width₁ c₂ p₂ n₂ label₂ size₂ start₂ width₂
  same_kept e u v = (
    e.0,
    e.1,
    e.2,
    u.0 ∙ sym v.0,
    u.1 ∙ sym v.1,
    u.2 ∙ sym v.2,
    u.3 ∙ sym v.3,
  )

  same_written : {names : List (List ℕ)} {f : Content} → (c₁ ≡ c₂) × (p₁ ≡ p₂) × (n₁ ≡ n₂) →
      Written names f label size start width label₁ size₁ start₁ width₁ → Written names f label size start width label₂ size₂ start₂ width₂ →
      Same c₁ p₁ n₁ label₁ size₁ start₁ width₁ c₂ p₂ n₂ label₂ size₂ start₂ width₂
  same_written e u v = (
    e.0,
    e.1,
    e.2,
    u.label_is ∙ sym v.label_is,
    u.size_is ∙ sym v.size_is,
    u.start_is ∙ sym v.start_is,
    u.width_is ∙ sym v.width_is,
  )

  same_both : {d w : List ℕ} {names names' : List (List ℕ)} {f f' : Content} {t t' : Bytes} → GoodDictionary d names → GoodDictionary d names' →
      Document w f t → Document w f' t' → (c₁ ≡ c₂) × (p₁ ≡ p₂) × (n₁ ≡ n₂) → Written names f label size start width label₁ size₁ start₁ width₁ →
      Written names' f' label size start width label₂ size₂ start₂ width₂ → Same c₁ p₁ n₁ label₁ size₁ start₁ width₁ c₂ p₂ n₂ label₂ size₂ start₂ width₂
  same_both {d} {w} {names} {names'} {f} {f'} g g' y y' e u v =
      let a : names' ≡ names = good_unique g' g in
      let b : f' ≡ f = (one_reading y' y).0 in
      same_written e u (rw (a, b) at v)

one_case : {d w label size start width label₁ size₁ start₁ width₁ label₂ size₂ start₂ width₂ : List ℕ} {c₁ p₁ n₁ c₂ p₂ n₂ : ℕ} →
    Cases d w label size start width label₁ size₁ start₁ width₁ c₁ p₁ n₁ → Cases d w label size start width label₂ size₂ start₂ width₂ c₂ p₂ n₂ →
    Same c₁ p₁ n₁ label₁ size₁ start₁ width₁ c₂ p₂ n₂ label₂ size₂ start₂ width₂
one_case (bad_dictionary h u) (bad_dictionary k v) = same_kept (refl, refl, refl) u v
one_case (bad_dictionary h u) (bad_document g x z v) = absurd (h _ g)
one_case (bad_dictionary h u) (without_room g x z v) = absurd (h _ g)
one_case (bad_dictionary h u) (filled g x z y v) = absurd (h _ g)
one_case (bad_document g x z u) (bad_dictionary h v) = absurd (h _ g)
one_case (bad_document g x z u) (bad_document g' x' z' v) = same_kept (one_verdict x x') u v
one_case (bad_document g x z u) (without_room g' x' z' v) = absurd (z (one_verdict x x').0)
one_case (bad_document g x z u) (filled g' x' z' y v) = absurd (z (one_verdict x x').0)
one_case (without_room g x z u) (bad_dictionary h v) = absurd (h _ g)
one_case (without_room g x z u) (bad_document g' x' z' v) = absurd (z' (one_verdict x' x).0)
one_case (without_room g x z u) (without_room g' x' z' v) = same_kept (refl, refl, refl) u v
one_case (without_room g x z u) (filled g' x' z' y v) = absurd (omega (arith, (one_verdict x x').2))
one_case (filled g x z y u) (bad_dictionary h v) = absurd (h _ g)
one_case (filled g x z y u) (bad_document g' x' z' v) = absurd (z' (one_verdict x' x).0)
one_case (filled g x z y u) (without_room g' x' z' v) = absurd (omega (arith, (one_verdict x x').2))
one_case (filled g x z y u) (filled g' x' z' y' v) = same_both g g' y y' (refl, refl, (one_verdict x x').2) u v

-- two answers, with the lists after them, that both keep the promise of `read` are equal
pub one_answer : (d w label size start width label₁ size₁ start₁ width₁ label₂ size₂ start₂ width₂ : List ℕ) (c₁ p₁ n₁ c₂ p₂ n₂ : ℕ) →
    Read d w label size start width label₁ size₁ start₁ width₁ c₁ p₁ n₁ → Read d w label size start width label₂ size₂ start₂ width₂ c₂ p₂ n₂ →
    Same c₁ p₁ n₁ label₁ size₁ start₁ width₁ c₂ p₂ n₂ label₂ size₂ start₂ width₂
one_answer d w _ _ _ _ _ _ _ _ _ _ _ _ _ _ _ _ _ _ x y = one_case (cases x) (cases y)

-- .. and so is the answer itself, of which these are the code, the place and the rows
pub one_read : {d w label size start width label₁ size₁ start₁ width₁ label₂ size₂ start₂ width₂ : List ℕ} {r s : Result ℕ Refusal} →
    Read d w label size start width label₁ size₁ start₁ width₁ (Told.code_of r) (Told.place_of r) (Told.rows_of r) →
    Read d w label size start width label₂ size₂ start₂ width₂ (Told.code_of s) (Told.place_of s) (Told.rows_of s) →
    (r ≡ s) × (label₁ ≡ label₂) × (size₁ ≡ size₂) × (start₁ ≡ start₂) × (width₁ ≡ width₂)
one_read {r = r} {s = s} x y = let o = one_case (cases x) (cases y) in (one_told r s o.0 o.1 o.2, o.3, o.4, o.5, o.6)

one_check_case : (d w : List ℕ) (r s : ℕ) → CheckCases d w r → CheckCases d w s → r ≡ s
one_check_case d w r s (bad h) (bad k) = refl
one_check_case d w r s (bad h) (judged g v) = absurd (h _ g)
one_check_case d w r s (judged g v) (bad h) = absurd (h _ g)
one_check_case d w r s (judged g v) (judged g' v') = rw ((one_verdict v v').0, (one_verdict v v').1, (one_verdict v v').2) refl

pub one_check : (d w : List ℕ) (r s : ℕ) → DocumentChecked d w r → DocumentChecked d w s → r ≡ s
one_check d w r s a b = one_check_case d w r s (check_cases a) (check_cases b)

-- THE CHECK IS THE READER
case_is_read : (d w label size start width label' size' start' width' : List ℕ) (code place rows r : ℕ) → 2048 ≤ shortest label size start width →
    Cases d w label size start width label' size' start' width' code place rows → CheckCases d w r → r ≡ code * 4294967296 + (place + rows)
case_is_read d w label size start width label' size' start' width' c p n r room (bad_dictionary h u) k = one_check_case d w r (1 * 4294967296) k (bad h)
case_is_read d w label size start width label' size' start' width' c p n r room (bad_document g v z u) k = one_check_case d w r (c * 4294967296 + (p + n)) k (judged g v)
case_is_read d w label size start width label' size' start' width' c p n r room (without_room g v z u) k = absurd (omega (arith, (whole v refl).few))
case_is_read d w label size start width label' size' start' width' c p n r room (filled g v z y u) k = one_check_case d w r (0 * 4294967296 + (0 + n)) k (judged g v)

pub check_is_read : (d w label size start width label' size' start' width' : List ℕ) (code place rows r : ℕ) → 2048 ≤ shortest label size start width →
    Read d w label size start width label' size' start' width' code place rows → DocumentChecked d w r → r ≡ code * 4294967296 + (place + rows)
check_is_read d w label size start width label' size' start' width' c p n r room x k = case_is_read d w label size start width label' size' start' width' c p n r room (cases x) (check_cases k)

-- A TREE THAT WAS READ
module _ {d w label size start width label' size' start' width' : List ℕ} {names : List (List ℕ)} {f : Content} {t : Bytes} {n : ℕ}
    (g : GoodDictionary d names) (v : Verdict w 0 0 n) (y : Document w f t) (u : Written names f label size start width label' size' start' width') where
  same_f : (whole v refl).f ≡ f
  same_f = (one_reading (whole v refl).document y).0

  rows_n : length (rows_of f) ≡ n
  rows_n = rw same_f at (whole v refl).rows_are

  spellings_n : length (spellings_of f) ≡ n
  spellings_n = length-map (rows_of f) (λ (x : Row). x.spelling ⊲ []) ∙ rows_n

  labels_n : length (labels_of names f) ≡ n
  labels_n = length_labels names f ∙ spellings_n

  pub first_labels : take n label' ≡ labels (tree_of names f)
  first_labels = ap (take n) u.label_is ∙ take_at (labels_of names f) _ n labels_n ∙ sym (tree_labels names f)

  pub first_sizes : take n size' ≡ sizes (tree_of names f)
  first_sizes =
      ap (take n) u.size_is
      ∙ take_at (sizes (shape f)) _ n (ap length (tree_sizes names f) ∙ sizes_rows (tree_of names f) ∙ sym (labels_rows (tree_of names f)) ∙ ap length (tree_labels names f) ∙ labels_n)
      ∙ tree_sizes names f

  deep : depth (tree_of names f) ≤ 64
  unfolding depth
  deep =
      let e : depth (shape f) ≤ 64 = rw same_f at (whole v refl).shallow in
      omega (arith, e, shape_depth f, depth_is (λ q s. label_of q (number_of names f s)) f none)

  pub good_tree_lem : GoodRows (take n label') (take n size')
  good_tree_lem =
      let o : (T : Term) × (tree_of names f ≡ (T ◂ none)) = one_term (λ q s. label_of q (number_of names f s)) y in (
        o.0,
        record {
          labelled = first_labels ∙ ap labels o.1;
          sized = first_sizes ∙ ap sizes o.1;
          few = omega (arith, ap length first_labels, ap length (tree_labels names f), labels_n, (whole v refl).few);
          shallow = rw o.1 at deep;
          small = record { each = λ i h. small i h };
        },
      )
    where
      small : (i : ℕ) → i < length (take n label') → get_or (take n label') i 0 < 65536
      small i h =
          let e : take n label' ≡ labels_of names f = first_labels ∙ tree_labels names f in
          let p : i < length (spellings_of f) = omega (arith, ap length e, labels_n, spellings_n) in
          rw e (omega (arith, below_at names f i p, g.few, spellings_n, (whole v refl).few))

  pub spelt : Spelt w label' start' width' n names f
  spelt = record {
    all = spellings_n;
    inside = λ r h. (spells r h).inside;
    bytes = λ r h. bytes_of r (spells r h).is;
    labelled = first_labels ∙ tree_labels names f;
  }
    where
      spells : (r : ℕ) → r < n → Spells w start' width' (get_or (spellings_of f) r []) r
      spells r h = rows_spell y (filled_holds start u.start_is) (filled_holds width u.width_is) r (omega (arith, rows_n))

      bytes_of : (r : ℕ) → range w (get_or start' r 0) (get_or start' r 0 + get_or width' r 0) ≡ get_or (spellings_of f) r [] →
          take (get_or width' r 0) (drop (get_or start' r 0) w) ≡ get_or (spellings_of f) r []
      bytes_of r e =
          let n : get_or start' r 0 + get_or width' r 0 - get_or start' r 0 ≡ get_or width' r 0 = omega arith in
          rw n at e

pub tree_is_good : (d w label size start width label' size' start' width' : List ℕ) (place rows : ℕ) → Read d w label size start width label' size' start' width' 0 place rows → GoodRows (take rows label') (take rows size')
tree_is_good d w _ _ _ _ _ _ _ _ p n r = go (cases r) refl
  where
    go : {d w label size start width label' size' start' width' : List ℕ} {c p n : ℕ} → Cases d w label size start width label' size' start' width' c p n → c ≡ 0 → GoodRows (take n label') (take n size')
    go (bad_dictionary h u) e = absurd (omega (arith, e))
    go (bad_document g v z u) e = absurd (z e)
    go (without_room g v z u) e = absurd (omega (arith, e))
    go (filled g v z y u) e = good_tree_lem g v y u

pub spellings_inside : (d w label size start width label' size' start' width' : List ℕ) (place rows : ℕ) (names : List (List ℕ)) (f : Content) (t : Bytes) →
    Read d w label size start width label' size' start' width' 0 place rows → GoodDictionary d names → Document w f t → Spelt w label' start' width' rows names f
spellings_inside d w _ _ _ _ _ _ _ _ p n names f t r g y = go (cases r) refl
  where
    go : {label size start width label' size' start' width' : List ℕ} {c p n : ℕ} → Cases d w label size start width label' size' start' width' c p n → c ≡ 0 → Spelt w label' start' width' n names f
    go (bad_dictionary h u) e = absurd (h names g)
    go (bad_document g' v z u) e = absurd (z e)
    go (without_room g' v z u) e = absurd (omega (arith, e))
    go (filled {names = ns} {f = h} g' v z y' u) e =
        let a : ns ≡ names = good_unique g' g in
        let b : h ≡ f = (one_reading y' y).0 in
        rw (a, b) at (spelt g' v y' u)
