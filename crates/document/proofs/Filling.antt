-- The four lists of a document.
use mathlib.Core.Path.{◌≡◌, refl, sym, ap, ◌∙◌}
use mathlib.Core.List.{List, [], ◌∷◌, map}
use Prim.Native.Nat.{ℕ, zero, suc, ◌+◌, ◌-◌, ◌<◌}
use native.Mathlib.Omega.{arith}
use lib.ListN.{length, get_or, drop, length-map, get_or-map, get_or-append}
use lib.Seq.{ext_get_or}
use Rattle.meaning.specs.Forest.{Forest, none}
use Rattle.tree.specs.Rows.{labels, sizes}
use Rattle.grammar.specs.Grammar.{Bytes, ◌⊲◌, Content, Document}
use Rattle.grammar.specs.Rows.{of_element, label_of, label_each, forest, shape, #, Row, rows_of, starts, lengths}
use Rattle.grammar.specs.Told.{Tells}
use Rattle.grammar.proofs.Rows.{labels_are, Spelled, rows_spelled, all_at}
use Rattle.grammar.proofs.Told.{Preceded, rows_told}
use Rattle.meaning.specs.Calls.{Filled}
use Rattle.labels.specs.Lists.{Holds}
use Rattle.labels.specs.Labelling.{Spells}
use Rattle.rows.proofs.Large.{no_row}
use Rattle.rows.proofs.Sizes.{sizes_tree}
use Rattle.dictionary.specs.Numbers.{place_of, numbers_of}
use Rattle.dictionary.proofs.Numbers.{known_after, number_place, length_numbers}
use Rattle.document.specs.Reading.{spellings_of, sorts_of, labels_of}

-- THE LABELS, in 01's words and as the tree's
-- a spelling's number: its place among the names of the dictionary and then the other spellings by first appearance
abbrev pub number_of : List (List ℕ) → Content → Bytes → ℕ
number_of names f s = place_of (known_after names (spellings_of f)) (s ⊲ [])

-- the tree of a document
abbrev pub tree_of : List (List ℕ) → Content → Forest
tree_of names f = forest (λ q s. label_of q (number_of names f s)) f none

map_twice : (g : List ℕ → ℕ) (h : Row → List ℕ) (R : List Row) → map g (map h R) ≡ map (λ (x : Row). g (h x)) R
map_twice g h [] = refl
map_twice g h (x ∷ R) = ap (λ (l : List ℕ). g (h x) ∷ l) (map_twice g h R)

get_d_map_to : (g : List ℕ → ℕ) (ws : List (List ℕ)) (r : ℕ) → r < length ws → get_or (map g ws) r 0 ≡ g (get_or ws r [])
get_d_map_to g [] r h = absurd (omega arith)
get_d_map_to g (w ∷ ws) zero h = refl
get_d_map_to g (w ∷ ws) (suc r) h = get_d_map_to g ws r (omega arith)

numbers_map : (ns ws : List (List ℕ)) → numbers_of ns ws ≡ map (place_of (known_after ns ws)) ws
numbers_map ns ws =
    ext_get_or 0 (numbers_of ns ws) (map (place_of (known_after ns ws)) ws) (length_numbers ns ws ∙ sym (length-map ws (place_of (known_after ns ws))))
    (λ r h. let p : r < length ws = omega (arith, length_numbers ns ws) in (number_place ns ws r p).0 ∙ sym (get_d_map_to (place_of (known_after ns ws)) ws r p))

-- labels made row by row
each_map : (g : Row → ℕ) (R : List Row) → label_each (map (λ (x : Row). x.sort) R) (map g R) ≡ map (λ (x : Row). label_of x.sort (g x)) R
each_map g [] = refl
each_map g (x ∷ R) = ap (λ (l : List ℕ). label_of x.sort (g x) ∷ l) (each_map g R)

-- the tree's labels are those of the rows, numbered by first appearance in preorder
pub tree_labels : (names : List (List ℕ)) (f : Content) → labels (tree_of names f) ≡ labels_of names f
tree_labels names f =
    labels_are (λ q s. label_of q (number_of names f s)) f
    ∙ sym
    (ap (label_each (sorts_of f)) (numbers_map names (spellings_of f) ∙ map_twice (place_of (known_after names (spellings_of f))) (λ (x : Row). x.spelling ⊲ []) (rows_of f))
    ∙ each_map (λ (x : Row). number_of names f x.spelling) (rows_of f))

-- A LIST THAT HAS A NUMBER FOR EACH ROW
held_at : (g : Row → ℕ) → g no_row ≡ 0 → (f : Content) (l : List ℕ) → Holds (map g (rows_of f)) l → (r : ℕ) → r < length (rows_of f) →
    get_or l r 0 ≡ g (get_or (rows_of f) r no_row)
held_at g z f l e r h =
    ap (λ (m : List ℕ). get_or m r 0) e.is ∙ get_or-append (map g (rows_of f)) e.rest 0 r (omega (arith, length-map (rows_of f) g))
    ∙ ap (get_or (map g (rows_of f)) r) (sym z) ∙ get_or-map g (rows_of f) r no_row

-- a lent list that is filled has them first
pub filled_holds : {xs : List ℕ} (old : List ℕ) {new : List ℕ} → Filled xs old new → Holds xs new
filled_holds {xs} old e = record { rest = drop (length xs) old; is = e }

-- each spelling stands in the document, where the row's start and length say
pub rows_spell : {w s l : List ℕ} {f : Content} {t : Bytes} → Document w f t → Holds (starts f) s → Holds (lengths f) l →
    (r : ℕ) → r < length (rows_of f) → Spells w s l (get_or (spellings_of f) r []) r
rows_spell {w} {s} {l} {f} {t} d es el r h =
    let x : Row = get_or (rows_of f) r no_row in
    let p : Spelled w x = all_at (Spelled w) (rows_of f) no_row (rows_spelled d) r h in
    let a : get_or s r 0 ≡ x.start = held_at (λ (y : Row). y.start) refl f s es r h in
    let b : get_or l r 0 ≡ # x.spelling = held_at (λ (y : Row). # y.spelling) refl f l el r h in
    let c : get_or (spellings_of f) r [] ≡ x.spelling ⊲ [] = get_or-map (λ (y : Row). y.spelling ⊲ []) (rows_of f) r no_row in
    let n : x.start + # x.spelling - x.start ≡ # x.spelling = omega arith in
    record {
      inside = omega (arith, a, b, p.inside);
      is = rw (a, b, n) (p.is ∙ sym c);
    }

-- and the byte before it tells what the row is of
pub rows_tell : {w s : List ℕ} {f : Content} {t : Bytes} → Document w f t → Holds (starts f) s → (r : ℕ) → r < length (rows_of f) →
    Tells w (get_or s r 0) (get_or (sorts_of f) r of_element)
rows_tell {w} {s} {f} {t} d es r h =
    let a : get_or s r 0 ≡ (get_or (rows_of f) r no_row).start = held_at (λ (y : Row). y.start) refl f s es r h in
    let b : get_or (sorts_of f) r of_element ≡ (get_or (rows_of f) r no_row).sort = sort_at (rows_of f) r h in
    rw (a, b) (all_at (Preceded w) (rows_of f) no_row (rows_told d) r h)
  where
    sort_at : (R : List Row) (r : ℕ) → r < length R → get_or (map (λ (x : Row). x.sort) R) r of_element ≡ (get_or R r no_row).sort
    sort_at [] r h = absurd (omega arith)
    sort_at (x ∷ R) zero h = refl
    sort_at (x ∷ R) (suc r) h = sort_at R r (omega arith)

pub tree_sizes : (names : List (List ℕ)) (f : Content) → sizes (shape f) ≡ sizes (tree_of names f)
tree_sizes names f = sym (sizes_tree (λ q s. 0) f) ∙ sizes_tree (λ q s. label_of q (number_of names f s)) f
