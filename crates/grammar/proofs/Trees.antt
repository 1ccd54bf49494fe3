-- The rows and the depth of a document's tree, counted over its content; they do not depend on the labels.
use mathlib.Core.Path.{◌≡◌, refl, sym, ap, ◌∙◌}
use mathlib.Core.Bool.{Bool, true, false, cond, true≢false}
use mathlib.Core.List.{List}
use Prim.Native.Nat.{ℕ, suc, ◌+◌, ◌≤◌, max}
use native.Mathlib.Omega.{arith}
use Rattle.meaning.specs.Forest.{Forest, none, some, rows, Term, term, ◌◂◌}
use Rattle.tree.specs.Rows.{depth}
use Rattle.grammar.specs.Grammar.{Bytes, ε, ◌▸◌, Content, nothing, empty_element, element, Document}
use Rattle.grammar.specs.Tokens.{Run, outer, WellFormed, no_element}
use Rattle.grammar.proofs.InWords.{root_formed, root_one}
use Rattle.grammar.specs.Rows.{Sort, of_element, of_text, inked, leaf, forest, shape}

unfoldable pub leaf_rows : Bytes → ℕ
leaf_rows t = cond (inked t) 1 0

unfoldable pub content_rows : Content → ℕ
content_rows nothing = 0
content_rows (empty_element f t n g) = content_rows f + leaf_rows t + 1
content_rows (element f t n g i l h) = content_rows f + leaf_rows t + 1 + content_rows i + leaf_rows l

-- the deepest row, the content's own level being 1
unfoldable pub content_depth : Content → ℕ
content_depth nothing = 0
content_depth (empty_element f t n g) = max (content_depth f) 1
content_depth (element f t n g i l h) = max (content_depth f) (suc (max (content_depth i) (leaf_rows l)))

pub one_leaf : (t : Bytes) → leaf_rows t ≤ 1
unfolding leaf_rows
one_leaf t = go (inked t)
  where
    go : (y : Bool) → cond y 1 0 ≤ 1
    go true = omega arith
    go false = omega arith

pub leaf_rows_lem : (label : Sort → Bytes → ℕ) (t : Bytes) (r : Forest) → rows (leaf label t r) ≡ leaf_rows t + rows r
unfolding leaf_rows rows
leaf_rows_lem label t r = go (inked t)
  where
    go : (y : Bool) → rows (cond y (some (label of_text t) none r) r) ≡ cond y 1 0 + rows r
    go true = omega arith
    go false = omega arith

leaf_depth : (label : Sort → Bytes → ℕ) (t : Bytes) (r : Forest) → depth (leaf label t r) ≡ max (leaf_rows t) (depth r)
unfolding leaf_rows depth
leaf_depth label t r = go (inked t)
  where
    go : (y : Bool) → depth (cond y (some (label of_text t) none r) r) ≡ max (cond y 1 0) (depth r)
    go true = omega arith
    go false = omega arith

pub rows_are : (label : Sort → Bytes → ℕ) (f : Content) (r : Forest) → rows (forest label f r) ≡ content_rows f + rows r
unfolding forest content_rows rows
rows_are label nothing r = omega arith
rows_are label (empty_element f t n g) r =
    rows_are label f (leaf label t (some (label of_element n) none r)) ∙ omega (arith, leaf_rows_lem label t (some (label of_element n) none r))
rows_are label (element f t n g i l h) r =
    let us : Forest = forest label i (leaf label l none) in
    rows_are label f (leaf label t (some (label of_element n) us r))
    ∙ omega (arith, leaf_rows_lem label t (some (label of_element n) us r), rows_are label i (leaf label l none), leaf_rows_lem label l none)

-- a leaf is no deeper than the term behind it
max_leaf : (x d r : ℕ) → x ≤ 1 → max x (max (suc d) r) ≡ max (suc d) r
max_leaf x d r h = omega arith

max_assoc : (x y z : ℕ) → max x (max y z) ≡ max (max x y) z
max_assoc x y z = omega arith

-- a run and a term behind the content f
term_depth : (label : Sort → Bytes → ℕ) (f : Content) (t : Bytes) (k : ℕ) (us r : Forest) →
    depth (forest label f (leaf label t (some k us r))) ≡ max (content_depth f) (depth (leaf label t (some k us r))) →
    depth (forest label f (leaf label t (some k us r))) ≡ max (max (content_depth f) (suc (depth us))) (depth r)
unfolding depth
term_depth label f t k us r e =
    e
    ∙ ap (max (content_depth f)) (leaf_depth label t (some k us r) ∙ max_leaf (leaf_rows t) (depth us) (depth r) (one_leaf t))
    ∙ max_assoc (content_depth f) (suc (depth us)) (depth r)

max_none : (x y : ℕ) → max x (max y 0) ≡ max x y
max_none x y = omega arith

pub depth_is : (label : Sort → Bytes → ℕ) (f : Content) (r : Forest) → depth (forest label f r) ≡ max (content_depth f) (depth r)
unfolding forest content_depth depth
depth_is label nothing r = omega arith
depth_is label (empty_element f t n g) r =
    term_depth label f t (label of_element n) none r (depth_is label f (leaf label t (some (label of_element n) none r)))
depth_is label (element f t n g i l h) r =
    let us : Forest = forest label i (leaf label l none) in
    let d : depth us ≡ max (content_depth i) (leaf_rows l) =
    depth_is label i (leaf label l none) ∙ ap (max (content_depth i)) (leaf_depth label l none) ∙ max_none (content_depth i) (leaf_rows l) in
    term_depth label f t (label of_element n) us r (depth_is label f (leaf label t (some (label of_element n) us r)))
    ∙ ap (λ (k : ℕ). max (max (content_depth f) (suc k)) (depth r)) d

-- THE TREE'S ROWS AND DEPTH are those of its shape, whatever the labels
pub shape_rows : (f : Content) → rows (shape f) ≡ content_rows f
unfolding rows
shape_rows f = rows_are (λ q s. 0) f none ∙ omega arith

pub shape_depth : (f : Content) → depth (shape f) ≡ content_depth f
unfolding depth
shape_depth f = depth_is (λ q s. 0) f none ∙ omega arith

-- A DOCUMENT'S TREE IS ONE TERM
-- white space makes no row
pub white_run : (t : Bytes) → Run outer t → inked t ≡ false
white_run ε h = refl
white_run (t ▸ b) h = simp h.1 (white_run t h.0)

pub one_term : (label : Sort → Bytes → ℕ) {w : List ℕ} {f : Content} {t : Bytes} → Document w f t → (T : Term) × (forest label f none ≡ (T ◂ none))
unfolding forest
one_term label {w} {f} {t} d = go f (root_formed f d.root) (root_one f d.root)
  where
    go : (f : Content) → WellFormed outer f → no_element f ≡ false → (T : Term) × (forest label f none ≡ (T ◂ none))
    go nothing h e = absurd (true≢false e)
    go (empty_element nothing t n g) h e = (term (label of_element n) none, simp (white_run t h.1))
    go (empty_element (empty_element f t n g) t' n' g') h e = absurd (true≢false (sym h.2))
    go (empty_element (element f t n g i l k) t' n' g') h e = absurd (true≢false (sym h.2))
    go (element nothing t n g i l k) h e = (term (label of_element n) (forest label i (leaf label l none)), simp (white_run t h.0.1))
    go (element (empty_element f t n g) t' n' g' i l k) h e = absurd (true≢false (sym h.0.2))
    go (element (element f t n g i₀ l₀ k₀) t' n' g' i l k) h e = absurd (true≢false (sym h.0.2))
