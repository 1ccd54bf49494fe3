-- The sizes of rows as they are noted: that of an element is put where it ends.
use mathlib.Core.Path.{◌≡◌, refl, sym, ap, ◌∙◌}
use mathlib.Core.Bool.{Bool, true, false, cond}
use mathlib.Core.List.{List, [], ◌∷◌, ◌++◌, append_assoc, append-nil}
use Prim.Native.Nat.{ℕ, suc, ◌+◌}
use native.Mathlib.Omega.{arith}
use lib.ListN.{length, length-append}
use Rattle.meaning.specs.Forest.{Forest, none, some, rows}
use Rattle.tree.specs.Rows.{sizes}
use Rattle.grammar.specs.Grammar.{Bytes, Content, nothing, empty_element, element}
use Rattle.grammar.specs.Rows.{Sort, of_element, of_text, inked, leaf, forest}
use Rattle.grammar.specs.Machine.{Open}
use Rattle.grammar.proofs.Trees.{leaf_rows, content_rows, leaf_rows_lem, rows_are}
use Rattle.judge.proofs.Judging.{rows_o}

-- the sizes S, and then that of the run t
unfoldable pub leaf_sizes : List ℕ → Bytes → List ℕ
leaf_sizes S t = cond (inked t) (S ++ (1 ∷ [])) S

-- the sizes S, and then those of the content
unfoldable pub sizes_on : List ℕ → Content → List ℕ
sizes_on S nothing = S
sizes_on S (empty_element f t n g) = leaf_sizes (sizes_on S f) t ++ (1 ∷ [])
sizes_on S (element f t n g i l h) = leaf_sizes (sizes_on (leaf_sizes (sizes_on S f) t ++ (suc (content_rows i + leaf_rows l) ∷ [])) i) l

-- an open element has size 1
unfoldable pub sizes_o : List Open → List ℕ
sizes_o [] = []
sizes_o (p ∷ o) = leaf_sizes (sizes_on (sizes_o o) p.before) p.run ++ (1 ∷ [])

-- what stands before the innermost open element's own size
abbrev pub before_o : Open → List Open → List ℕ
before_o p o = leaf_sizes (sizes_on (sizes_o o) p.before) p.run

-- AS MANY AS ROWS
leaf_long : (S : List ℕ) (t : Bytes) → length (leaf_sizes S t) ≡ length S + leaf_rows t
unfolding leaf_sizes leaf_rows
leaf_long S t = go (inked t)
  where
    go : (y : Bool) → length (cond y (S ++ (1 ∷ [])) S) ≡ length S + cond y 1 0
    go true = length-append S (1 ∷ [])
    go false = omega arith

pub sizes_long : (S : List ℕ) (f : Content) → length (sizes_on S f) ≡ length S + content_rows f
unfolding sizes_on content_rows
sizes_long S nothing = omega arith
sizes_long S (empty_element f t n g) =
    length-append (leaf_sizes (sizes_on S f) t) (1 ∷ []) ∙ omega (arith, leaf_long (sizes_on S f) t, sizes_long S f)
sizes_long S (element f t n g i l h) =
    let k : ℕ = suc (content_rows i + leaf_rows l) in
    let X : List ℕ = leaf_sizes (sizes_on S f) t in
    leaf_long (sizes_on (X ++ (k ∷ [])) i) l
    ∙ omega (arith, sizes_long (X ++ (k ∷ [])) i, length-append X (k ∷ []), leaf_long (sizes_on S f) t, sizes_long S f)

pub open_long : (o : List Open) → length (sizes_o o) ≡ rows_o o
unfolding sizes_o rows_o
open_long [] = refl
open_long (p ∷ o) =
    length-append (before_o p o) (1 ∷ [])
    ∙ omega (arith, leaf_long (sizes_on (sizes_o o) p.before) p.run, sizes_long (sizes_o o) p.before, open_long o)

pub before_long : (p : Open) (o : List Open) → length (before_o p o) + 1 ≡ rows_o (p ∷ o)
unfolding sizes_o
before_long p o = sym (length-append (before_o p o) (1 ∷ [])) ∙ open_long (p ∷ o)

-- WHAT STANDS BEFORE STAYS
leaf_pre : (A B : List ℕ) (t : Bytes) → leaf_sizes (A ++ B) t ≡ A ++ leaf_sizes B t
unfolding leaf_sizes
leaf_pre A B t = go (inked t)
  where
    go : (y : Bool) → cond y ((A ++ B) ++ (1 ∷ [])) (A ++ B) ≡ A ++ cond y (B ++ (1 ∷ [])) B
    go true = append_assoc A B (1 ∷ [])
    go false = refl

-- .. a run, and one size behind it
named_pre : (A B : List ℕ) (t : Bytes) (k : ℕ) → leaf_sizes (A ++ B) t ++ (k ∷ []) ≡ A ++ (leaf_sizes B t ++ (k ∷ []))
named_pre A B t k = ap (λ (x : List ℕ). x ++ (k ∷ [])) (leaf_pre A B t) ∙ append_assoc A (leaf_sizes B t) (k ∷ [])

sizes_pre : (A B : List ℕ) (f : Content) → sizes_on (A ++ B) f ≡ A ++ sizes_on B f
unfolding sizes_on
sizes_pre A B nothing = refl
sizes_pre A B (empty_element f t n g) = ap (λ (x : List ℕ). leaf_sizes x t ++ (1 ∷ [])) (sizes_pre A B f) ∙ named_pre A (sizes_on B f) t 1
sizes_pre A B (element f t n g i l h) =
    let k : ℕ = suc (content_rows i + leaf_rows l) in
    ap (λ (x : List ℕ). leaf_sizes (sizes_on (leaf_sizes x t ++ (k ∷ [])) i) l) (sizes_pre A B f)
    ∙ ap (λ (x : List ℕ). leaf_sizes (sizes_on x i) l) (named_pre A (sizes_on B f) t k)
    ∙ ap (λ (x : List ℕ). leaf_sizes x l) (sizes_pre A (leaf_sizes (sizes_on B f) t ++ (k ∷ [])) i)
    ∙ leaf_pre A (sizes_on (leaf_sizes (sizes_on B f) t ++ (k ∷ [])) i) l

-- an element's own size in the midst of the others
pub own_size : (A : List ℕ) (x : ℕ) (f : Content) (t : Bytes) → leaf_sizes (sizes_on (A ++ (x ∷ [])) f) t ≡ A ++ (x ∷ leaf_sizes (sizes_on [] f) t)
own_size A x f t =
    ap (λ (y : List ℕ). leaf_sizes y t) (sizes_pre A (x ∷ []) f ∙ ap (λ (y : List ℕ). A ++ y) (sizes_pre (x ∷ []) [] f))
    ∙ leaf_pre A (x ∷ sizes_on [] f) t ∙ ap (λ (y : List ℕ). A ++ y) (leaf_pre (x ∷ []) (sizes_on [] f) t)

-- THEY ARE THE TREE'S
leaf_sizes_lem : (label : Sort → Bytes → ℕ) (S : List ℕ) (t : Bytes) (r : Forest) → leaf_sizes S t ++ sizes r ≡ S ++ sizes (leaf label t r)
unfolding leaf_sizes sizes rows
leaf_sizes_lem label S t r = go (inked t)
  where
    go : (y : Bool) → cond y (S ++ (1 ∷ [])) S ++ sizes r ≡ S ++ sizes (cond y (some (label of_text t) none r) r)
    go true = append_assoc S (1 ∷ []) (sizes r)
    go false = refl

sizes_pre_tree : (label : Sort → Bytes → ℕ) (S : List ℕ) (f : Content) (r : Forest) → sizes_on S f ++ sizes r ≡ S ++ sizes (forest label f r)
unfolding sizes_on forest sizes rows
sizes_pre_tree label S nothing r = refl
sizes_pre_tree label S (empty_element f t n g) r =
    append_assoc (leaf_sizes (sizes_on S f) t) (1 ∷ []) (sizes r)
    ∙ leaf_sizes_lem label (sizes_on S f) t (some (label of_element n) none r) ∙ sizes_pre_tree label S f (leaf label t (some (label of_element n) none r))
sizes_pre_tree label S (element f t n g i l h) r =
    let k : ℕ = suc (content_rows i + leaf_rows l) in
    let X : List ℕ = leaf_sizes (sizes_on S f) t in
    let us : Forest = forest label i (leaf label l none) in
    let count : k ≡ suc (rows us) = omega (arith, rows_are label i (leaf label l none), leaf_rows_lem label l none) in
    let inside : leaf_sizes (sizes_on (X ++ (k ∷ [])) i) l ≡ (X ++ (k ∷ [])) ++ sizes us =
    sym (append-nil (leaf_sizes (sizes_on (X ++ (k ∷ [])) i) l)) ∙ leaf_sizes_lem label (sizes_on (X ++ (k ∷ [])) i) l none ∙ sizes_pre_tree label (X ++ (k ∷ [])) i (leaf label l none) in
    ap (λ (x : List ℕ). x ++ sizes r) inside
    ∙ append_assoc (X ++ (k ∷ [])) (sizes us) (sizes r) ∙ append_assoc X (k ∷ []) (sizes us ++ sizes r)
    ∙ ap (λ (m : ℕ). X ++ (m ∷ (sizes us ++ sizes r))) count
    ∙ leaf_sizes_lem label (sizes_on S f) t (some (label of_element n) us r) ∙ sizes_pre_tree label S f (leaf label t (some (label of_element n) us r))

pub sizes_tree : (label : Sort → Bytes → ℕ) (f : Content) → sizes_on [] f ≡ sizes (forest label f none)
unfolding sizes
sizes_tree label f = sym (append-nil (sizes_on [] f)) ∙ sizes_pre_tree label [] f none
