-- The rows of a document: their labels are the tree's, and their spellings stand in the document.
use mathlib.Core.Path.{◌≡◌, refl, sym, ap, ◌∙◌}
use mathlib.Core.Bool.{Bool, true, false, cond}
use mathlib.Core.List.{List, [], ◌∷◌, ◌++◌, append_assoc, append-nil, map}
use Prim.Native.Nat.{ℕ, zero, suc, ◌+◌, ◌≤◌, ◌<◌}
use native.Mathlib.Omega.{arith}
use lib.ListN.{length, get_or, take, drop, length-append}
use lib.Seq.{take_at, drop_at}
use Rattle.meaning.specs.Forest.{Forest, none, some}
use Rattle.tree.specs.Rows.{labels}
use Rattle.grammar.specs.Grammar.{Bytes, ◌⊲◌, Content, nothing, empty_element, element, print, Document}
use Rattle.grammar.specs.Rows.{inked, leaf, forest, #, width, Sort, of_element, of_text, Row, row, leaf_row, rows_from, rows_of}
use Rattle.grammar.proofs.Theory.{⊲-append}
use Rattle.grammar.proofs.Positions.{len-⊲, len_print}

-- THE LABELS
module _ (label : Sort → Bytes → ℕ) where
  row_labels : List Row → List ℕ
  row_labels R = map (λ (x : Row). label x.sort x.spelling) R

  -- the rows R are those of the forest r, and then those with the labels d
  abbrev Labels : Forest → List ℕ → List Row → Type 0
  Labels r d R = labels r ++ d ≡ row_labels R

  leaf_labels : (k a : ℕ) (t : Bytes) (r : Forest) (d : List ℕ) (R : List Row) → Labels r d R → Labels (leaf label t r) d (leaf_row k a t R)
  unfolding labels row_labels
  leaf_labels k a t r d R h = go (inked t)
    where
      go : (y : Bool) → labels (cond y (some (label of_text t) none r) r) ++ d ≡ row_labels (cond y (row of_text k a t ∷ R) R)
      go true = ap (λ (l : List ℕ). label of_text t ∷ l) h
      go false = h

  term_labels : (us r : Forest) (d : List ℕ) (k a : ℕ) (n : Bytes) (R : List Row) → Labels us (labels r ++ d) R → Labels (some (label of_element n) us r) d (row of_element k a n ∷ R)
  unfolding labels row_labels
  term_labels us r d k a n R h = ap (λ (l : List ℕ). label of_element n ∷ l) (append_assoc (labels us) (labels r) d ∙ h)

  labels_on : (k a : ℕ) (f : Content) (r : Forest) (d : List ℕ) (R : List Row) → Labels r d R → Labels (forest label f r) d (rows_from k a f R)
  unfolding forest rows_from labels
  labels_on k a nothing r d R h = h
  labels_on k a (empty_element f t n g) r d R h =
      labels_on k a f _ d _ (leaf_labels k (a + width f) t _ d _ (term_labels none r d k (a + width f + # t + 1) n R h))
  labels_on k a (element f t n g i l j) r d R h =
      labels_on k a f _ d _ (leaf_labels k (a + width f) t _ d _
      (term_labels (forest label i (leaf label l none)) r d k (a + width f + # t + 1) n _
      (labels_on (suc k) (a + width f + # t + 1 + # n + # g + 1) i (leaf label l none) (labels r ++ d) _
      (leaf_labels (suc k) (a + width f + # t + 1 + # n + # g + 1 + width i) l none (labels r ++ d) R h))))

  -- the tree's labels are those of its rows, by what they are of and their spellings
  pub labels_are : (f : Content) → labels (forest label f none) ≡ map (λ (x : Row). label x.sort x.spelling) (rows_of f)
  unfolding row_labels labels
  labels_are f = sym (append-nil (labels (forest label f none))) ∙ labels_on 1 0 f none [] [] refl

-- EACH SPELLING STANDS IN THE DOCUMENT
pub record Spelled (w : List ℕ) (x : Row) : Type 0 where
  pub inside : x.start + # x.spelling ≤ length w
  pub is : take (# x.spelling) (drop x.start w) ≡ x.spelling ⊲ []

abbrev pub All : (Row → Type 0) → List Row → Type 0
All P [] = Unit {0}
All P (x ∷ R) = P x × All P R

pub all_at : (P : Row → Type 0) (R : List Row) (z : Row) → All P R → (j : ℕ) → j < length R → P (get_or R j z)
all_at P [] z h j p = absurd (omega arith)
all_at P (x ∷ R) z h zero p = h.0
all_at P (x ∷ R) z h (suc j) p = all_at P R z h.1 j (omega arith)

print_append : (f : Content) (v : List ℕ) → print f v ≡ print f [] ++ v
print_append f v = go f [] v
  where
    go : (f : Content) (u v : List ℕ) → print f (u ++ v) ≡ print f u ++ v
    go nothing u v = refl
    go (empty_element f t n g) u v =
        ap (print f) (sym (⊲-append t _ v ∙ ap (λ (x : List ℕ). t ⊲ 60 ∷ x) (⊲-append n _ v ∙ ap (λ (x : List ℕ). n ⊲ x) (⊲-append g _ v))))
        ∙ go f (t ⊲ 60 ∷ (n ⊲ g ⊲ 47 ∷ 62 ∷ u)) v
    go (element f t n g i l h) u v =
        ap (print f) (sym (⊲-append t _ v ∙ ap (λ (x : List ℕ). t ⊲ 60 ∷ x) (⊲-append n _ v ∙ ap (λ (x : List ℕ). n ⊲ x) (⊲-append g _ v ∙ ap (λ (x : List ℕ). g ⊲ 62 ∷ x) (sym (go i _ v) ∙ ap (print i) (⊲-append l _ v ∙ ap (λ (x : List ℕ). l ⊲ 60 ∷ 47 ∷ x) (⊲-append n _ v ∙ ap (λ (x : List ℕ). n ⊲ x) (⊲-append h _ v))))))))
        ∙ go f (t ⊲ 60 ∷ (n ⊲ g ⊲ 62 ∷ print i (l ⊲ 60 ∷ 47 ∷ (n ⊲ h ⊲ 62 ∷ u)))) v

-- behind a bytes of w stands v
pub record Stands (w : List ℕ) (a : ℕ) (v : List ℕ) : Type 0 where
  pub before : List ℕ
  pub is : w ≡ before ++ v
  pub long : length before ≡ a

module _ {w : List ℕ} {a : ℕ} where
  behind : (s v : List ℕ) (n : ℕ) → length s ≡ n → Stands w a (s ++ v) → Stands w (a + n) v
  behind s v n p h = record {
    before = h.before ++ s;
    is = h.is ∙ sym (append_assoc h.before s v);
    long = length-append h.before s ∙ omega (arith, h.long, p);
  }

  pub behind_byte : (b : ℕ) (v : List ℕ) → Stands w a (b ∷ v) → Stands w (a + 1) v
  behind_byte b v h = behind (b ∷ []) v 1 refl h

  pub behind_bytes : (s : Bytes) (v : List ℕ) → Stands w a (s ⊲ v) → Stands w (a + # s) v
  behind_bytes s v h = behind (s ⊲ []) v (# s) (len-⊲ s [] ∙ omega arith) (rw (⊲-append s [] v) h)

  pub behind_content : (f : Content) (v : List ℕ) → Stands w a (print f v) → Stands w (a + width f) v
  behind_content f v h = behind (print f []) v (width f) (len_print f [] ∙ omega arith) (rw (← (print_append f v)) h)

  spelled_at : (q : Sort) (k : ℕ) (s : Bytes) (v : List ℕ) → Stands w a (s ⊲ v) → Spelled w (row q k a s)
  spelled_at q k s v h = record {
    inside = omega (arith, ap length h.is, length-append h.before (s ⊲ v), len-⊲ s v, h.long);
    is = ap (λ (x : List ℕ). take (# s) (drop a x)) (h.is ∙ ap (λ (y : List ℕ). h.before ++ y) (sym (⊲-append s [] v)))
        ∙ rw (drop_at h.before ((s ⊲ []) ++ v) a h.long) (take_at (s ⊲ []) v (# s) (len-⊲ s [] ∙ omega arith));
  }

module _ (w : List ℕ) where
  leaf_all : (k a : ℕ) (t : Bytes) (v : List ℕ) (R : List Row) → Stands w a (t ⊲ v) → All (Spelled w) R → All (Spelled w) (leaf_row k a t R)
  leaf_all k a t v R s h = go (inked t)
    where
      go : (y : Bool) → All (Spelled w) (cond y (row of_text k a t ∷ R) R)
      go true = (spelled_at of_text k t v s, h)
      go false = h

  spelled_on : (k a : ℕ) (f : Content) (v : List ℕ) (R : List Row) → Stands w a (print f v) → All (Spelled w) R → All (Spelled w) (rows_from k a f R)
  unfolding rows_from
  spelled_on k a nothing v R s h = h
  spelled_on k a (empty_element f t n g) v R s h =
      let s₁ : Stands w (a + width f) (t ⊲ 60 ∷ (n ⊲ g ⊲ 47 ∷ 62 ∷ v)) = behind_content f _ s in
      let s₂ : Stands w (a + width f + # t + 1) (n ⊲ g ⊲ 47 ∷ 62 ∷ v) = behind_byte 60 _ (behind_bytes t _ s₁) in
      spelled_on k a f _ _ s (leaf_all k (a + width f) t _ _ s₁ (spelled_at of_element k n _ s₂, h))
  spelled_on k a (element f t n g i l j) v R s h =
      let w₂ : List ℕ = l ⊲ 60 ∷ 47 ∷ (n ⊲ j ⊲ 62 ∷ v) in
      let s₁ : Stands w (a + width f) (t ⊲ 60 ∷ (n ⊲ g ⊲ 62 ∷ print i w₂)) = behind_content f _ s in
      let s₂ : Stands w (a + width f + # t + 1) (n ⊲ g ⊲ 62 ∷ print i w₂) = behind_byte 60 _ (behind_bytes t _ s₁) in
      let s₃ : Stands w (a + width f + # t + 1 + # n + # g + 1) (print i w₂) = behind_byte 62 _ (behind_bytes g _ (behind_bytes n _ s₂)) in
      let s₄ : Stands w (a + width f + # t + 1 + # n + # g + 1 + width i) w₂ = behind_content i _ s₃ in
      spelled_on k a f _ _ s (leaf_all k (a + width f) t _ _ s₁ (spelled_at of_element k n _ s₂, spelled_on (suc k) _ i _ _ s₃ (leaf_all (suc k) _ l _ R s₄ h)))

-- each row's spelling stands in the document, where the row says
pub rows_spelled : {w : List ℕ} {f : Content} {t : Bytes} → Document w f t → All (Spelled w) (rows_of f)
rows_spelled {w} {f} {t} d = spelled_on w 1 0 f (t ⊲ []) [] (record { before = []; is = d.printed; long = refl }) tt
