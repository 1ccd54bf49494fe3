-- 01, "From document to tree": the tree of a document, and for each of its rows "the start and length of the row's spelling in the document".
-- "A run is all text between two neighbouring tags; one of white space only is dropped, another becomes a leaf, bytes kept."
-- 02, #101: "From now on a label is twice the number that 01 gives for an element and twice it plus one for a text". So a label is a function of
-- what the row is of and of its spelling.
use Rattle.std.specs.Prelude.{Bool, true, false, cond, ℕ, suc, ◌+◌, ◌*◌, List, [], ◌∷◌, map}
use Rattle.meaning.specs.Forest.{Forest, none, some}
use Rattle.grammar.specs.Classes.{white}
use Rattle.grammar.specs.Grammar.{Bytes, ε, ◌▸◌, Content, nothing, empty_element, element}

-- a row is an element's or a text's
pub data Sort : Type 0 where
  of_element of_text : Sort

-- the label of a row of this sort whose spelling has this number
abbrev pub label_of : Sort → ℕ → ℕ
label_of of_element number = 2 * number
label_of of_text number = 2 * number + 1

-- the labels of rows of these sorts whose spellings have these numbers
abbrev pub label_each : List Sort → List ℕ → List ℕ
label_each [] numbers = []
label_each (s ∷ ss) [] = []
label_each (s ∷ ss) (n ∷ ns) = label_of s n ∷ label_each ss ns

-- not white space only
abbrev pub inked : Bytes → Bool
inked ε = false
inked (s ▸ b) = cond (white b) (inked s) true

-- the leaf of a run, if it is not dropped, and then r
abbrev pub leaf : (Sort → Bytes → ℕ) → Bytes → Forest → Forest
leaf label t r = cond (inked t) (some (label of_text t) none r) r

-- the terms of the content, and then r
unfoldable pub forest : (Sort → Bytes → ℕ) → Content → Forest → Forest
forest label nothing r = r
forest label (empty_element f t n g) r = forest label f (leaf label t (some (label of_element n) none r))
forest label (element f t n g i l h) r = forest label f (leaf label t (some (label of_element n) (forest label i (leaf label l none)) r))

-- a document's tree but for its labels
abbrev pub shape : Content → Forest
shape f = forest (λ q s. 0) f none

-- how many bytes
abbrev pub # : Bytes → ℕ
# ε = 0
# (s ▸ b) = suc (# s)

-- how many bytes the content takes
unfoldable pub width : Content → ℕ
width nothing = 0
width (empty_element f t n g) = width f + # t + 1 + # n + # g + 2
width (element f t n g i l h) = width f + # t + 1 + # n + # g + 1 + width i + # l + 2 + # n + # h + 1

-- a row: what it is of, how deep it is, the root being at 1, where its spelling starts in the document, and its spelling
pub record Row : Type 0 where
  pub sort : Sort
  pub depth : ℕ
  pub start : ℕ
  pub spelling : Bytes

abbrev pub row : Sort → ℕ → ℕ → Bytes → Row
row q k a s = record { sort = q; depth = k; start = a; spelling = s }

-- the row of a run at a, if it is not dropped, and then r
abbrev pub leaf_row : ℕ → ℕ → Bytes → List Row → List Row
leaf_row k a t r = cond (inked t) (row of_text k a t ∷ r) r

-- the rows in preorder of the content at a, and then r
unfoldable pub rows_from : ℕ → ℕ → Content → List Row → List Row
rows_from k a nothing r = r
rows_from k a (empty_element f t n g) r = rows_from k a f (leaf_row k (a + width f) t (row of_element k (a + width f + # t + 1) n ∷ r))
rows_from k a (element f t n g i l h) r =
    rows_from k a f (leaf_row k (a + width f) t
    (row of_element k (a + width f + # t + 1) n
    ∷ rows_from (suc k) (a + width f + # t + 1 + # n + # g + 1) i (leaf_row (suc k) (a + width f + # t + 1 + # n + # g + 1 + width i) l r)))

-- a document's rows
abbrev pub rows_of : Content → List Row
rows_of f = rows_from 1 0 f []

abbrev pub starts : Content → List ℕ
starts f = map (λ (x : Row). x.start) (rows_of f)

abbrev pub lengths : Content → List ℕ
lengths f = map (λ (x : Row). # x.spelling) (rows_of f)
