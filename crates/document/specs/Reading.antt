-- 01, "From document to tree": "The reader answers code, place (0 unless the code is 3) and rows, and fills four lent lists: label, size, and
-- the start and length of the row's spelling in the document." Codes 1 to 6 of "Numbers and order of checks"; 6: "rows don't fit the
-- shortest of four lists". "The lowest that applies is given." "A refusal writes nothing."
use Rattle.std.specs.Prelude.{List, [], map, ℕ, ◌≤◌, ◌<◌, min, ◌+◌, ◌*◌, ◌≡◌, length, get_or, take, drop}
use Rattle.meaning.specs.Forest.{rows}
use Rattle.grammar.specs.Grammar.{Bytes, ◌⊲◌, Content, Document, OutsideAt}
use Rattle.grammar.specs.Rows.{Sort, label_each, shape, Row, rows_of, starts, lengths}
use Rattle.dictionary.specs.Numbers.{numbers_of}
use Rattle.tree.specs.Rows.{sizes, depth}
use Rattle.meaning.specs.Calls.{refuse, accept, Filled}
use Rattle.dictionary.specs.Names.{GoodDictionary}

-- the spellings of a document's rows in preorder
abbrev pub spellings_of : Content → List (List ℕ)
spellings_of f = map (λ (x : Row). x.spelling ⊲ []) (rows_of f)

-- what they are of
abbrev pub sorts_of : Content → List Sort
sorts_of f = map (λ (x : Row). x.sort) (rows_of f)

-- and their labels, each made of what the row is of and its spelling's number
abbrev pub labels_of : List (List ℕ) → Content → List ℕ
labels_of names f = label_each (sorts_of f) (numbers_of names (spellings_of f))

-- the four lists before and after; `width` is 01's length list, since `length` is that of a list
abbrev pub Unchanged : (label size start width label' size' start' width' : List ℕ) → Type 0
Unchanged label size start width label' size' start' width' = (label' ≡ label) × (size' ≡ size) × (start' ≡ start) × (width' ≡ width)

pub record Written (names : List (List ℕ)) (f : Content) (label size start width label' size' start' width' : List ℕ) : Type 0 where
  pub label_is : Filled (labels_of names f) label label'
  pub size_is : Filled (sizes (shape f)) size size'
  pub start_is : Filled (starts f) start start'
  pub width_is : Filled (lengths f) width width'

-- for a content f of the document and the dictionary's names: each row's spelling stands in the document at its start and length, and
-- the labels are those of the rows
pub record Spelt (w label start width : List ℕ) (rows : ℕ) (names : List (List ℕ)) (f : Content) : Type 0 where
  pub all : length (spellings_of f) ≡ rows
  pub inside : (row : ℕ) → row < rows → get_or start row 0 + get_or width row 0 ≤ length w
  pub bytes : (row : ℕ) → row < rows → take (get_or width row 0) (drop (get_or start row 0) w) ≡ get_or (spellings_of f) row []
  pub labelled : take rows label ≡ labels_of names f

-- the shortest of the four lists
abbrev pub shortest : List ℕ → List ℕ → List ℕ → List ℕ → ℕ
shortest label size start width = min (min (length label) (length size)) (min (length start) (length width))

-- w is a document of the subset, and of what it holds this is true
abbrev pub Holds : List ℕ → (Content → Type 0) → Type 0
Holds w Is = (f : Content) × (t : Bytes) × Document w f t × Is f

-- the codes, from the lowest up, for the dictionary d, the document w and room for so many rows
abbrev pub ReaderCodes : (d w : List ℕ) (room : ℕ) → ℕ → Type 0
ReaderCodes d w room =
    refuse 1 ((names : List (List ℕ)) × GoodDictionary d names)
    (refuse 2 (length w ≤ 32768)
    (refuse 3 (Holds w (λ f. Unit {0}))
    (refuse 4 (Holds w (λ f. depth (shape f) ≤ 64))
    (refuse 5 (Holds w (λ f. rows (shape f) ≤ 2048))
    (refuse 6 (Holds w (λ f. rows (shape f) ≤ room))
    accept)))))

-- code, place and rows
pub record ReaderAnswer (d w : List ℕ) (room code place number : ℕ) : Type 0 where
  pub lowest : ReaderCodes d w room code
  pub placed : code ≡ 3 → OutsideAt w place
  pub no_place : (code ≡ 3 → ⊥) → place ≡ 0
  pub counted : code ≡ 0 → Holds w (λ f. number ≡ rows (shape f))
  pub no_rows : (code ≡ 0 → ⊥) → number ≡ 0

-- the promise of `read` for the dictionary d and the document w: code, place and rows, and the four lists
pub record Read (d w label size start width label' size' start' width' : List ℕ) (code place rows : ℕ) : Type 0 where
  pub answer : ReaderAnswer d w (shortest label size start width) code place rows
  pub written : code ≡ 0 → (names : List (List ℕ)) (f : Content) (t : Bytes) → GoodDictionary d names → Document w f t → Written names f label size start width label' size' start' width'
  pub kept : (code ≡ 0 → ⊥) → Unchanged label size start width label' size' start' width'

-- 01: "The site's server, written in C, calls a check of dictionary bytes and document bytes and gets one 64-bit number:
-- code times 4,294,967,296 plus the place (code 3), the rows (code 0) or 0. It has no room limit, so it never gives 6."
-- The place is 0 unless the code is 3, and the rows are 0 unless it is 0: so their sum is the one that counts. A tree of 2,048 rows has room.
pub record DocumentChecked (d w : List ℕ) (r : ℕ) : Type 0 where
  pub code : ℕ
  pub place : ℕ
  pub rows : ℕ
  pub answer : ReaderAnswer d w 2048 code place rows
  pub is : r ≡ code * 4294967296 + (place + rows)
