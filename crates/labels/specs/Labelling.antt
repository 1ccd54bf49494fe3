-- Not needed to believe the promise: the labels of rows whose starts and lengths are known, and what they are of, told by the byte before.
use Rattle.std.specs.Prelude.{◌≡◌, List, [], ℕ, ◌+◌, ◌≤◌, ◌<◌, length, get_or}
use Rattle.meaning.specs.Calls.{Filled}
use Rattle.grammar.specs.Rows.{Sort, of_element, label_each}
use Rattle.grammar.specs.Told.{Tells}
use Rattle.dictionary.specs.Scan.{range}
use Rattle.dictionary.specs.Numbers.{numbers_of}
use Rattle.dictionary.specs.Index.{Indexed}

-- a row's spelling is the document's from its start on, so many bytes
pub record Spells (w start width spelling : List ℕ) (row : ℕ) : Type 0 where
  pub inside : get_or start row 0 + get_or width row 0 ≤ length w
  pub is : range w (get_or start row 0) (get_or start row 0 + get_or width row 0) ≡ spelling

-- what `label_rows` may be given: the index knows the names, and the rows that are noted are of these sorts and have these spellings
pub record MayLabelRows (d w : List ℕ) (names : ℕ) (index label start width : List ℕ) (rows : ℕ) (known : List (List ℕ)) (sorts : List Sort) (spellings : List (List ℕ)) : Type 0 where
  pub indexed : Indexed d w names index known
  pub counted : length known ≡ names
  pub few_names : names ≤ 1024
  pub large : 11264 ≤ length index
  pub short : length w ≤ 32768
  pub few_rows : rows ≤ 2048
  pub room_label : rows ≤ length label
  pub all : length spellings ≡ rows
  pub spells : (row : ℕ) → row < rows → Spells w start width (get_or spellings row []) row
  pub sorted : length sorts ≡ rows
  pub tells : (row : ℕ) → row < rows → Tells w (get_or start row 0) (get_or sorts row of_element)

abbrev pub LabelsRows : (d w : List ℕ) (names : ℕ) (index label start width : List ℕ) (rows : ℕ) (label' : List ℕ) → Type 0
LabelsRows d w names index label start width rows label' =
    (known : List (List ℕ)) (sorts : List Sort) (spellings : List (List ℕ)) → MayLabelRows d w names index label start width rows known sorts spellings →
    Filled (label_each sorts (numbers_of known spellings)) label label'
