-- Not needed to believe the promise: how known spellings lie in an index, which finds one by a hash of its bytes.
use Rattle.std.specs.Prelude.{◌≡◌, Bool, cond, List, [], ℕ, ◌+◌, ◌-◌, ◌*◌, ◌/◌, ◌%◌, ◌≤◌, ◌<◌, ltb, length, get_or, set}
use Rattle.words.specs.Words.{hash_of}
use Rattle.dictionary.specs.Names.{GoodDictionary, DictionaryChecked}
use Rattle.dictionary.specs.Scan.{range}
use Rattle.dictionary.specs.Numbers.{place_of, learn}

-- one of 2,048 numbers for a spelling
unfoldable pub name_bucket : List ℕ → ℕ
name_bucket w = (hash_of w 0 (length w) / 67108864 + length w) % 2048

-- q is one more than the last place below `bound` whose spelling has this bucket, or 0
pub record Link (known : List (List ℕ)) (bucket bound q : ℕ) : Type 0 where
  pub below : q ≤ bound
  pub belongs : 0 < q → name_bucket (get_or known (q - 1) []) ≡ bucket
  pub last : (i : ℕ) → i < bound → name_bucket (get_or known i []) ≡ bucket → i < q

-- the first `names` known spellings stand in the dictionary, the others in the document
abbrev pub source_of : List ℕ → List ℕ → ℕ → ℕ → List ℕ
source_of dictionary document names place = cond (ltb place names) dictionary document

pub record Entry (source w : List ℕ) (start end : ℕ) : Type 0 where
  pub ordered : start ≤ end
  pub inside : end ≤ length source
  pub spelled : w ≡ range source start end

-- the index: for each bucket the last place with it plus one; then for each place its spelling's start and end, and the last place before it with its bucket plus one
pub record Indexed (dictionary document : List ℕ) (names : ℕ) (index : List ℕ) (known : List (List ℕ)) : Type 0 where
  pub room : 2048 + 3 * length known ≤ length index
  pub different : (i j : ℕ) → i < j → j < length known → get_or known i [] ≡ get_or known j [] → ⊥
  pub entry : (j : ℕ) → j < length known → Entry (source_of dictionary document names j) (get_or known j []) (get_or index (2048 + 3 * j) 0) (get_or index (2049 + 3 * j) 0)
  pub head : (h : ℕ) → h < 2048 → Link known h (length known) (get_or index h 0)
  pub before : (j : ℕ) → j < length known → Link known (name_bucket (get_or known j [])) j (get_or index (2050 + 3 * j) 0)

-- what a call of `number_of` may be given: `count` spellings are known, and the new one is document's from start to end
pub record MayNumber (dictionary document : List ℕ) (names : ℕ) (index : List ℕ) (count start end : ℕ) (known : List (List ℕ)) : Type 0 where
  pub indexed : Indexed dictionary document names index known
  pub counted : length known ≡ count
  pub named : names ≤ count
  pub room : 2051 + 3 * count ≤ length index
  pub countable : count < 65535
  pub ordered : start ≤ end
  pub inside : end ≤ length document
  pub short : end < 65536

-- and what it does: the number is the spelling's place, and the index has learnt it
pub record Numbered (dictionary document : List ℕ) (names : ℕ) (old new : List ℕ) (known : List (List ℕ)) (w : List ℕ) (number : ℕ) : Type 0 where
  pub placed : number ≡ place_of known w
  pub kept : length new ≡ length old
  pub indexed : Indexed dictionary document names new (learn known w)

-- the index with one more spelling
abbrev pub inserted : List ℕ → ℕ → ℕ → ℕ → ℕ → List ℕ
inserted index count bucket start end =
    set (set (set (set index (2048 + 3 * count) start) (2049 + 3 * count) end) (2050 + 3 * count) (get_or index bucket 0)) bucket (count + 1)

-- an index that knows nothing yet, for at most 1,024 names
pub record Fresh (index : List ℕ) : Type 0 where
  pub large : 5120 ≤ length index
  pub clear : (h : ℕ) → h < 2048 → get_or index h 0 ≡ 0

-- what `learn_names` does: the check's answer, and the names of a good dictionary in the index, whatever the document
pub record NamesLearnt (bytes : List ℕ) (good : Bool) (k : ℕ) (old new : List ℕ) : Type 0 where
  pub checked : DictionaryChecked bytes good k
  pub kept : length new ≡ length old
  pub indexed : (names : List (List ℕ)) → GoodDictionary bytes names → (document : List ℕ) → Indexed bytes document (length names) new names
