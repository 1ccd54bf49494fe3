-- 01, "From document to tree": "The dictionary is bytes: each name non-empty and ended by byte 10, all names different, at most 1,024 names and 16,384 bytes. No bytes means no names. K is its number of names."
use Rattle.std.specs.Prelude.{◌≡◌, Bool, List, [], ◌∷◌, ◌++◌, ℕ, ◌≤◌, ◌<◌, length, get_or}
use Rattle.meaning.specs.Calls.{Says}

-- the names one after another, each ended by byte 10
abbrev pub encoding : List (List ℕ) → List ℕ
encoding [] = []
encoding (n ∷ ns) = n ++ (10 ∷ encoding ns)

pub record GoodName (n : List ℕ) : Type 0 where
  pub present : 0 < length n
  pub unbroken : (i : ℕ) → i < length n → get_or n i 0 ≡ 10 → ⊥

pub record GoodDictionary (bytes : List ℕ) (names : List (List ℕ)) : Type 0 where
  pub encoded : bytes ≡ encoding names
  pub each : (j : ℕ) → j < length names → GoodName (get_or names j [])
  pub different : (i j : ℕ) → i < j → j < length names → get_or names i [] ≡ get_or names j [] → ⊥
  pub few : length names ≤ 1024
  pub short : length bytes ≤ 16384

-- the names that the bytes are taken to have: "K is taken as 0 for a bad dictionary"
pub record NamesOf (bytes : List ℕ) (names : List (List ℕ)) : Type 0 where
  pub good : (ns : List (List ℕ)) → GoodDictionary bytes ns → names ≡ ns
  pub bad : ((ns : List (List ℕ)) → GoodDictionary bytes ns → ⊥) → names ≡ []

-- the promise of the check: code 1 is given exactly where `good` is false, and k is K
pub record DictionaryChecked (bytes : List ℕ) (good : Bool) (k : ℕ) : Type 0 where
  pub says : Says good ((names : List (List ℕ)) × GoodDictionary bytes names)
  pub counted : (names : List (List ℕ)) × NamesOf bytes names × (k ≡ length names)
