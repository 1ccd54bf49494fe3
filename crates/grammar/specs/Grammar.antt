-- 01, "From document to tree": "The subset: white space, one element, white space." "Tags are `<n>`, `</n>`, `<n/>`, white space
-- allowed directly after the name. End and start names agree. Text is bytes 9, 10 and 32 to 127 without `<`, `&` and `]]>`."
-- It is XML 1.0's grammar cut down, given by what is printed:
--   document ::= S? element S?        element ::= '<' Name S? '/>' | '<' Name S? '>' content '</' Name S? '>'
--   content ::= CharData? (element CharData?)*
use Rattle.std.specs.Prelude.{◌≡◌, true, List, [], ◌∷◌, ◌++◌, ℕ, suc, ◌≤◌, ◌<◌, length, take}
use Rattle.grammar.specs.Classes.{white, name_start, name_byte, text}

infixl 60 ◌▸◌
-- bytes in the order in which they stand, grown at the right
pub data Bytes : Type 0 where
  ε : Bytes
  ◌▸◌ : Bytes → ℕ → Bytes

infixr 50 ◌⊲◌
-- the bytes, and what follows them
abbrev pub ◌⊲◌ : Bytes → List ℕ → List ℕ
ε ⊲ v = v
(s ▸ b) ⊲ v = s ⊲ (b ∷ v)

-- the bytes that markup is made of, and the one that may not stand twice before its >
abbrev pub less : ℕ
less = 60

abbrev pub greater : ℕ
greater = 62

abbrev pub slash : ℕ
slash = 47

abbrev pub bracket : ℕ
bracket = 93

-- runs and elements in turn, up to the last element; the run behind it stands beside
pub data Content : Type 0 where
  nothing : Content
  -- before run <name space/>
  empty_element : (before : Content) (run name space : Bytes) → Content
  -- before run <name space> inner last </name space₂>
  element : (before : Content) (run name space : Bytes) (inner : Content) (last space₂ : Bytes) → Content

abbrev pub print : Content → List ℕ → List ℕ
print nothing v = v
print (empty_element f t n g) v = print f (t ⊲ less ∷ (n ⊲ g ⊲ slash ∷ greater ∷ v))
print (element f t n g i l h) v = print f (t ⊲ less ∷ (n ⊲ g ⊲ greater ∷ print i (l ⊲ less ∷ slash ∷ (n ⊲ h ⊲ greater ∷ v))))

-- the three kinds of tokens, by 01's classes
abbrev pub White : Bytes → Type 0
White ε = Unit {0}
White (s ▸ b) = White s × (white b ≡ true)

abbrev pub Name : Bytes → Type 0
Name ε = ⊥
Name (ε ▸ b) = name_start b ≡ true
Name (s ▸ a ▸ b) = Name (s ▸ a) × (name_byte b ≡ true)

abbrev pub Text : Bytes → Type 0
Text ε = Unit {0}
Text (s ▸ b) = Text s × (text b ≡ true) × ((u : Bytes) → s ▸ b ≡ u ▸ bracket ▸ bracket ▸ greater → ⊥)

-- inside an element: text and elements in turn
abbrev pub Inside : Content → Type 0
Inside nothing = Unit {0}
Inside (empty_element f t n g) = Inside f × Text t × Name n × White g
Inside (element f t n g i l h) = Inside f × Text t × Name n × White g × Inside i × Text l × White h

-- white space and one element
abbrev pub Root : Content → Type 0
Root nothing = ⊥
Root (empty_element f s n g) = (f ≡ nothing) × White s × Name n × White g
Root (element f s n g i l h) = (f ≡ nothing) × White s × Name n × White g × Inside i × Text l × White h

-- the bytes w are a document of the subset: white space and one element, which are f, and the white space t
pub record Document (w : List ℕ) (f : Content) (t : Bytes) : Type 0 where
  pub printed : w ≡ print f (t ⊲ [])
  pub root : Root f
  pub after : White t

-- some document begins with the bytes u
abbrev pub Opening : List ℕ → Type 0
Opening u = (v : List ℕ) × (f : Content) × (t : Bytes) × Document (u ++ v) f t

-- 01, "Numbers and order of checks", code 3: "not in the subset; place: first byte that no subset document could have after the bytes
-- before it, or the length if it ends early". w is no document; some document begins with the bytes before p, and none with these
-- and the byte at p, if w has one there.
pub record OutsideAt (w : List ℕ) (p : ℕ) : Type 0 where
  pub within : p ≤ length w
  pub before : Opening (take p w)
  pub there : p < length w → Opening (take (suc p) w) → ⊥
  pub early : (f : Content) (t : Bytes) → Document w f t → ⊥
