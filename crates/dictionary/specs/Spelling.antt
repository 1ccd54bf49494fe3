-- 01, "From document to tree": "The spelling lookup takes a row and answers a part of the dictionary for a label below K, else of the document
-- by the row's start and length. A name comes without its byte 10. A row beyond any list, or a range outside the document where the document
-- is to answer, gives an empty part of the document." 02, #101: "spellings are found by half the label", rounded down.
use Rattle.std.specs.Prelude.{◌≡◌, cond, ◌&&◌, List, [], ℕ, ◌+◌, ◌/◌, eqb, leb, ltb, length, get_or, take, drop}
use Rattle.dictionary.specs.Names.{encoding, NamesOf}

-- a part of the dictionary (source 0) or of the document (source 1): its first byte and its number of bytes
pub record PartOf : Type 0 where
  pub source : ℕ
  pub start : ℕ
  pub length : ℕ

-- an empty part of the document is the one at its start
abbrev pub empty_part : PartOf
empty_part = record { source = 1; start = 0; length = 0 }

-- the name at a place: behind the names before it, each with its byte 10, and without its own
abbrev pub part_of_dictionary : List (List ℕ) → ℕ → PartOf
part_of_dictionary names place = record { source = 0; start = length (encoding (take place names)); length = length (get_or names place []) }

abbrev pub part_of_document : List ℕ → ℕ → ℕ → PartOf
part_of_document document start count = cond (leb (start + count) (length document)) (record { source = 1; start = start; length = count }) empty_part

-- the number of a label's spelling, whether an element's or a text's
abbrev pub half : ℕ → ℕ
half label = label / 2

unfoldable pub spelling_of : List (List ℕ) → List ℕ → List ℕ → List ℕ → List ℕ → ℕ → PartOf
spelling_of names document labels starts lengths row =
    cond (ltb row (length labels) && ltb row (length starts) && ltb row (length lengths))
    (cond (ltb (half (get_or labels row 0)) (length names)) (part_of_dictionary names (half (get_or labels row 0)))
    (part_of_document document (get_or starts row 0) (get_or lengths row 0)))
    empty_part

abbrev pub bytes_of : List ℕ → List ℕ → PartOf → List ℕ
bytes_of dictionary document part = take part.length (drop part.start (cond (eqb part.source 0) dictionary document))

-- three numbers are the part's own
pub record IsPart (source start count : ℕ) (part : PartOf) : Type 0 where
  pub source_is : source ≡ part.source
  pub start_is : start ≡ part.start
  pub length_is : count ≡ part.length

-- the promise of `part_of`
pub record PartAnswered (dictionary document labels starts lengths : List ℕ) (row source start count : ℕ) : Type 0 where
  pub names : List (List ℕ)
  pub taken : NamesOf dictionary names
  pub part_is : IsPart source start count (spelling_of names document labels starts lengths row)

-- where a part stands in memory, by block and offset, if the dictionary begins at d and the document at w
abbrev pub part_stands_at : (d w : ℕ × ℕ) → PartOf → ℕ × ℕ
part_stands_at d w part = cond (eqb part.source 0) (d.0, part.start + d.1) (w.0, part.start + w.1)

-- the promise of `spelling`: the slice that is that part, at its place and with its bytes
pub record SpellingAnswered (dictionary_at document_at : ℕ × ℕ) (dictionary document labels starts lengths : List ℕ) (row : ℕ) (at : ℕ × ℕ) (bytes : List ℕ) : Type 0 where
  pub names : List (List ℕ)
  pub taken : NamesOf dictionary names
  pub bytes_are : bytes ≡ bytes_of dictionary document (spelling_of names document labels starts lengths row)
  pub stands : at ≡ part_stands_at dictionary_at document_at (spelling_of names document labels starts lengths row)
