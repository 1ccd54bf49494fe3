-- Demand 2: "A tree read from a document is the one that XML 1.0 gives within our subset. A record is called a matcher exactly when its
-- substitution turns the pattern into the tree, obeys every constraint, and is recorded at the places that the rules name."
use Rattle.std.specs.Prelude.{ℕ, ◌%◌, ◌≤◌, ◌<◌, ◌≡◌, ◌↔◌, true, List, [], ◌++◌, length, get_or, take, drop, Bool, Result, Ok}
use Rattle.meaning.specs.Forest.{none, Term, ◌◂◌, size}
use Rattle.meaning.specs.Pattern.{Pattern, Kind}
use Rattle.meaning.specs.Record.{IsRecord}
use Rattle.meaning.specs.declared.refusal.Refusal.{Refusal}
use Rattle.tree.specs.Rows.{labels, sizes, GoodTree, GoodRows}
use Rattle.pattern.specs.Rows.{GoodPattern}
use Rattle.grammar.specs.Grammar.{Bytes, Content, Document}
use Rattle.grammar.specs.Rows.{of_element, label_of, forest, shape, rows_of}
use Rattle.dictionary.specs.Names.{GoodDictionary, NamesOf}
use Rattle.dictionary.specs.Spelling.{half, spelling_of, bytes_of, IsPart, PartAnswered, part_stands_at, SpellingAnswered}
use Rattle.document.specs.Reading.{spellings_of, sorts_of, labels_of, Read, Written, Spelt}
use Rattle.expression.specs.Expression.{Expression}
use Rattle.constraint.specs.Obeys.{Constraint, Allowed}
use Rattle.problem.specs.Problem.{Lists, Poses}
use Rattle.test.specs.Tested.{yes_of, TestSettled}
use Rattle.instance.specs.Instance.{InstanceLists, Instance, InstanceSettled}

-- what is read: there is one content of which the grammar prints the document, and the four lists begin with the labels and sizes of
-- its tree and with the starts and lengths of its rows' spellings
pub record TreeRead : Type 0 where
  pub tree : {d w l s b n l' s' b' n' : List ℕ} {code place rows : ℕ} {names : List (List ℕ)} {f : Content} {t : Bytes} → Read d w l s b n l' s' b' n' code place rows → code ≡ 0
      → GoodDictionary d names → Document w f t → Written names f l s b n l' s' b' n'
  pub one : {w : List ℕ} {f g : Content} {t u : Bytes} → Document w f t → Document w g u → f ≡ g
  -- the labels, which go by the rows, and the sizes, which go by the shape, are those of one tree: the content's, with a number for each spelling
  pub one_tree : (names : List (List ℕ)) (f : Content) → (number : Bytes → ℕ) × (labels_of names f ≡ labels (forest (λ q s. label_of q (number s)) f none))
      × (sizes (shape f) ≡ sizes (forest (λ q s. label_of q (number s)) f none))
  -- its tree is good: it is never refused as 11
  pub taken : (d w l s b n l' s' b' n' : List ℕ) (place rows : ℕ) → Read d w l s b n l' s' b' n' 0 place rows → GoodRows (take rows l') (take rows s')
  pub spelt : (d w l s b n l' s' b' n' : List ℕ) (place rows : ℕ) (names : List (List ℕ)) (f : Content) (t : Bytes) → Read d w l s b n l' s' b' n' 0 place rows
      → GoodDictionary d names → Document w f t → Spelt w l' b' n' rows names f
  -- the spelling lookup gives a row the bytes that stand at its start and length in the document, also where the dictionary answers
  pub looked_up : (d w l s b n l' s' b' n' : List ℕ) (place rows row : ℕ) (d_at w_at at : ℕ × ℕ) (bytes : List ℕ) → Read d w l s b n l' s' b' n' 0 place rows → row < rows
      → SpellingAnswered d_at w_at d w l' b' n' row at bytes → bytes ≡ take (get_or n' row 0) (drop (get_or b' row 0) w)

-- 02, #101, of the rows i and j of a document: half the label tells the spelling, the label what the row is of as well, and it is even
-- exactly for an element
pub record ElementOrText : Type 0 where
  pub half_tells : (names : List (List ℕ)) (f : Content) (i j : ℕ) → i < length (rows_of f) → j < length (rows_of f)
      → (half (get_or (labels_of names f) i 0) ≡ half (get_or (labels_of names f) j 0)) ↔ (get_or (spellings_of f) i [] ≡ get_or (spellings_of f) j [])
  pub whole_tells : (names : List (List ℕ)) (f : Content) (i j : ℕ) → i < length (rows_of f) → j < length (rows_of f)
      → (get_or (labels_of names f) i 0 ≡ get_or (labels_of names f) j 0) ↔ ((get_or (spellings_of f) i [] ≡ get_or (spellings_of f) j []) × (get_or (sorts_of f) i of_element ≡ get_or (sorts_of f) j of_element))
  pub even_tells : (names : List (List ℕ)) (f : Content) (i : ℕ) → i < length (rows_of f) → (get_or (labels_of names f) i 0 % 2 ≡ 0) ↔ (get_or (sorts_of f) i of_element ≡ of_element)
  -- twice the names and rows that there may be, far below 65,536
  pub small : (d : List ℕ) (names : List (List ℕ)) (f : Content) (i : ℕ) → GoodDictionary d names → length (rows_of f) ≤ 2048 → i < length (rows_of f) → get_or (labels_of names f) i 0 < 6144

-- the spelling lookup gives the part that 01 names, of the slice that it names, for any row and any lists: by its numbers, and as a slice
pub record LooksUp : Type 0 where
  pub part : {d w l b n : List ℕ} {row s t u : ℕ} {names : List (List ℕ)} → PartAnswered d w l b n row s t u → NamesOf d names → IsPart s t u (spelling_of names w l b n row)
  pub slice : {d_at w_at at : ℕ × ℕ} {d w l b n v : List ℕ} {row : ℕ} {names : List (List ℕ)} → SpellingAnswered d_at w_at d w l b n row at v → NamesOf d names
      → (at ≡ part_stands_at d_at w_at (spelling_of names w l b n row)) × (v ≡ bytes_of d w (spelling_of names w l b n row))

pub record Answers : Type 0 where
  pub reader : TreeRead
  pub element_or_text : ElementOrText
  pub lookup : LooksUp
  -- the test says yes exactly to the records of matchers
  pub test : (l : Lists) (list : List ℕ) (r : Result Bool Refusal) (T : Term) (P : Pattern) (Q : List Kind) (es : List Expression) (cs : List Constraint) → TestSettled l list r → Poses l T P Q es cs
      → (yes_of r ≡ true) ↔ IsRecord (Allowed cs) Q P T list
  -- the instance maker writes the pattern under the record's substitution, where it fits
  pub instance : (l : InstanceLists) (L S L' S' : List ℕ) (r : Result ℕ Refusal) (U : Term) → InstanceSettled l L S r L' S' → Instance l U → size U ≤ 2048 → size U ≤ length L → size U ≤ length S
      → (r ≡ Ok (size U)) × (L' ≡ labels (U ◂ none) ++ drop (size U) L) × (S' ≡ sizes (U ◂ none) ++ drop (size U) S)
  -- and for the record of a matcher, whatever the constraints, that is the tree
  pub of_matcher : (l : InstanceLists) (L S L' S' : List ℕ) (r : Result ℕ Refusal) (T : Term) (P : Pattern) (Q : List Kind) (cs : List Constraint) → InstanceSettled l L S r L' S'
      → GoodTree l.label l.size T → GoodPattern l.kind l.name l.pattern_size P Q → IsRecord (Allowed cs) Q P T l.numbers
      → length l.label ≤ length L → length l.label ≤ length S
      → (r ≡ Ok (length l.label)) × (L' ≡ l.label ++ drop (length l.label) L) × (S' ≡ l.size ++ drop (length l.label) S)
