-- 01, "What a matcher is": "The instance maker writes labels and sizes of the pattern under a record and answers its rows. It takes no
-- constraints and looks at none." And "Numbers and order of checks": the codes 11, 12 and 15 to 17; "a refusal writes nothing".
use Rattle.std.specs.Prelude.{ℕ, ◌≤◌, ◌≡◌, List, ◌++◌, length, drop, Result, Ok, Err}
use Rattle.meaning.specs.Forest.{none, Term, ◌◂◌, size}
use Rattle.meaning.specs.Pattern.{Pattern, Kind}
use Rattle.meaning.specs.Matcher.{Value, apply}
use Rattle.meaning.specs.Means.{RecordMeans}
use Rattle.meaning.specs.Calls.{refuse, accept}
use Rattle.meaning.specs.Refusal.{code}
use Rattle.meaning.specs.declared.refusal.Refusal.{Refusal}
use Rattle.tree.specs.Rows.{labels, sizes, GoodTree, GoodRows}
use Rattle.pattern.specs.Rows.{GoodPattern, GoodPatternRows}
use Rattle.record.specs.Good.{GoodRecordList}
use Rattle.tree.specs.declared.Tree.{Tree}
use Rattle.pattern.specs.declared.Pattern.{Pattern as PatternRows}

-- the answer as 01's two numbers: the code, and the rows, which are 0 in a refusal
abbrev pub code_given : Result ℕ Refusal → ℕ
code_given (Ok rows) = 0
code_given (Err e) = code e

abbrev pub rows_given : Result ℕ Refusal → ℕ
rows_given (Ok rows) = rows
rows_given (Err e) = 0

-- the lists that are read: a tree, a pattern, a record
pub record InstanceLists : Type 0 where
  pub label : List ℕ
  pub size : List ℕ
  pub kind : List ℕ
  pub name : List ℕ
  pub pattern_size : List ℕ
  pub numbers : List ℕ

abbrev pub lists : (label size kind name pattern_size numbers : List ℕ) → InstanceLists
lists l s k n z r = record { label = l; size = s; kind = k; name = n; pattern_size = z; numbers = r }

abbrev pub lists_of : Tree → PatternRows → List ℕ → InstanceLists
lists_of tree pattern numbers = lists tree.label.now tree.size.now pattern.kind.now pattern.name.now pattern.size.now numbers

-- U is the pattern under the substitution that the record means: a repeated variable has one value, that of its record
pub record Instance (l : InstanceLists) (U : Term) : Type 0 where
  pub tree : Term
  pub pattern : Pattern
  pub kinds : List Kind
  pub values : List Value
  pub good_tree : GoodTree l.label l.size tree
  pub good_pattern : GoodPattern l.kind l.name l.pattern_size pattern kinds
  pub meant : RecordMeans tree kinds l.numbers values
  pub is : U ≡ apply values pattern

-- the codes, from the lowest up; the two lists that are lent have so many places, and fitting both is fitting the shorter
abbrev pub InstanceCodes : InstanceLists → (label_room size_room : ℕ) → ℕ → Type 0
InstanceCodes l label_room size_room =
    refuse 11 (GoodRows l.label l.size)
    (refuse 12 (GoodPatternRows l.kind l.name l.pattern_size)
    (refuse 15 (GoodRecordList l.label l.size l.kind l.name l.pattern_size l.numbers)
    (refuse 16 ((U : Term) × Instance l U × (size U ≤ 2048))
    (refuse 17 ((U : Term) × Instance l U × (size U ≤ label_room) × (size U ≤ size_room))
    accept))))

-- the instance is made: its rows are answered and written, and the entries after them are unchanged
pub record MadeOf (l : InstanceLists) (out_label out_size : List ℕ) (r : Result ℕ Refusal) (new_label new_size : List ℕ) : Type 0 where
  pub made : Term
  pub its : Instance l made
  pub answered : rows_given r ≡ size made
  pub labelled : new_label ≡ labels (made ◂ none) ++ drop (size made) out_label
  pub sized : new_size ≡ sizes (made ◂ none) ++ drop (size made) out_size

-- the answer and the two lent lists afterwards, on all inputs; a refusal has no rows and writes nothing
pub record InstanceSettled (l : InstanceLists) (out_label out_size : List ℕ) (r : Result ℕ Refusal) (new_label new_size : List ℕ) : Type 0 where
  pub coded : InstanceCodes l (length out_label) (length out_size) (code_given r)
  pub accepted : code_given r ≡ 0 → MadeOf l out_label out_size r new_label new_size
  pub refused : (code_given r ≡ 0 → ⊥) → (rows_given r ≡ 0) × (new_label ≡ out_label) × (new_size ≡ out_size)
