-- 02, #105, "The next page": "Refusals: .. then 15 for a bad record, then 20 for a record that isn't of a matcher."
use Rattle.std.specs.Prelude.{ℕ, ◌≡◌, List}
use Rattle.meaning.specs.Forest.{Term}
use Rattle.meaning.specs.Pattern.{Pattern, Kind}
use Rattle.meaning.specs.Record.{IsRecord}
use Rattle.meaning.specs.Calls.{refuse, accept}
use Rattle.record.specs.Good.{GoodRecordList}
use Rattle.expression.specs.Expression.{Expression}
use Rattle.constraint.specs.Obeys.{Constraint, Allowed}
use Rattle.problem.specs.Problem.{Lists, Poses, Codes}
use Rattle.catalogue.specs.Page.{Page}
use Rattle.lister.specs.Listed.{Listed}

-- the record is that of a matcher of the problem that the lists pose
abbrev pub MatcherRecord : Lists → List ℕ → Type 0
MatcherRecord l list =
    (T : Term) × (P : Pattern) × (Q : List Kind) × (es : List Expression) × (cs : List Constraint) × Poses l T P Q es cs × IsRecord (Allowed cs) Q P T list

-- the codes, in the order in which they are asked: those of the problem, 15, and then 20
abbrev pub RecordCodes : Lists → List ℕ → ℕ → Type 0
RecordCodes l list = refuse 15 (GoodRecordList l.label l.size l.kind l.name l.pattern_size list) (refuse 20 (MatcherRecord l list) accept)

abbrev pub PageCodes : Lists → List ℕ → ℕ → Type 0
PageCodes l list = Codes l (RecordCodes l list)

-- what a page promises of its answer and of the lent list, for any lists and any record
pub record PageSettled (l : Lists) (list : List ℕ) (budget : ℕ) (before : List ℕ) (r : Listed) (after : List ℕ) : Type 0 where
  -- the first code whose rule is broken
  pub code : PageCodes l list r.code
  -- the matchers after the record once, in order, as far as room and budget go
  pub listed : r.code ≡ 0 → (T : Term) (P : Pattern) (Q : List Kind) (es : List Expression) (cs : List Constraint) → Poses l T P Q es cs
      → Page (Allowed cs) Q P T list budget before r.ending r.records r.tries after
  -- nothing in a refusal
  pub refused : (r.code ≡ 0 → ⊥) → (r.ending ≡ 0) × (r.records ≡ 0) × (r.tries ≡ 0) × (after ≡ before)
