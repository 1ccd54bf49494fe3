use Prim.Native.Nat.{ℕ}
use mathlib.Core.List.{List}
use Rattle.grammar.specs.Rows.{Sort}
use Rattle.labels.specs.Labelling.{MayLabelRows}
use Rattle.labels.proofs.Labelling.{LabelledTo}
use Rattle.labels.proofs.fill.label_rows.Given as goal

abbrev pub invariant-loop-row : goal.invariant-loop-row
invariant-loop-row l =
    (known : List (List ℕ)) (sorts : List Sort) (spellings : List (List ℕ)) → MayLabelRows l.dictionary l.document l.names l.initial.index l.initial.label l.notes.starts l.notes.lengths l.rows known sorts spellings →
    LabelledTo l.dictionary l.document l.names l.initial.index l.initial.label l.index l.label known sorts spellings l.rows l.count l.row
