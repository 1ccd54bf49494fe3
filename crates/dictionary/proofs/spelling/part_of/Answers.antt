use mathlib.Core.Path.{refl}
use native.Mathlib.Omega.{arith}
use Rattle.dictionary.proofs.Parts.{checked_names, far_label, far_start, far_length, name_answer, document_answer}
use Rattle.dictionary.proofs.spelling.part_of.Goals as goal

-- `part_of` meets its contract: a row beyond a list, a name, or a part of the document.
pub returns-then-label-row : goal.returns-then-label-row
returns-then-label-row c = far_label c.if-label-row.true

pub returns-then-start-row : goal.returns-then-start-row
returns-then-start-row c = far_start c.if-label-row.false c.if-start-row.true

pub returns-then-length-row : goal.returns-then-length-row
returns-then-length-row c = far_length c.if-label-row.false c.if-start-row.false c.if-length-row.true

pub name_part-requires : goal.name_part-requires
name_part-requires c = checked_names c.check.ensures _ (omega arith)

pub returns-then-place-names : goal.returns-then-place-names
returns-then-place-names c = name_answer c.if-label-row.false c.if-start-row.false c.if-length-row.false refl c.check.ensures (omega arith) c.name_part.ensures

pub returns : goal.returns
returns c = document_answer c.if-label-row.false c.if-start-row.false c.if-length-row.false refl c.check.ensures (omega arith) c.document_part.ensures
