use Rattle.paths.proofs.Steps.{looks_on, looks_first, looks_pre, child_found}
use Rattle.paths.proofs.child.Goals as goal
use Rattle.paths.proofs.child.Goals.{then-b-from, else-b-from}

pub holder-requires : goal.holder-requires
holder-requires c = looks_pre c.requires
    (elim c.if-b-from.branch [ then-b-from w ↦ looks_first c.requires w.first-is | else-b-from w ↦ looks_on c.requires w.first-is w.if-b-from.false ])

pub returns : goal.returns
returns c = child_found c.requires
    (elim c.if-b-from.branch [ then-b-from w ↦ looks_first c.requires w.first-is | else-b-from w ↦ looks_on c.requires w.first-is w.if-b-from.false ])
    c.holder.ensures
