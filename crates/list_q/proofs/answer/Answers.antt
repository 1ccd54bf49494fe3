use Rattle.std.proofs.Common.{List, ℕ, ◌≡◌, ◌≤◌, length, arith, sym, refl}
use Rattle.std.proofs.lemmas.List.{length-take-le}
use Rattle.document.proofs.Cases.{Cases, bad_dictionary, bad_document, without_room, filled, cases}
use Rattle.list_q.proofs.answer.Goals as goal

-- the rows of a document that was read fit the lists
fits : {d w label size start width label' size' start' width' : List ℕ} {code place rows : ℕ} → Cases d w label size start width label' size' start' width' code place rows →
    code ≡ 0 → (rows ≤ length label) × (rows ≤ length size)
fits (bad_dictionary n u) e = absurd (omega (arith, e))
fits (bad_document g v n u) e = absurd (n e)
fits (without_room g v h u) e = absurd (omega (arith, e))
fits (filled g v h d w) e = (omega arith, omega arith)

pub slice_bounds-label-end : goal.slice_bounds-label-end
slice_bounds-label-end g c = omega (arith, fits (cases (rw c.in-Ok.is at c.read.ensures)) refl)

pub slice_bounds-tree-end : goal.slice_bounds-tree-end
slice_bounds-tree-end g c = sym (length-take-le _ _ (omega (arith, fits (cases (rw c.in-Ok.is at c.read.ensures)) refl)))

pub slice_bounds-size-end : goal.slice_bounds-size-end
slice_bounds-size-end g c = omega (arith, fits (cases (rw c.in-Ok.is at c.read.ensures)) refl)

pub slice_bounds-tree-end-in-Ok : goal.slice_bounds-tree-end-in-Ok
slice_bounds-tree-end-in-Ok g c = sym (length-take-le _ _ (omega (arith, fits (cases (rw c.in-Ok.is at c.read.ensures)) refl)))
