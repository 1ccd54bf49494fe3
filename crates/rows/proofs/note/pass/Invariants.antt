use Prim.Native.Nat.{◌-◌}
use lib.ListN.{length}
use Rattle.rows.proofs.Noting.{Noting}
use Rattle.rows.proofs.note.pass.Given as goal

-- `pass` meets its contract. The measure is what is left of the document.
abbrev pub invariant-loop-turn : goal.invariant-loop-turn
invariant-loop-turn l = Noting l.document l.notes.starts l.notes.lengths l.notes.sizes l.around l.i l.top l.depth l.row

abbrev pub decreases-loop-turn : goal.decreases-loop-turn
decreases-loop-turn l = length l.document - l.i
