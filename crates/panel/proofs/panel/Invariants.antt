use Rattle.panel.specs.Panel.{panel_of}
use Rattle.panel.proofs.Going.{Going}
use Rattle.panel.proofs.panel.Given as goal

abbrev pub invariant-loop-i : goal.invariant-loop-i
invariant-loop-i l = Going (panel_of l.asked) l.tree l.initial.out l.initial.answer l.i l.from l.out l.answer
