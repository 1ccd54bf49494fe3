use Rattle.std.proofs.Common.{◌≡◌}
use Rattle.std.proofs.lemmas.List.Edits.{sets}
use Rattle.instance.specs.Places.{along, resized}
use Rattle.instance.proofs.value.copy_above.Given as goal

abbrev pub invariant-loop-i : goal.invariant-loop-i
invariant-loop-i l = l.out ≡ sets l.initial.out l.to (along (resized l.size l.hole l.taken l.filled) l.from l.i)
