use Rattle.walk.specs.Packed.{numbers_of}
use Rattle.walk.proofs.Packs.{Packing}
use Rattle.walk.proofs.pack.Given as goal

abbrev pub invariant-loop-row : goal.invariant-loop-row
invariant-loop-row l = Packing l.pattern.kind.now l.pattern.name.now l.pattern.size.now l.constraint (numbers_of l.initial.packed) (numbers_of l.packed) l.row
