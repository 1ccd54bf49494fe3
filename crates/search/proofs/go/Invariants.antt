use mathlib.Core.Path.{◌≡◌}
use lib.ListN.{length}
use Prim.Native.Nat.{◌-◌}
use Rattle.memory.specs.Memory.{Both}
use Rattle.walk.specs.Packed.{numbers_of, root_of}
use Rattle.levels.specs.Columns.{places, variables, starts, rows, nexts, lefts}
use Rattle.search.proofs.Turns.{given, Going}
use Rattle.search.proofs.go.Given as goal

abbrev pub invariant-loop-depth : goal.invariant-loop-depth
invariant-loop-depth l =
    let a = l.initial in
    let w = a.levels in
    Going
    (given l.tree.label.now l.tree.size.now (numbers_of l.pattern) l.tables l.budget l.room l.width a.«record» a.at (places w) (variables w) (starts w) (rows w) (nexts w) (lefts w) l.start a.out)
    l.out l.«record» l.at (places l.levels) (variables l.levels) (starts l.levels) (rows l.levels) (nexts l.levels) (lefts l.levels) l.depth l.count l.tries
    × Both l.tree.label.now l.tree.size.now l.tables (root_of (numbers_of l.pattern)) l.memory l.path × (length l.levels ≡ 256)

abbrev pub decreases-loop-depth : goal.decreases-loop-depth
decreases-loop-depth l = l.budget - l.tries
