use native.Mathlib.Omega.{arith}
use lib.ListN.{length-set}
use Rattle.dictionary.proofs.index.insert.Goals as goal

pub bounds-index-count-2 : goal.bounds-index-count-2
bounds-index-count-2 c = simp length-set (omega arith)

pub bounds-index-count-3 : goal.bounds-index-count-3
bounds-index-count-3 c = simp length-set (omega arith)

pub bounds-index-bucket-2 : goal.bounds-index-bucket-2
bounds-index-bucket-2 c = simp length-set (omega arith)
