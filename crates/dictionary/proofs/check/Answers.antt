use native.Mathlib.Omega.{arith}
use Rattle.dictionary.proofs.Learning.{fresh}
use Rattle.dictionary.proofs.check.Goals as goal

pub learn_names-requires : goal.learn_names-requires
learn_names-requires c = fresh 5120 (omega arith)
