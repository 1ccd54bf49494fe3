use Rattle.problem.specs.Problem.{lists}
use Rattle.test.proofs.Obeying.{Obeying}
use Rattle.test.proofs.all_obey.Given as goal

abbrev pub invariant-loop-x : goal.invariant-loop-x
invariant-loop-x l = Obeying (lists l.problem) l.tables l.variables l.«record» l.x
