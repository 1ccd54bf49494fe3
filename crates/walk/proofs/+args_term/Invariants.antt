use Rattle.walk.specs.Packed.{numbers_of}
use Rattle.std.proofs.Common.{get_or, ◌+◌, ◌*◌, ◌-◌}
use Rattle.walk.proofs.Arguments.{Walking}
use Rattle.walk.proofs.+args_term.Given as goal

-- the rows that are left, of the pattern and of the tree
abbrev pub decreases-args : goal.decreases-args
decreases-args l = 2 * ((l.pe - l.p) + (l.te - l.t)) + 1

abbrev pub decreases-term : goal.decreases-term
decreases-term l = 2 * (get_or (numbers_of l.pattern.now) (6 * l.p + 2) 0 + get_or l.tree.now.size.now l.t 0)

abbrev pub invariant-args-loop-q : goal.invariant-args-loop-q
invariant-args-loop-q l = Walking l.tree.label.now l.tree.size.now (numbers_of l.pattern) l.initial.«record» l.«record» l.initial.at l.at l.p l.pe l.t l.te l.n l.q l.u l.m

abbrev pub decreases-args-loop-q : goal.decreases-args-loop-q
decreases-args-loop-q l = l.pe - l.q
