use Rattle.std.proofs.Common.{◌≤◌, ◌-◌, length}
use Rattle.constraint.proofs.Names.{NamesMarked, NamedTo}
use Rattle.constraint.proofs.all_named.Given as goal

-- a mark for each first number of the variables passed
abbrev pub invariant-loop-x : goal.invariant-loop-x
invariant-loop-x l = NamesMarked l.constraint l.x l.marks

-- no expression passed is without one
abbrev pub invariant-loop-row : goal.invariant-loop-row
invariant-loop-row l = record {
  low : l.row ≤ length l.size;
  named : NamedTo l.size l.constraint l.row;
}

abbrev pub decreases-loop-row : goal.decreases-loop-row
decreases-loop-row l = length l.size - l.row
