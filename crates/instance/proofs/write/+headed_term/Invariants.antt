use Rattle.std.proofs.Common.{◌+◌, ◌-◌, ◌*◌, get_or}
use Rattle.instance.proofs.Cycle.{Writing}
use Rattle.instance.proofs.write.+headed_term.Given as goal

-- Twice the rows of the pattern term, and one more for `term`, which calls `headed` at the same row.
abbrev pub decreases-headed : goal.decreases-headed
decreases-headed l = 2 * get_or l.pattern.now.size.now l.row 0

abbrev pub decreases-term : goal.decreases-term
decreases-term l = 2 * get_or l.pattern.now.size.now l.row 0 + 1

abbrev pub invariant-headed-loop-p : goal.invariant-headed-loop-p
invariant-headed-loop-p l =
    Writing l.tree.label.now l.tree.size.now l.pattern.kind.now l.pattern.name.now l.pattern.size.now l.«record» l.fn.out_label l.fn.out_size (l.row + 1) l.last (l.to + 1)
    l.out_label l.out_size l.p l.end

abbrev pub decreases-headed-loop-p : goal.decreases-headed-loop-p
decreases-headed-loop-p l = l.last - l.p
