use Rattle.pattern.proofs.Turns.{Seen}
use Rattle.pattern.proofs.scan.Given as goal

-- A turn keeps that the whole keeps the rules if and only if the rows from here on do.
abbrev pub invariant-loop-row : goal.invariant-loop-row
invariant-loop-row l = Seen l.pattern.kind.now l.pattern.name.now l.pattern.size.now l.row l.variables l.kinds
