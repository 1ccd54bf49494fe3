use Rattle.std.proofs.Common.{◌≡◌, length}
use Rattle.expression.specs.Rule.{number_at}
use Rattle.letters.specs.Following.{Laid}
use Rattle.letters.proofs.lay.Given as goal

abbrev pub invariant-loop-row : goal.invariant-loop-row
invariant-loop-row l = (length l.tables.rows ≡ 64) × Laid (number_at l.kind) (number_at l.name) (number_at l.size) (length l.kind) l.tables l.row
