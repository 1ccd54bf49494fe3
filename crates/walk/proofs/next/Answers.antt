use native.Mathlib.Omega.{arith}
use Rattle.walk.proofs.Rows.{numbers_long, row_at}
use Rattle.walk.proofs.next.Goals as goal

pub offset_bounds-pattern-p : goal.offset_bounds-pattern-p
offset_bounds-pattern-p c = omega (arith, numbers_long c.args.pattern.now, c.requires, c.told-pattern)

pub bounds-pattern-p : goal.bounds-pattern-p
bounds-pattern-p c = omega (arith, numbers_long c.args.pattern.now, c.requires, c.told-pattern)

pub returns : goal.returns
returns c = omega (arith, (row_at c.args.pattern.now c.args.p).size)
