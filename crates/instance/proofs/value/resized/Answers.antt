use mathlib.Core.Path.{sym}
use native.Mathlib.Omega.{arith}
use Rattle.instance.proofs.Above.{resized_above, resized_beside}
use Rattle.instance.proofs.value.resized.Goals as goal

pub overflow_sub-result : goal.overflow_sub-result
overflow_sub-result c = omega (arith, c.at-rows.ensures, c.requires.holds (omega (arith, c.at-rows.ensures)))

pub returns-then-hole-row : goal.returns-then-hole-row
returns-then-hole-row c = let a = c.args in
    omega (arith, c.at-rows.ensures, resized_above a.size.now a.hole a.taken a.filled a.row (omega (arith, c.at-rows.ensures)))

pub returns : goal.returns
returns c = let a = c.args in
    sym (resized_beside a.size.now a.hole a.taken a.filled a.row (omega (arith, c.at-rows.ensures)))
