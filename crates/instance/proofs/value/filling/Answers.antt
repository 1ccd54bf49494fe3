use Rattle.instance.proofs.Pieces.{filling_fits, filling_is}
use native.Mathlib.Omega.{arith}
use Rattle.instance.proofs.value.filling.Goals as goal

pub at-start-requires : goal.at-start-requires
at-start-requires c = omega (arith, (filling_fits c.requires).0)

pub at-hole-requires : goal.at-hole-requires
at-hole-requires c = omega (arith, (filling_fits c.requires).0)

pub overflow_sub-result : goal.overflow_sub-result
overflow_sub-result c = omega (arith, c.at-start.ensures, c.at-hole.ensures, (filling_fits c.requires).1)

pub overflow_add-result : goal.overflow_add-result
overflow_add-result c = omega (arith, c.at-start.ensures, c.at-hole.ensures, (filling_fits c.requires).2)

pub returns : goal.returns
returns c = filling_is (omega (arith, c.at-start.ensures, c.at-hole.ensures))
