use native.Mathlib.Omega.{arith}
use Rattle.walk.proofs.Taken.{take_room, take_resume, take_is}
use Rattle.walk.proofs.take.Goals as goal

pub put-requires : goal.put-requires
put-requires c = let r = take_room c.requires in (r.0, r.1, r.2)

pub overflow_add-x : goal.overflow_add-x
overflow_add-x c = omega (arith, take_room c.requires)

pub resume-requires : goal.resume-requires
resume-requires c = take_resume c.put.ensures c.requires

pub returns : goal.returns
returns c = take_is c.put.ensures c.resume.ensures
