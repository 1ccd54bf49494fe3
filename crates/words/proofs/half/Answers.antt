use native.Mathlib.Omega.{arith}
use Rattle.words.proofs.Bytes.{half_is}
use Rattle.words.proofs.half.Goals as goal

pub returns : goal.returns
returns c = (half_is _ _ _ _ _ _ c.from-a.ensures c.from-b.ensures c.from-c.ensures c.from-d.ensures, omega arith)
