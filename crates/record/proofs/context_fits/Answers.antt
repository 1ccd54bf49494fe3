use native.Mathlib.Omega.{arith}
use Rattle.record.proofs.Judged.{context_out, context_above, context_in}
use Rattle.record.proofs.context_fits.Goals as goal

pub returns-then-size-a : goal.returns-then-size-a
returns-then-size-a c = context_out c.if-size-a.true

pub returns-then-b-a : goal.returns-then-b-a
returns-then-b-a c = context_above c.if-b-a.true

pub returns : goal.returns
returns c = context_in c.args.b c.next.result (omega arith) c.if-b-a.false c.next.ensures
