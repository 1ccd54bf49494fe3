use native.Mathlib.Omega.{arith}
use Rattle.record.proofs.Judged.{sequence_out, sequence_end, sequence_in}
use Rattle.record.proofs.sequence_fits.Goals as goal

pub returns-then-size-a : goal.returns-then-size-a
returns-then-size-a c = sequence_out c.if-size-a.true

pub returns-then-size-a-2 : goal.returns-then-size-a-2
returns-then-size-a-2 c = sequence_end c.args.b c.if-size-a-2.true

pub list_end-requires : goal.list_end-requires
list_end-requires c = record { inside = omega arith; some = c.requires.some }

pub count-requires : goal.count-requires
count-requires c = let h = c.requires.some in
    record { some = (h.0, _, c.list_end.ensures.is h.0 h.1 h.2) }

pub returns : goal.returns
returns c = sequence_in c.args.b (omega arith) c.list_end.ensures c.count.ensures
