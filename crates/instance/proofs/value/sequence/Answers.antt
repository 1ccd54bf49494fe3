use Rattle.std.proofs.Common.{arith}
use Rattle.instance.proofs.Pieces.{sequence_fits, sequence_made}
use Rattle.instance.proofs.Values.{its, sequence_pre}
use Rattle.instance.proofs.value.sequence.Goals as goal

pub at-start-requires : goal.at-start-requires
at-start-requires c = omega (arith, (its c.requires.some.2 c.requires.some.3).within)

pub at-count-requires : goal.at-count-requires
at-count-requires c = omega (arith, (its c.requires.some.2 c.requires.some.3).within)

pub past-requires : goal.past-requires
past-requires c = rw (c.at-start.ensures.0, c.at-count.ensures.0) (sequence_pre c.requires.some.2 c.requires.some.3)

pub overflow_sub-rows : goal.overflow_sub-rows
overflow_sub-rows c =
    let q = rw (c.at-start.ensures.0, c.at-count.ensures.0) at c.past.ensures in
    omega (arith, c.at-start.ensures, (sequence_fits c.requires q).0)

pub copy_rows-requires : goal.copy_rows-requires
copy_rows-requires c =
    let q = rw (c.at-start.ensures.0, c.at-count.ensures.0) at c.past.ensures in
    let f = sequence_fits c.requires q in
    record {
      labels = record { read = omega (arith, c.at-start.ensures, f.0, f.1); written = omega (arith, c.at-start.ensures, f.3) };
      sizes = record { read = omega (arith, c.at-start.ensures, f.0, f.2); written = omega (arith, c.at-start.ensures, f.4) };
    }

pub returns : goal.returns
returns c =
    let e = c.at-start.ensures.0 in
    let q = rw (e, c.at-count.ensures.0) at c.past.ensures in
    let copied = c.copy_rows.ensures in
    sequence_made q (rw e at copied.end) (rw e at copied.labels) (rw e at copied.sizes)
