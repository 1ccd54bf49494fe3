use Rattle.std.proofs.Common.{arith}
use Rattle.instance.proofs.Pieces.{individual_fits, individual_made}
use Rattle.instance.proofs.value.individual.Goals as goal

pub at-row-requires : goal.at-row-requires
at-row-requires c = omega (arith, (individual_fits c.requires).0)

pub at-rows-requires : goal.at-rows-requires
at-rows-requires c = rw c.at-row.ensures.0 (individual_fits c.requires).1

pub copy_rows-requires : goal.copy_rows-requires
copy_rows-requires c =
    let f = individual_fits c.requires in
    let z = rw c.at-row.ensures.0 at c.at-rows.ensures.0 in
    record {
      labels = record { read = omega (arith, f.2, c.at-row.ensures); written = omega (arith, f.4) };
      sizes = record { read = omega (arith, f.3, c.at-row.ensures); written = omega (arith, f.5) };
    }

pub returns : goal.returns
returns c =
    let e = c.at-row.ensures.0 in
    let z = rw e at c.at-rows.ensures.0 in
    let copied = c.copy_rows.ensures in
    individual_made (rw z at copied.end) (rw (z, e) at copied.labels) (rw (z, e) at copied.sizes)
