use mathlib.Core.Path.{ap}
use native.Mathlib.Omega.{arith}
use Prim.Native.Nat.{ℕ, ◌+◌}
use Rattle.labels.proofs.Labelling.{labels_end, from_inside, may_number, its_sort, found_few, count_few, counted_new, labels_next}
use Rattle.labels.proofs.fill.label_rows.Goals as goal

-- the row's spelling ends where its start and length say
pub number_of-found-requires : goal.number_of-found-requires
number_of-found-requires c = (_, may_number c.requires.3 (c.loop-row.invariant _ _ _ c.requires.3) c.loop-row-test.true c.from-from.ensures (ap (λ (n : ℕ). c.from-from.result + n) c.from.ensures))

pub label_of-requires : goal.label_of-requires
label_of-requires c =
    let m = c.requires.3 in
    let k = c.loop-row.invariant _ _ _ c.requires.3 in
    let here = c.loop-row-test.true in
    let end = ap (λ (n : ℕ). c.from-from.result + n) c.from.ensures in
    let done = c.number_of-found.ensures _ (may_number m k here c.from-from.ensures end) in (
      (_, its_sort m k here c.from-from.ensures end),
      from_inside m k here c.from-from.ensures end,
      omega (arith, found_few m k here c.from-from.ensures end done, count_few m k here c.from-from.ensures end done),
    )

pub loop-row-preserved : goal.loop-row-preserved
loop-row-preserved c = λ known sorts ws m.
    let k = c.loop-row.invariant known sorts ws m in
    let here = c.loop-row-test.true in
    let end = ap (λ (n : ℕ). c.from-from.result + n) c.from.ensures in
    let done = c.number_of-found.ensures _ (may_number m k here c.from-from.ensures end) in
    labels_next m k here c.from-from.ensures end done (c.label_of.ensures _ (its_sort m k here c.from-from.ensures end))
    (counted_new c.loop-row.count c.number_of-found.result (found_few m k here c.from-from.ensures end done) c.from-new.ensures)

pub returns : goal.returns
returns c = λ known sorts ws m. labels_end m (c.loop-row.invariant known sorts ws m) c.loop-row-test.false
