use Rattle.instance.proofs.Filled.{around_fits, around_is}
use Rattle.instance.specs.Places.{along, number, resized}
use native.Mathlib.Omega.{arith}
use Prim.Native.Nat.{ℕ, ◌-◌}
use lib.Seq.{sets}
use lib.ListN.{get_or}
use mathlib.Core.List.{List}
use mathlib.Core.Path.{ap, ◌∙◌}
use Rattle.instance.proofs.value.around.Goals as goal

pub at-taken-requires : goal.at-taken-requires
at-taken-requires c = omega (arith, c.requires.high, (around_fits c.requires).sized)

pub overflow_add-behind : goal.overflow_add-behind
overflow_add-behind c = omega (arith, c.well_formed, c.at-taken.ensures, (around_fits c.requires).ends, (around_fits c.requires).sized)

pub next-requires : goal.next-requires
next-requires c = omega (arith, c.requires.high, c.requires.low, (around_fits c.requires).sized)

pub overflow_sub-right : goal.overflow_sub-right
overflow_sub-right c = omega (arith, c.at-taken.ensures, c.next.ensures, (around_fits c.requires).ends)

pub overflow_add-next : goal.overflow_add-next
overflow_add-next c = omega (arith, c.well_formed, (around_fits c.requires).out_label)

pub overflow_add-next-2 : goal.overflow_add-next-2
overflow_add-next-2 c = omega (arith, c.well_formed, (around_fits c.requires).out_label)

pub copy_rows-end-requires : goal.copy_rows-end-requires
copy_rows-end-requires c =
    let f = around_fits c.requires in
    record {
      labels = record { read = omega (arith, c.at-taken.ensures, c.next.ensures, f.labelled, f.ends); written = omega (arith, c.at-taken.ensures, c.next.ensures, f.out_label) };
      sizes = record { read = omega (arith, c.at-taken.ensures, c.next.ensures, f.sized, f.ends); written = omega (arith, c.at-taken.ensures, c.next.ensures, f.out_size) };
    }

pub copy-requires : goal.copy-requires
copy-requires c =
    let f = around_fits c.requires in
    let p = c.requires in
    record { read = omega (arith, f.labelled, p.low, p.high); written = omega (arith, f.out_label) }

pub copy_above-requires : goal.copy_above-requires
copy_above-requires c = let f = around_fits c.requires in
    let p = c.requires in
    record {
      read = omega (arith, f.sized, p.low, p.high);
      written = omega (arith, f.out_size, c.copy_rows-end.auto.out_size);
      each = λ u i j. rw c.at-taken.ensures.0 (f.each u i j);
    }

pub returns : goal.returns
returns c =
    let a = c.args in
    let taken = c.at-taken.ensures.0 in
    let end = c.next.ensures in
    let left : ℕ = a.hole - a.start in
    let copied = c.copy_rows-end.ensures in
    around_is c.requires
    (c.copy.ensures ∙ ap (λ (l : List ℕ). sets l a.to (along (number a.tree.now.label.now) a.start left)) (rw (taken, end) at copied.labels))
    ((rw taken at c.copy_above.ensures)
    ∙ ap (λ (l : List ℕ). sets l a.to (along (resized a.tree.now.size.now a.hole (get_or a.tree.now.size.now a.hole 0) a.filled) a.start left)) (rw (taken, end) at copied.sizes))
    (rw (taken, end) at copied.end)
