use native.Mathlib.Omega.{arith}
use Rattle.compare.proofs.Stretches.{alike_orders, alike_ends, alike_differ, alike_same}
use Rattle.compare.proofs.alike.Goals as goal

pub overflow_sub-b : goal.overflow_sub-b
overflow_sub-b c = omega (arith, alike_orders c.requires)

pub overflow_sub-u : goal.overflow_sub-u
overflow_sub-u c = omega (arith, alike_orders c.requires)

pub returns-then-b-a : goal.returns-then-b-a
returns-then-b-a c = alike_differ c.if-b-a.true

pub overflow_sub-u-2 : goal.overflow_sub-u-2
overflow_sub-u-2 c = omega (arith, alike_orders c.requires)

pub same-requires : goal.same-requires
same-requires c = let p = c.requires in
    let orders = alike_orders p in
    let ends = alike_ends p in
    let long = c.if-b-a.false in
    record { labels = (omega arith, omega arith); sizes = (omega arith, omega arith) }

pub returns : goal.returns
returns c = alike_same c.if-b-a.false c.same.ensures
