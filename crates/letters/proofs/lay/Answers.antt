use Rattle.std.proofs.Common.{arith, length-set, length, ◌-◌}
use Rattle.expression.specs.Rule.{number_at}
use Rattle.letters.proofs.Firsts.{laid_turn}
use Rattle.letters.proofs.lay.Goals as goal

pub loop-row-preserved : goal.loop-row-preserved
loop-row-preserved c =
    let parts = c.parts_of-parts.ensures.are in
    let first = rw (parts.0, parts.1) at c.head_of-head.ensures.0 in
    let null = rw (parts.0, parts.1) at c.head_of-head.ensures.1 in (
      simp length-set c.loop-row.invariant.0,
      laid_turn (number_at c.args.kind.now) (number_at c.args.name.now) (number_at c.args.size.now) c.loop-row.tables (c.loop-row.row - 1) (length c.args.kind.now)
          c.head_of-head.result (omega arith) first null (omega arith) c.loop-row.invariant.1,
    )
