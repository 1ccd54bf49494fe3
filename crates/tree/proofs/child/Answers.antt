use Rattle.std.proofs.Common.{refl, arith}
use Rattle.tree.proofs.Ways.{ahead_first, ahead_next, ahead_found}
use Rattle.tree.proofs.child.Goals as goal

pub overflow_add-a : goal.overflow_add-a
overflow_add-a c = omega (arith, ahead_next (ahead_first _ _ _) c.requires, c.well_formed)

pub holder-requires : goal.holder-requires
holder-requires c = record { some = (c.args.a, c.requires, ahead_first c.args.size.now c.args.a c.args.b) }

pub returns : goal.returns
returns c = let h = c.holder.ensures in ahead_found (h.passed c.args.a c.args.b h.low (ahead_first c.args.size.now c.args.a c.args.b)) refl h.high
