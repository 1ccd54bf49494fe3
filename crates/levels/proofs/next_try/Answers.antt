use mathlib.Core.Path.{refl}
use native.Mathlib.Omega.{arith}
use Rattle.levels.proofs.Columns.{standing}
use Rattle.levels.proofs.Steps.{skip_pre, small, further_pre}
use Rattle.levels.proofs.next_try.Goals as goal

pub skip-run-requires : goal.skip-run-requires
skip-run-requires c = skip_pre c.requires (standing c.args.levels.now c.args.d) c.spare-limit.ensures.0 c.spare-limit.ensures.1

pub overflow_add-value : goal.overflow_add-value
overflow_add-value c = omega (arith, small c.requires (standing c.args.levels.now c.args.d) c.spare-limit.ensures.0 c.spare-limit.ensures.1 c.skip-run.ensures)

pub overflow_sub-left : goal.overflow_sub-left
overflow_sub-left c = omega (arith, small c.requires (standing c.args.levels.now c.args.d) c.spare-limit.ensures.0 c.spare-limit.ensures.1 c.skip-run.ensures)

pub overflow_sub-left-2 : goal.overflow_sub-left-2
overflow_sub-left-2 c = omega (arith, small c.requires (standing c.args.levels.now c.args.d) c.spare-limit.ensures.0 c.spare-limit.ensures.1 c.skip-run.ensures)

pub further-row-requires : goal.further-row-requires
further-row-requires c = further_pre c.requires (standing c.args.levels.now c.args.d) c.spare-limit.ensures.0 c.spare-limit.ensures.1 c.skip-run.ensures

pub overflow_add-value-2 : goal.overflow_add-value-2
overflow_add-value-2 c = omega (arith, small c.requires (standing c.args.levels.now c.args.d) c.spare-limit.ensures.0 c.spare-limit.ensures.1 c.skip-run.ensures)

pub overflow_cast-result : goal.overflow_cast-result
overflow_cast-result c = omega (arith, small c.requires (standing c.args.levels.now c.args.d) c.spare-limit.ensures.0 c.spare-limit.ensures.1 c.skip-run.ensures)

pub returns : goal.returns
returns c = record {
  row = _;
  next = _;
  some = _;
  limit = _;
  onward = _;
  level = standing c.args.levels.now c.args.d;
  fewer = c.spare-limit.ensures.0;
  afford = c.spare-limit.ensures.1;
  passed = c.skip-run.ensures;
  value = refl;
  rest = refl;
  further = c.further-row.ensures;
  moved = c.advance.ensures;
}
