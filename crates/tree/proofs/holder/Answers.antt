use Rattle.std.proofs.Common.{arith}
use Rattle.tree.proofs.Ways.{ahead_next, ahead_more}
use Rattle.tree.proofs.holder.Goals as goal

pub next-e-requires : goal.next-e-requires
next-e-requires c = (ahead_next c.requires.some.2 c.requires.some.1).0

pub loop-e-init : goal.loop-e-init
loop-e-init c = record {
  later = omega arith;
  low = (ahead_next c.requires.some.2 c.requires.some.1).1;
  end = c.next-e.ensures;
  passed = λ a b h ahead. ahead;
}

pub loop-e-smaller : goal.loop-e-smaller
loop-e-smaller c =
    let l = c.loop-e.invariant in
    let n = ahead_next (l.passed c.requires.some.0 c.args.b l.low c.requires.some.2) c.requires.some.1 in
    omega (arith, n)

pub loop-e-preserved : goal.loop-e-preserved
loop-e-preserved c =
    let l = c.loop-e.invariant in
    let n = ahead_next (l.passed c.requires.some.0 c.args.b l.low c.requires.some.2) c.requires.some.1 in
    record {
      later = omega arith;
      low = omega arith;
      end = c.next-e-in-loop-e.ensures;
      passed = λ a b h ahead. ahead_more (l.passed a b (omega arith) ahead) l.end h;
    }
