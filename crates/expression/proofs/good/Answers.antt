use Prim.Native.Nat.{ℕ, ◌<◌, ◌≤◌}
use mathlib.Core.Path.{refl}
use native.Mathlib.Omega.{arith}
use Rattle.meaning.proofs.Answers.{says_no, said_no}
use Rattle.expression.proofs.Tables.{good_table, good_rows}
use Rattle.expression.proofs.good.Goals as goal

pub returns-then-not-named : goal.returns-then-not-named
returns-then-not-named c = says_no (λ o. said_no c.named.ensures c.if-not-named.true (good_rows o.1 c.loop-i.i (omega arith)).named)

pub returns-then-not-sized : goal.returns-then-not-sized
returns-then-not-sized c = says_no (λ o. said_no c.sized.ensures c.if-not-sized.true (good_rows o.1 c.loop-i.i (omega arith)).sized)

pub returns : goal.returns
returns c =
    let t = c.args.table.now in (
      (λ e. good_table t.kind.now t.name.now t.size.now (omega arith) (omega arith) (omega arith) (λ s l. c.loop-i.invariant s (omega arith))),
      (λ o. refl),
    )
