use Rattle.std.proofs.Common.{◌≡◌, ℕ, ◌+◌, ◌<◌, ◌≤◌, List, length, get_or, sym, subst, arith}
use Rattle.meaning.proofs.Answers.{says_no, says_equal}
use Rattle.expression.specs.Expression.{Expression}
use Rattle.expression.specs.Rows.{StartsAt}
use Rattle.expression.specs.Columns.{rows, size_rows}
use Rattle.expression.proofs.Placed.{rows_positive}
use Rattle.expression.proofs.Places.{Walked, walk_meets, walk_on, later_start, start_size, start_in, sizes_length}
use Rattle.expression.proofs.starts.Goals as goal

-- the expression that the walk stands at, and its size
met : {S : List ℕ} {at : ℕ} (es : List Expression) → S ≡ size_rows es → Walked es at → at < length S
    → (e : Expression) × StartsAt es e at × (get_or S at 0 ≡ rows e) × (0 < rows e) × (at + rows e ≤ length S)
met es q w h =
    let m = walk_meets w (omega (arith, sizes_length es q)) in
    (m.0, m.1, start_size q m.1, rows_positive m.0, omega (arith, start_in m.1, sizes_length es q))

pub returns-then-row-at : goal.returns-then-row-at
returns-then-row-at c es q =
    let i = c.loop-at.invariant es q in
    let m = met es q i.0 c.loop-at-test.true in
    says_equal c.args.row c.loop-at.at (λ z. (m.0, subst (λ (j : ℕ). StartsAt es m.0 j) (sym z) m.1)) (λ s. omega (arith, i.1 s.0 s.1, c.if-row-at.true))

pub loop-at-smaller : goal.loop-at-smaller
loop-at-smaller c =
    let es = c.requires.0 in
    let q = c.requires.1 in
    omega (arith, met es q (c.loop-at.invariant es q).0 c.loop-at-test.true)

pub loop-at-preserved : goal.loop-at-preserved
loop-at-preserved c es q =
    let m = met es q (c.loop-at.invariant es q).0 c.loop-at-test.true in
    rw m.2 (walk_on m.1, λ e s. later_start m.1 s c.if-row-at.false)

pub returns : goal.returns
returns c es q =
    says_no (λ s. omega (arith, start_in s.1, rows_positive s.0, sizes_length es q, (c.loop-at.invariant es q).1 s.0 s.1, c.loop-at-test.false))
