use Prim.Native.Nat.{◌-◌, ◌≤◌}
use native.Mathlib.Omega.{arith}
use lib.ListN.{length}
use Rattle.tokens.specs.Tokens.{Passed, plain_at}
use Rattle.tokens.proofs.Spans.{passed_none, passed_block, passed_then}
use borrow.Author.Rules.{rules}
use Rattle.tokens.proofs.plain_end.Goals as goal

pub loop-i-init : goal.loop-i-init
loop-i-init c = (omega (arith, c.min-near.ensures), passed_none _ _ _ c.requires)

pub returns-then-count-lt8 : goal.returns-then-count-lt8
returns-then-count-lt8 c = let l = c.loop-i.invariant in
    passed_block _ l.1 (omega (arith, l.0, c.plain_count-count.ensures.0, c.loop-i-test.true)) c.plain_count-count.ensures.1

pub loop-i-preserved : goal.loop-i-preserved
loop-i-preserved c = let l = c.loop-i.invariant in
    (l.0, passed_block 8 l.1 (omega (arith, l.0, c.loop-i-test.true)) (λ k h. c.plain_count-count.ensures.1 k (omega (arith, c.if-count-lt8.false, h))))

pub returns : goal.returns
returns c = passed_then c.loop-i.invariant.1 c.blocks_end.ensures (λ k e. e)
