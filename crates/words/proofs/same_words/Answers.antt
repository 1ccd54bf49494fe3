use native.Mathlib.Omega.{arith}
use Rattle.words.proofs.Bytes.{again_none, again_more, again_word, says_word, says_last}
use Rattle.words.proofs.same_words.Goals as goal

pub loop-k-init : goal.loop-k-init
loop-k-init c = (again_none _ _ _ _, omega arith)

pub overflow_add-k : goal.overflow_add-k
overflow_add-k c = omega (arith, c.loop-k.invariant.1, c.requires, c.well_formed)

pub returns-then-word : goal.returns-then-word
returns-then-word c = says_word (λ k. (c.type_inv.left k).fits) (λ k. (c.type_inv.right k).fits) 8 _ (omega (arith, c.loop-k-test.true)) c.word.ensures c.word-in-loop-k.ensures c.if-word.true

pub loop-k-preserved : goal.loop-k-preserved
loop-k-preserved c = (again_more 8 c.loop-k.invariant.0 (again_word (λ k. (c.type_inv.left k).fits) (λ k. (c.type_inv.right k).fits) 8 _ _ _ _ c.word.ensures c.word-in-loop-k.ensures c.if-word.false), omega arith)

pub returns : goal.returns
returns c = says_last (λ k. (c.type_inv.left k).fits) (λ k. (c.type_inv.right k).fits) 8 c.loop-k.invariant.0 (omega (arith, c.loop-k-test.false)) c.requires.0 c.word-2.ensures c.word-3.ensures
