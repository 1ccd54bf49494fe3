use native.Mathlib.Omega.{arith}
use Rattle.words.proofs.Bytes.{again_word, says_front, says_last}
use Rattle.words.proofs.same_halves.Goals as goal

pub returns-then-half : goal.returns-then-half
returns-then-half c = says_front (λ k. (c.type_inv.left k).fits) (λ k. (c.type_inv.right k).fits) 4 c.requires.0 c.half.ensures.0 c.half-2.ensures.0 c.if-half.true

pub returns : goal.returns
returns c = says_last (λ k. (c.type_inv.left k).fits) (λ k. (c.type_inv.right k).fits) 4 (again_word (λ k. (c.type_inv.left k).fits) (λ k. (c.type_inv.right k).fits) 4 _ _ _ _ c.half.ensures.0 c.half-2.ensures.0 c.if-half.false) (omega (arith, c.requires.1)) c.requires.0 c.half-3.ensures.0 c.half-4.ensures.0
