use mathlib.Core.Path.{ap, ap₂, ◌∙◌}
use Prim.Native.Nat.{ℕ}
use borrow.Author.Tests.{lt-ltb, le-ltb, eq-eqb, ne_eqb}
use Rattle.words.specs.Words.{mixed_of, hash_of}
use Rattle.words.proofs.hash.Goals as goal

pub returns-then-length-eq0 : goal.returns-then-length-eq0
unfolding hash_of
returns-then-length-eq0 c = simp (eq-eqb _ _ c.if-length-eq0.true)

pub returns-then-length-lt4 : goal.returns-then-length-lt4
unfolding hash_of
returns-then-length-lt4 c = c.mixed.ensures ∙ ap (λ (x : ℕ). mixed_of x 0) c.few.ensures ∙ simp (ne_eqb _ _ c.if-length-eq0.false, lt-ltb _ _ c.if-length-lt4.true)

pub returns-then-length-lt8 : goal.returns-then-length-lt8
unfolding hash_of
returns-then-length-lt8 c = c.mixed-then-length-lt8.ensures ∙ ap₂ mixed_of c.half.ensures.0 c.half-then-length-lt8.ensures.0 ∙ simp (ne_eqb _ _ c.if-length-eq0.false, le-ltb _ _ c.if-length-lt4.false, lt-ltb _ _ c.if-length-lt8.true)

pub returns : goal.returns
unfolding hash_of
returns c = c.long_hash.ensures ∙ simp (ne_eqb _ _ c.if-length-eq0.false, le-ltb _ _ c.if-length-lt4.false, le-ltb _ _ c.if-length-lt8.false)
