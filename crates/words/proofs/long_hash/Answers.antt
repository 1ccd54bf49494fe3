use mathlib.Core.Path.{ap, ap₂, ◌∙◌}
use Prim.Native.Nat.{ℕ, ◌/◌}
use borrow.Author.Tests.{lt-ltb, le-ltb}
use Rattle.words.specs.Words.{mixed_of, long_hash_of}
use Rattle.words.proofs.long_hash.Goals as goal

pub returns-then-length-lt17 : goal.returns-then-length-lt17
unfolding long_hash_of
returns-then-length-lt17 c = c.mixed-edges.ensures ∙ ap₂ mixed_of c.word.ensures c.word-2.ensures ∙ simp (lt-ltb _ _ c.if-length-lt17.true)

pub returns : goal.returns
unfolding long_hash_of
returns c = c.mixed.ensures ∙ ap₂ mixed_of (ap (λ (x : ℕ). x / 4194304) (c.mixed-edges.ensures ∙ ap₂ mixed_of c.word.ensures c.word-2.ensures)) c.word-3.ensures ∙ simp (le-ltb _ _ c.if-length-lt17.false)
