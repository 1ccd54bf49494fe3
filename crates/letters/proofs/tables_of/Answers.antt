use Rattle.std.proofs.Common.{arith}
use Rattle.expression.proofs.Tables.{name_length, size_length, good_rows}
use Rattle.letters.proofs.Decide.{tables_are}
use Rattle.letters.proofs.tables_of.Goals as goal

pub lay-requires : goal.lay-requires
lay-requires c =
    let g = c.requires.1 in
    (name_length g, size_length g, g.most, λ s h. ((good_rows g s h).sized.left, (good_rows g s h).sized.right))

pub fill-requires : goal.fill-requires
fill-requires c =
    let g = c.requires.1 in
    (size_length g, g.most, λ s h. ((good_rows g s h).sized.left, (good_rows g s h).sized.right), c.lay.ensures.fresh)

pub returns : goal.returns
returns c =
    let kept = c.fill.ensures.heads in
    λ es g.
    tables_are g c.fill.new.tables
    (λ s h. rw kept.names (c.lay.ensures.names s (omega arith) h))
    (λ s h. rw (kept.firsts, kept.nulls) (c.lay.ensures.heads s (omega arith) h))
    (c.fill.ensures.conts _ es g)
