use Rattle.std.proofs.Common.{rules, refl, length-set, ◌≡◌, length, arith}
use Rattle.letters.proofs.Filled.{conts_begin, conts_turn, heads_kept, heads_same}
use Rattle.letters.proofs.fill.Goals as goal

pub loop-row-init : goal.loop-row-init
loop-row-init c = (search rules, record { names = refl; firsts = refl; nulls = refl }, λ name es g. conts_begin g c.args.tables.now c.requires.3)

pub loop-row-preserved : goal.loop-row-preserved
loop-row-preserved c =
    let parts = c.parts_of-parts in (
      simp length-set c.loop-row.invariant.0,
      heads_same c.loop-row.invariant.1 (heads_kept c.loop-row.tables c.loop-row.row parts.result.left parts.result.right c.follow-left.result),
      λ name es g.
          conts_turn g c.loop-row.tables c.loop-row.row parts.result.left parts.result.right c.follow-left.result
          (omega arith) (omega arith) parts.ensures.are parts.ensures.rows c.follow-left.ensures.0 c.follow-left.ensures.1 (c.loop-row.invariant.2 name es g),
    )

pub returns-clause-conts : goal.returns-clause-conts
returns-clause-conts c =
    let all : c.loop-row.row ≡ length c.args.kind.now = omega arith in
    λ name es g. rw all at (c.loop-row.invariant.2 name es g)
