use Rattle.std.proofs.Common.{sym, arith, ◌≡◌, ◌<◌, ◌^◌, Bool, ℕ}
use mathlib.Core.Path.{◌∙◌}
use borrow.Author.Tests.{eq-eqb, ne_eqb}
use lib.Count.{count_trailing_zeros}
use lib.Dec.{eqb}
use Rattle.letters.specs.Tables.{name_of, cont_of, ends_of}
use Rattle.letters.proofs.Decide.{stepped}
use Rattle.letters.proofs.OneLetter.{add_set, add_end}
use Rattle.letters.proofs.Sets.{Lowest, lowest}
use Rattle.letters.proofs.Visit.{visit_zero, visit_turn}
use Rattle.letters.proofs.step.Goals as goal
use Rattle.letters.proofs.step.Goals.{then-row-label, else-row-label}

-- in a turn: the lowest row of `left`, and what the branch did to `set` and `end`
module _ (c : goal.Joined-row-label) where
  fits : c.loop-left.left < 2 ^ 64
  fits = omega (arith, c.ranges.next)

  low : Lowest c.loop-left.left
  low = lowest c.loop-left.left c.loop-left-test.true fits

  abbrev reads : ℕ → Bool
  reads p = eqb (name_of c.args.tables.now p) c.args.label

  added :
      (c.if-row-label.set ≡ add_set reads (cont_of c.args.tables.now) (count_trailing_zeros 64 c.loop-left.left) c.loop-left.set)
      × (c.if-row-label.end ≡ add_end reads (ends_of c.args.tables.now) (count_trailing_zeros 64 c.loop-left.left) c.loop-left.end)
  added =
      elim c.if-row-label.branch [
        | then-row-label w ↦ rw (eq-eqb _ _ w.if-row-label.true) (w.set-is, w.end-is)
        | else-row-label w ↦ rw (ne_eqb _ _ w.if-row-label.false) (w.set-is, w.end-is)
      ]

pub overflow_sub-left : goal.overflow_sub-left
overflow_sub-left c = omega (arith, (low c).bit, (low c).le)

pub loop-left-smaller : goal.loop-left-smaller
loop-left-smaller c = grind (arith, (low c).bit, (low c).fewer)

pub loop-left-preserved : goal.loop-left-preserved
loop-left-preserved c =
    let i = c.loop-left.invariant in
    rw (low c).bit (
      omega arith,
      visit_turn _ c.loop-left.left c.loop-left.set c.if-row-label.set c.loop-left-test.true (fits c) (added c).0 ∙ i.1,
      visit_turn _ c.loop-left.left c.loop-left.end c.if-row-label.end c.loop-left-test.true (fits c) (added c).1 ∙ i.2,
    )

pub returns : goal.returns
returns c =
    let z : c.loop-left.left ≡ 0 = c.loop-left-test.false in
    let set_is = sym (visit_zero _ _) ∙ rw z at c.loop-left.invariant.1 in
    let end_is = sym (visit_zero _ _) ∙ rw z at c.loop-left.invariant.2 in
    λ e word end state. rw (set_is, end_is) (stepped state c.args.label (omega (arith, c.ranges.next)))
