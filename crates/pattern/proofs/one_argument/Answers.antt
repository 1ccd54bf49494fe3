use borrow.Author.Rules.{rules}
use native.Mathlib.Omega.{arith}
use Rattle.pattern.proofs.Rules.{one_end, one_leaf, one_judged}
use Rattle.pattern.proofs.one_argument.Goals as goal

pub returns-then-first-pattern : goal.returns-then-first-pattern
returns-then-first-pattern c = let p = c.args.pattern.now in one_end p.kind.now p.size.now c.args.row (omega (arith, c.requires.lengths))

pub returns-then-pattern-row-lt2 : goal.returns-then-pattern-row-lt2
returns-then-pattern-row-lt2 c = let p = c.args.pattern.now in one_leaf p.kind.now p.size.now c.args.row c.if-pattern-row-lt2.true

pub returns : goal.returns
returns c = let p = c.args.pattern.now in one_judged p.kind.now p.size.now c.args.row (search rules) c.if-pattern-row-lt2.false
