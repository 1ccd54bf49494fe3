use native.Mathlib.Omega.{arith}
use Rattle.dictionary.proofs.Ranges.{says_range}
use Rattle.dictionary.proofs.Entries.{entry_ordered, entry_differs, name_inside, name_says, learnt_inside, learnt_says}
use Rattle.dictionary.proofs.index.is_at.Goals as goal

pub overflow_sub-to : goal.overflow_sub-to
overflow_sub-to c = entry_ordered c.requires.0.1 c.args.place c.requires.1 c.from-at.ensures c.from-to.ensures

pub returns-then-to-at : goal.returns-then-to-at
returns-then-to-at c = λ known m. entry_differs m c.args.place c.requires.1 c.from-at.ensures c.from-to.ensures c.if-to-at.true

pub same-requires : goal.same-requires
same-requires c = (name_inside c.requires.0.1 c.args.place c.requires.1 c.from-at.ensures c.from-to.ensures (omega arith) c.if-to-at.false, omega (arith, c.requires.0.1.ordered, c.requires.0.1.inside))

pub returns-then-place-names : goal.returns-then-place-names
returns-then-place-names c = λ known m. name_says m c.args.place c.requires.1 c.from-at.ensures c.from-to.ensures (omega arith) c.if-to-at.false c.same.result (says_range (name_inside m c.args.place c.requires.1 c.from-at.ensures c.from-to.ensures (omega arith) c.if-to-at.false) m.inside c.same.ensures)

pub same-requires-2 : goal.same-requires-2
same-requires-2 c = (learnt_inside c.requires.0.1 c.args.place c.requires.1 c.from-at.ensures c.from-to.ensures (omega arith) c.if-to-at.false, omega (arith, c.requires.0.1.ordered, c.requires.0.1.inside))

pub returns : goal.returns
returns c = λ known m. learnt_says m c.args.place c.requires.1 c.from-at.ensures c.from-to.ensures (omega arith) c.if-to-at.false c.same-2.result (says_range (learnt_inside m c.args.place c.requires.1 c.from-at.ensures c.from-to.ensures (omega arith) c.if-to-at.false) m.inside c.same-2.ensures)
