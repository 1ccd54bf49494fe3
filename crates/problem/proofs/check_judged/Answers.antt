use Rattle.constraint.proofs.Meant.{list_asked}
use Rattle.problem.proofs.Lowest.{no_tree, no_pattern, no_table, no_constraints, names_asked, forgotten, all_good}
use Rattle.problem.proofs.check_judged.Goals as goal

pub returns-then-not-tree : goal.returns-then-not-tree
returns-then-not-tree c = record { on = λ L S j. no_tree _ j c.if-not-tree.true }

pub returns-then-not-checked : goal.returns-then-not-checked
returns-then-not-checked c = record { on = λ L S j. no_pattern _ j c.if-not-tree.false c.check-checked.ensures c.if-not-checked.true }

pub returns-then-not-good : goal.returns-then-not-good
returns-then-not-good c = record {
  on = λ L S j. no_table _ j c.if-not-tree.false c.check-checked.ensures c.if-not-checked.false c.good.ensures
      c.if-not-good.true;
}

pub given-requires : goal.given-requires
given-requires c = list_asked c.check-checked.ensures c.good.ensures c.if-not-checked.false c.if-not-good.false

pub returns-then-not-given : goal.returns-then-not-given
returns-then-not-given c = record {
  on = λ L S j. no_constraints _ j c.if-not-tree.false c.check-checked.ensures c.if-not-checked.false c.good.ensures
      c.if-not-good.false c.given.ensures c.if-not-given.true;
}

pub all_named-requires : goal.all_named-requires
all_named-requires c = names_asked c.check-checked.ensures c.if-not-checked.false c.good.ensures
    c.if-not-good.false c.given.ensures c.if-not-given.false

pub returns-then-not-all_named : goal.returns-then-not-all_named
returns-then-not-all_named c = record {
  on = λ L S j. forgotten _ j c.if-not-tree.false c.check-checked.ensures c.if-not-checked.false c.good.ensures
      c.if-not-good.false c.given.ensures c.if-not-given.false c.all_named.ensures c.if-not-all_named.true;
}

pub returns : goal.returns
returns c = record {
  on = λ L S j. all_good _ j c.if-not-tree.false c.check-checked.ensures c.if-not-checked.false c.good.ensures
      c.if-not-good.false c.given.ensures c.if-not-given.false c.all_named.ensures c.if-not-all_named.false;
}
