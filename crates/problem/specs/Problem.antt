-- 01, "Numbers and order of checks": codes 11 to 14 of a tree, a pattern, an expression table and a constraint list, "The lowest that
-- applies is given"; 02, #104: 19, "directly after 14". The lister, its pages and the test of a record give these first, from this one place.
use Rattle.std.specs.Prelude.{ℕ, List}
use Rattle.meaning.specs.Forest.{Term}
use Rattle.meaning.specs.Pattern.{Pattern, Kind}
use Rattle.meaning.specs.Calls.{refuse}
use Rattle.tree.specs.Rows.{GoodTree, GoodRows}
use Rattle.pattern.specs.Rows.{GoodPatternRows}
use Rattle.expression.specs.Expression.{Expression}
use Rattle.expression.specs.Rows.{GoodTable}
use Rattle.constraint.specs.Obeys.{Constraint}
use Rattle.constraint.specs.Good.{ListsMean, GoodConstraintList}
use Rattle.constraint.specs.Named.{AllNamed}
use Rattle.problem.specs.declared.Problem.{Problem}

-- the nine lists of a problem
pub record Lists : Type 0 where
  pub label : List ℕ
  pub size : List ℕ
  pub kind : List ℕ
  pub name : List ℕ
  pub pattern_size : List ℕ
  pub expression_kind : List ℕ
  pub expression_name : List ℕ
  pub expression_size : List ℕ
  pub constraint : List ℕ

abbrev pub lists : Problem → Lists
lists p =
    record {
      label = p.tree.label.now;
      size = p.tree.size.now;
      kind = p.pattern.kind.now;
      name = p.pattern.name.now;
      pattern_size = p.pattern.size.now;
      expression_kind = p.table.kind.now;
      expression_name = p.table.name.now;
      expression_size = p.table.size.now;
      constraint = p.constraint.now;
    }

-- the lists mean this tree, this pattern with variables of these kinds, these expressions and these constraints; and no expression is
-- forgotten
pub record Poses (l : Lists) (T : Term) (P : Pattern) (Q : List Kind) (es : List Expression) (cs : List Constraint) : Type 0 where
  pub tree : GoodTree l.label l.size T
  pub rest : ListsMean l.kind l.name l.pattern_size l.expression_kind l.expression_name l.expression_size l.constraint P Q es cs
  pub named : AllNamed es l.constraint

-- the codes, in the order of the checks; `others` are those of a function that checks more
abbrev pub Codes : Lists → (ℕ → Type 0) → ℕ → Type 0
Codes l others =
    refuse 11 (GoodRows l.label l.size)
    (refuse 12 (GoodPatternRows l.kind l.name l.pattern_size)
    (refuse 13 ((es : List Expression) × GoodTable l.expression_kind l.expression_name l.expression_size es)
    (refuse 14 (GoodConstraintList l.kind l.name l.pattern_size l.expression_kind l.expression_name l.expression_size l.constraint)
    (refuse 19 ((es : List Expression) × GoodTable l.expression_kind l.expression_name l.expression_size es × AllNamed es l.constraint)
    others))))
