-- Not needed to believe the promise: the check of a problem whose tree has been judged.
use Rattle.std.specs.Prelude.{ℕ, Bool, List}
use Rattle.meaning.specs.Calls.{Says}
use Rattle.tree.specs.Rows.{GoodRows}
use Rattle.problem.specs.Answer.{Told, Answered}
use Rattle.pattern.specs.declared.Pattern.{Pattern}
use Rattle.expression.specs.declared.Table.{Table}

-- what is answered, for every tree on which the judgement is right
pub record AnsweredJudged (tree : Bool) (pattern : Pattern) (table : Table) (constraint : List ℕ) (r : Told) : Type 0 where
  pub on : (label size : List ℕ) → Says tree (GoodRows label size)
      → Answered (record {
        label = label;
        size = size;
        kind = pattern.kind.now;
        name = pattern.name.now;
        pattern_size = pattern.size.now;
        expression_kind = table.kind.now;
        expression_name = table.name.now;
        expression_size = table.size.now;
        constraint = constraint;
      }) r
