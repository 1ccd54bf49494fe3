-- Not needed to believe the promise: the list of one problem of many whose tables are laid end to end.
use Rattle.std.specs.Prelude.{ℕ, ◌-◌, ◌≤◌, ◌≡◌, Bool, List, ◌++◌, length, take, drop}
use Rattle.meaning.specs.Calls.{Says}
use Rattle.tree.specs.Rows.{GoodRows}
use Rattle.problem.specs.Problem.{Lists}
use Rattle.lister.specs.Listed.{Settled}
use Rattle.answer.specs.declared.Listing.{Listing}
use Rattle.portion.specs.declared.Reach.{Reach}

-- the most that 32 lengths of 32 bits can add up to
abbrev pub most : ℕ
most = 137438953472

-- the entries from a up to e
abbrev pub stretch : ℕ → ℕ → List ℕ → List ℕ
stretch a e list = take (e - a) (drop a list)

-- the problem whose parts of the tables reach so far
abbrev pub stretch_lists : Lists → Reach → Reach → Lists
stretch_lists l from to =
    record {
      label = l.label;
      size = l.size;
      kind = stretch from.rows to.rows l.kind;
      name = stretch from.rows to.rows l.name;
      pattern_size = stretch from.rows to.rows l.pattern_size;
      expression_kind = stretch from.expressions to.expressions l.expression_kind;
      expression_name = stretch from.expressions to.expressions l.expression_name;
      expression_size = stretch from.expressions to.expressions l.expression_size;
      constraint = stretch from.numbers to.numbers l.constraint;
    }

-- the entries from a up to e are there
pub record EndsIn (a e : ℕ) (list : List ℕ) : Type 0 where
  pub start : a ≤ e
  pub end : e ≤ length list
  pub fits : e ≤ most

pub record PortionPre (tree : Bool) (l : Lists) (from to : Reach) (out : List ℕ) : Type 0 where
  pub judged : Says tree (GoodRows l.label l.size)
  pub kind : EndsIn from.rows to.rows l.kind
  pub name : EndsIn from.rows to.rows l.name
  pub pattern_size : EndsIn from.rows to.rows l.pattern_size
  pub expression_kind : EndsIn from.expressions to.expressions l.expression_kind
  pub expression_name : EndsIn from.expressions to.expressions l.expression_name
  pub expression_size : EndsIn from.expressions to.expressions l.expression_size
  pub constraint : EndsIn from.numbers to.numbers l.constraint
  pub share : EndsIn from.entries to.entries out

-- the share afterwards is what the lister leaves there, and the rest of out is as it was
pub record PortionPost (l : Lists) (from to : Reach) (budget : ℕ) (out : List ℕ) (r : Listing) (out' : List ℕ) : Type 0 where
  pub share : List ℕ
  pub long : length share ≡ to.entries - from.entries
  pub is : out' ≡ take from.entries out ++ (share ++ drop (to.entries - from.entries) (drop from.entries out))
  pub settled : Settled (stretch_lists l from to) budget (stretch from.entries to.entries out)
      (record { code = r.code; ending = r.ending; records = r.records; tries = r.tries }) share
