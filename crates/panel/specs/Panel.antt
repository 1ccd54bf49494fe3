-- 02, #106, "A panel of patterns": "One call takes up to 32 problems over one tree, their tables laid end to end with lists of lengths, shares
-- of the output and budgets, and a list for each answer's four numbers. Each is answered as by a call of its own, also where another is
-- refused. Refusals: 21 before all others, if lengths or shares don't add up to the lists lent, the lists don't agree on the number of
-- problems, or it is over 32." What a call of its own answers is the lister's promise, and nothing else of the lister is asked.
use Rattle.std.specs.Prelude.{ℕ, ◌+◌, ◌*◌, ◌≤◌, ◌<◌, ◌≡◌, List, length, get_or, Result, Ok, Err}
use Rattle.meaning.specs.Calls.{refuse, accept}
use Rattle.problem.specs.Problem.{Lists}
use Rattle.meaning.specs.Refusal.{code}
use Rattle.meaning.specs.declared.refusal.Refusal.{Refusal}
use Rattle.lister.specs.Listed.{Listed, Settled}
use Rattle.panel.specs.Parts.{sum, part}
use Rattle.panel.specs.declared.Problems.{Problems}

-- what is asked: the tree, the tables of all problems end to end, their lengths, and each problem's budget and share of out
pub record Panel : Type 0 where
  pub label : List ℕ
  pub size : List ℕ
  pub kind : List ℕ
  pub name : List ℕ
  pub pattern_size : List ℕ
  pub expression_kind : List ℕ
  pub expression_name : List ℕ
  pub expression_size : List ℕ
  pub constraint : List ℕ
  pub pattern_length : List ℕ
  pub expression_length : List ℕ
  pub constraint_length : List ℕ
  pub budget : List ℕ
  pub share : List ℕ

-- .. as it is lent
abbrev pub panel_of : Problems → Panel
panel_of p =
    record {
      label = p.tables.tree.label.now;
      size = p.tables.tree.size.now;
      kind = p.tables.pattern.kind.now;
      name = p.tables.pattern.name.now;
      pattern_size = p.tables.pattern.size.now;
      expression_kind = p.tables.table.kind.now;
      expression_name = p.tables.table.name.now;
      expression_size = p.tables.table.size.now;
      constraint = p.tables.constraint.now;
      pattern_length = p.pattern_length.now;
      expression_length = p.expression_length.now;
      constraint_length = p.constraint_length.now;
      budget = p.budget.now;
      share = p.share.now;
    }

-- code 0 is no refusal
abbrev pub told : {A : Type 0} → Result A Refusal → ℕ
told (Ok done) = 0
told (Err refusal) = code refusal

-- the number of problems
abbrev pub problems : Panel → ℕ
problems p = length p.share

-- the i-th problem: its parts of the tables, over the one tree
abbrev pub problem : Panel → ℕ → Lists
problem p i =
    record {
      label = p.label;
      size = p.size;
      kind = part i p.pattern_length p.kind;
      name = part i p.pattern_length p.name;
      pattern_size = part i p.pattern_length p.pattern_size;
      expression_kind = part i p.expression_length p.expression_kind;
      expression_name = part i p.expression_length p.expression_name;
      expression_size = part i p.expression_length p.expression_size;
      constraint = part i p.constraint_length p.constraint;
    }

-- the i-th answer: its four numbers
abbrev pub answer_at : ℕ → List ℕ → Listed
answer_at i answer =
    record {
      code = get_or answer (i * 4) 0;
      ending = get_or answer (i * 4 + 1) 0;
      records = get_or answer (i * 4 + 2) 0;
      tries = get_or answer (i * 4 + 3) 0;
    }

-- the lists agree on the number of problems, and it is not over 32; n is the length of the list of answers
pub record ListsAgree (p : Panel) (n : ℕ) : Type 0 where
  pub patterns : length p.pattern_length ≡ problems p
  pub expressions : length p.expression_length ≡ problems p
  pub constraints : length p.constraint_length ≡ problems p
  pub budgets : length p.budget ≡ problems p
  pub answers : n ≡ problems p * 4
  pub few : problems p ≤ 32

-- lengths and shares add up to the lists lent; n is the length of out
pub record LengthsAddUp (p : Panel) (n : ℕ) : Type 0 where
  pub kind : sum p.pattern_length ≡ length p.kind
  pub name : sum p.pattern_length ≡ length p.name
  pub pattern_size : sum p.pattern_length ≡ length p.pattern_size
  pub expression_kind : sum p.expression_length ≡ length p.expression_kind
  pub expression_name : sum p.expression_length ≡ length p.expression_name
  pub expression_size : sum p.expression_length ≡ length p.expression_size
  pub constraint : sum p.constraint_length ≡ length p.constraint
  pub out : sum p.share ≡ n

-- what a panel promises of its code and of the two lent lists, for any lists
pub record PanelSettled (p : Panel) (out answer : List ℕ) (r : ℕ) (out' answer' : List ℕ) : Type 0 where
  pub code : refuse 21 (ListsAgree p (length answer) × LengthsAddUp p (length out)) accept r
  -- each problem's four numbers, and its share of out afterwards, are those that the lister promises
  pub each : r ≡ 0 → (i : ℕ) → i < problems p → Settled (problem p i) (get_or p.budget i 0) (part i p.share out) (answer_at i answer') (part i p.share out')
  -- both lists are as long as they were: every entry belongs to one share, or to one answer
  pub long : (length out' ≡ length out) × (length answer' ≡ length answer)
  -- nothing is written in a refusal
  pub refused : (r ≡ 0 → ⊥) → (out' ≡ out) × (answer' ≡ answer)
