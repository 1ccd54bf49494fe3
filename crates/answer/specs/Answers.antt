-- What the exports answer, where the function below answers a Result or a wider number: 01's numbers for each answer, each 32 bits wide.
-- "All other numbers in a refusal are 0, the test's yes or no is then no".
use Rattle.std.specs.Prelude.{ℕ, ◌≡◌, Bool, true, false, List, Result}
use Rattle.meaning.specs.declared.refusal.Refusal.{Refusal}
use Rattle.problem.specs.Problem as problem
use Rattle.lister.specs.Listed as lister
use Rattle.lister.specs.Page as page
use Rattle.test.specs.Tested as test
use Rattle.instance.specs.Instance as instance

-- yes is 1, no is 0
abbrev pub number : Bool → ℕ
number true = 1
number false = 0

-- the four numbers are the lister's
pub record Lists (l : problem.Lists) (budget : ℕ) (before : List ℕ) (code ending records tries : ℕ) (after : List ℕ) : Type 0 where
  pub settled : lister.Settled l budget before (record { code = code; ending = ending; records = records; tries = tries }) after

-- the four numbers are those of a page after the record
pub record ListsAfter (l : problem.Lists) (numbers : List ℕ) (budget : ℕ) (before : List ℕ) (code ending records tries : ℕ) (after : List ℕ) : Type 0 where
  pub settled : page.PageSettled l numbers budget before (record { code = code; ending = ending; records = records; tries = tries }) after

-- the two numbers are those of the test's answer
pub record Tests (l : problem.Lists) (numbers : List ℕ) (code yes : ℕ) : Type 0 where
  pub answer : Result Bool Refusal
  pub settled : test.TestSettled l numbers answer
  pub code_is : code ≡ test.code_of answer
  pub yes_is : yes ≡ number (test.yes_of answer)

-- the two numbers are those of the instance maker's answer
pub record Makes (l : instance.InstanceLists) (out_label out_size : List ℕ) (code rows : ℕ) (new_label new_size : List ℕ) : Type 0 where
  pub answer : Result ℕ Refusal
  pub settled : instance.InstanceSettled l out_label out_size answer new_label new_size
  pub code_is : code ≡ instance.code_given answer
  pub rows_is : rows ≡ instance.rows_given answer
