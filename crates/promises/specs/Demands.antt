-- Read this first: the three demands, each as one statement about every input. The names lead on: a demand names its promises, a
-- promise the contract of a public function, and a contract the definitions of 01's words.
use Rattle.promises.specs.Refusals.{Refusals}
use Rattle.promises.specs.Answers.{Answers}
use Rattle.promises.specs.Lists.{Listings}
use Rattle.promises.specs.Pages.{Pages}
use Rattle.promises.specs.Panels.{Panels}
use Rattle.promises.specs.Table.{TableHolds}

pub record Demands : Type 1 where
  -- 1: every input is answered; a refusal has its number and place, is made exactly then, and changes nothing
  pub refusals : Refusals
  -- 2: the tree is the document's, and yes means a matcher
  pub answers : Answers
  -- 3: every solution once, in order, cut short exactly by the rules
  pub listings : Listings
  -- 3, page by page: all that follow a record, and the pages joined are the list
  pub pages : Pages
  -- 1 and 3, many problems in one call: each is answered as by a call of its own
  pub panels : Panels
  -- and 01's examples
  pub examples : TableHolds
