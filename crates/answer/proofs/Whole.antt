-- What the lister has settled, of a list or a page, is settled of the same four numbers as C has them.
use Prim.Native.Nat.{ℕ}
use mathlib.Core.Path.{◌≡◌, sym, subst}
use mathlib.Core.List.{List}
use Rattle.problem.specs.Problem as problem
use Rattle.lister.specs.Listed as lister
use Rattle.lister.specs.Page as page
use Rattle.lister.specs.Listed.{Listed}
use Rattle.answer.specs.Answers.{Lists, ListsAfter}

pub list_whole : {l : problem.Lists} {budget : ℕ} {before : List ℕ} {r : Listed} {c e n t : ℕ} {after : List ℕ} → lister.Settled l budget before r after
    → r ≡ record { code = c; ending = e; records = n; tries = t } → Lists l budget before c e n t after
list_whole s z = record { settled = rw z at s }

pub list_after_whole : {l : problem.Lists} {numbers : List ℕ} {budget : ℕ} {before : List ℕ} {r : Listed} {c e n t : ℕ} {after : List ℕ} → page.PageSettled l numbers budget before r after
    → r ≡ record { code = c; ending = e; records = n; tries = t } → ListsAfter l numbers budget before c e n t after
list_after_whole s z = record { settled = rw z at s }
