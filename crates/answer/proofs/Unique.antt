-- The contracts settle the exports' answers and the lent lists afterwards. For the check, the reader and the spelling lookup, whose
-- contracts are those of the functions below word for word, that is `one_check`, `one_answer` and `part_unique` there.
use Prim.Native.Nat.{ℕ}
use mathlib.Core.Path.{◌≡◌, ap, ◌∙◌, sym}
use mathlib.Core.List.{List}
use Rattle.std.specs.Prelude.{Bool, Result}
use Rattle.meaning.specs.declared.refusal.Refusal.{Refusal}
use Rattle.problem.specs.Problem as problem
use Rattle.lister.proofs.Unique.{Same, one_listed, one_paged}
use Rattle.test.specs.Tested.{code_of, yes_of}
use Rattle.test.proofs.Unique.{one_tested}
use Rattle.instance.specs.Instance as instance
use Rattle.instance.proofs.Promises.{one_making}
use Rattle.answer.specs.Answers.{number, Lists, ListsAfter, Tests, Makes}

pub one_listing : {l : problem.Lists} {budget : ℕ} {before : List ℕ} {c e r t d f s u : ℕ} {v w : List ℕ} → Lists l budget before c e r t v → Lists l budget before d f s u w
    → Same (record { code = c; ending = e; records = r; tries = t }) (record { code = d; ending = f; records = s; tries = u }) v w
one_listing a b = one_listed a.settled b.settled

pub one_paging : {l : problem.Lists} {numbers : List ℕ} {budget : ℕ} {before : List ℕ} {c e r t d f s u : ℕ} {v w : List ℕ} → ListsAfter l numbers budget before c e r t v → ListsAfter l numbers budget before d f s u w
    → Same (record { code = c; ending = e; records = r; tries = t }) (record { code = d; ending = f; records = s; tries = u }) v w
one_paging a b = one_paged a.settled b.settled

pub one_testing : {l : problem.Lists} {numbers : List ℕ} {c y d z : ℕ} → Tests l numbers c y → Tests l numbers d z → (c ≡ d) × (y ≡ z)
one_testing a b =
    let e = one_tested a.answer b.answer a.settled b.settled in
    (a.code_is ∙ ap code_of e ∙ sym b.code_is, a.yes_is ∙ ap (λ (t : Result Bool Refusal). number (yes_of t)) e ∙ sym b.yes_is)

pub one_made : {l : instance.InstanceLists} {out_label out_size : List ℕ} {c r d s : ℕ} {v w x y : List ℕ} → Makes l out_label out_size c r v w → Makes l out_label out_size d s x y
    → (c ≡ d) × (r ≡ s) × (v ≡ x) × (w ≡ y)
one_made {l} {out_label} {out_size} {v = v} {w} {x} {y} a b =
    let e = one_making l out_label out_size a.answer b.answer v w x y a.settled b.settled in (
      a.code_is ∙ ap instance.code_given e.0 ∙ sym b.code_is,
      a.rows_is ∙ ap instance.rows_given e.0 ∙ sym b.rows_is,
      e.1,
      e.2,
    )
