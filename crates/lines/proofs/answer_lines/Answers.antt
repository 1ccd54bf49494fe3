use Rattle.std.proofs.Common.{OnOk, ◌≡◌, Result, Ok, Err, length, rules, refl}
use Rattle.std.proofs.lemmas.List.{nil_from_length}
use Rattle.lines.specs.Lines.EachLine.{none, last, more}
use Rattle.lines.proofs.answer_lines.Goals as goal

-- a fact that follows from each value holds of a result
on_ok_from : {T E P : Type 0} (r : Result T E) → ((x : T) → r ≡ Ok x → P) → OnOk r P
on_ok_from (Ok x) follows = follows x refl
on_ok_from (Err e) follows = tt

pub loop-line-preserved : goal.loop-line-preserved
loop-line-preserved g c = λ behind.
    c.loop-line.invariant (rw c.in-Some.ensures.whole (
    more c.in-Some.ensures.first (record {
      shown = c.in-Some.line;
      shows = refl;
      says = record { met = c.in_ok-answer.ensures };
    }) behind))

pub returns-then-is_empty : goal.returns-then-is_empty
returns-then-is_empty g c =
    let is_nil : length c.loop-line.rest.now ≡ 0 = search rules in
    c.loop-line.invariant (rw (nil_from_length c.loop-line.rest.now is_nil) none)

pub returns : goal.returns
returns g c = on_ok_from c.answer-2.result (λ x is.
    c.loop-line.invariant (last c.in_default.ensures.none (record {
      shown = c.loop-line.rest;
      shows = refl;
      says = record { met = rw is at c.answer-2.ensures };
    })))
