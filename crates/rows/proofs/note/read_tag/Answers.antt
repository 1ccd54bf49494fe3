use native.Mathlib.Omega.{arith}
use Rattle.rows.specs.Turns.{deep_open, deep_empty, opens, empty, closes}
use Rattle.rows.proofs.Asked.{handed_on, tag_refused, tag_kept}
use Rattle.rows.proofs.note.read_tag.Goals as goal

pub returns-in_err-tag : goal.returns-in_err-tag
returns-in_err-tag c = λ o f u h.
    tag_refused c.args.document.now c.args.at o f u _ _ _ _ _ c.next_tag.result c.in_err-tag.ensures.cases
    (c.next_tag.ensures o f u (rw c.from-name.ensures h.tagging)) _ (handed_on c.from_residual.result c.from_residual.ensures.1)

pub returns-then-depth-ge-DEEPEST : goal.returns-then-depth-ge-DEEPEST
returns-then-depth-ge-DEEPEST c = λ o f u h.
    let done = tag_kept c.args.document.now c.args.at o f u c.next_tag.result c.in_ok-tag.ensures.cases c.in-Opens.is (c.next_tag.ensures o f u (rw c.from-name.ensures h.tagging)) in
    deep_open done.1 (omega (arith, c.if-depth-ge-DEEPEST.true))

pub returns-then-depth-ge-DEEPEST-2 : goal.returns-then-depth-ge-DEEPEST-2
returns-then-depth-ge-DEEPEST-2 c = λ o f u h.
    let done = tag_kept c.args.document.now c.args.at o f u c.next_tag.result c.in_ok-tag.ensures.cases c.in-Empty.is (c.next_tag.ensures o f u (rw c.from-name.ensures h.tagging)) in
    deep_empty done.1 (omega (arith, c.if-depth-ge-DEEPEST-2.true))

pub returns-else-depth-ge-DEEPEST : goal.returns-else-depth-ge-DEEPEST
returns-else-depth-ge-DEEPEST c = λ o f u h.
    let done = tag_kept c.args.document.now c.args.at o f u c.next_tag.result c.in_ok-tag.ensures.cases c.in-Opens.is (c.next_tag.ensures o f u (rw c.from-name.ensures h.tagging)) in
    opens done.0 done.1 (omega (arith, c.if-depth-ge-DEEPEST.false)) c.put.ensures

pub returns-else-depth-ge-DEEPEST-2 : goal.returns-else-depth-ge-DEEPEST-2
returns-else-depth-ge-DEEPEST-2 c = λ o f u h.
    let done = tag_kept c.args.document.now c.args.at o f u c.next_tag.result c.in_ok-tag.ensures.cases c.in-Empty.is (c.next_tag.ensures o f u (rw c.from-name.ensures h.tagging)) in
    empty done.0 done.1 (omega (arith, c.if-depth-ge-DEEPEST-2.false)) c.put-in-Empty.ensures

pub returns-in-Closes : goal.returns-in-Closes
returns-in-Closes c = λ o f u h.
    let done = tag_kept c.args.document.now c.args.at o f u c.next_tag.result c.in_ok-tag.ensures.cases c.in-Closes.is (c.next_tag.ensures o f u (rw c.from-name.ensures h.tagging)) in
    closes done.0 done.1
