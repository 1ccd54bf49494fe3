use mathlib.Core.Path.{sym, ◌∙◌}
use native.Mathlib.Omega.{arith}
use Rattle.judge.proofs.Judging.{begins, closed_within, room_open, room_close, may_open_lem, may_close, opens, empties, some_open, closes, ends, outside_is, refused_at, tag_at, place_short}
use Rattle.judge.proofs.pass.Goals as goal

pub loop-names-init : goal.loop-names-init
loop-names-init c = rw c.new-names.ensures.1 (begins _ _ _ (rw c.new-names.ensures.1 at c.new-names.ensures.0))

pub overflow_add-depth : goal.overflow_add-depth
overflow_add-depth c = omega (arith, room_close c.loop-names.invariant c.run_end-text.ensures c.requires, c.run_end-text.ensures.few)

pub returns-then-byte_at-ne60 : goal.returns-then-byte_at-ne60
returns-then-byte_at-ne60 c = ends c.loop-names.invariant c.run_end-text.ensures c.requires c.more-seen.ensures (λ e. c.if-byte_at-ne60.true (c.byte_at.ensures ∙ e)) c.last.ensures

pub map_err-requires : goal.map_err-requires
map_err-requires c = place_short c.loop-names.invariant c.run_end-text.ensures c.requires c.more-seen.ensures c.innermost-name.ensures.1 (sym c.byte_at.ensures ∙ c.if-byte_at-ne60.false) c.next_tag.result c.next_tag.ensures

pub returns-in_err-tag : goal.returns-in_err-tag
returns-in_err-tag c =
    let at = refused_at c.loop-names.invariant c.run_end-text.ensures c.requires c.more-seen.ensures c.innermost-name.ensures.1 (sym c.byte_at.ensures ∙ c.if-byte_at-ne60.false) c.next_tag.result c.next_tag.ensures c.in_err-tag.ensures.cases in
    outside_is c.from_residual.result c.from_residual.ensures.1 c.requires at.1 at.2

-- WHERE A TAG OPENS there are not too many
pub open-requires : goal.open-requires
open-requires c = let done = tag_at c.loop-names.invariant c.run_end-text.ensures c.requires c.more-seen.ensures c.innermost-name.ensures.1 (sym c.byte_at.ensures ∙ c.if-byte_at-ne60.false) c.next_tag.result c.next_tag.ensures c.in_ok-tag.ensures.cases c.in-Opens.is in
    let may = may_open_lem c.loop-names.invariant c.run_end-text.ensures c.requires in
    (c.loop-names.invariant.keeping, may.0, omega (arith, room_open c.loop-names.invariant c.run_end-text.ensures c.requires _ done.1), may.1)

pub overflow_add-depth-in-Opens : goal.overflow_add-depth-in-Opens
overflow_add-depth-in-Opens c = let done = tag_at c.loop-names.invariant c.run_end-text.ensures c.requires c.more-seen.ensures c.innermost-name.ensures.1 (sym c.byte_at.ensures ∙ c.if-byte_at-ne60.false) c.next_tag.result c.next_tag.ensures c.in_ok-tag.ensures.cases c.in-Opens.is in
    omega (arith, room_open c.loop-names.invariant c.run_end-text.ensures c.requires _ done.1)

pub loop-names-smaller-in-Opens : goal.loop-names-smaller-in-Opens
loop-names-smaller-in-Opens c = let done = tag_at c.loop-names.invariant c.run_end-text.ensures c.requires c.more-seen.ensures c.innermost-name.ensures.1 (sym c.byte_at.ensures ∙ c.if-byte_at-ne60.false) c.next_tag.result c.next_tag.ensures c.in_ok-tag.ensures.cases c.in-Opens.is in
    omega (arith, done.0, done.1.here.within, c.run_end-text.ensures.span.passed.from)

pub loop-names-preserved-in-Opens : goal.loop-names-preserved-in-Opens
loop-names-preserved-in-Opens c = let done = tag_at c.loop-names.invariant c.run_end-text.ensures c.requires c.more-seen.ensures c.innermost-name.ensures.1 (sym c.byte_at.ensures ∙ c.if-byte_at-ne60.false) c.next_tag.result c.next_tag.ensures c.in_ok-tag.ensures.cases c.in-Opens.is in
    opens c.loop-names.invariant c.run_end-text.ensures c.requires c.more-seen.ensures _ done.0 done.1 c.more-seen-in-Opens.ensures c.open.ensures

-- WHERE ONE IS A WHOLE ELEMENT
pub overflow_add-depth-in-Empty : goal.overflow_add-depth-in-Empty
overflow_add-depth-in-Empty c = omega (arith, room_close c.loop-names.invariant c.run_end-text.ensures c.requires)

pub loop-names-smaller-in-Empty : goal.loop-names-smaller-in-Empty
loop-names-smaller-in-Empty c = let done = tag_at c.loop-names.invariant c.run_end-text.ensures c.requires c.more-seen.ensures c.innermost-name.ensures.1 (sym c.byte_at.ensures ∙ c.if-byte_at-ne60.false) c.next_tag.result c.next_tag.ensures c.in_ok-tag.ensures.cases c.in-Empty.is in
    omega (arith, done.0, done.1.here.within, c.run_end-text.ensures.span.passed.from)

pub loop-names-preserved-in-Empty : goal.loop-names-preserved-in-Empty
loop-names-preserved-in-Empty c = let done = tag_at c.loop-names.invariant c.run_end-text.ensures c.requires c.more-seen.ensures c.innermost-name.ensures.1 (sym c.byte_at.ensures ∙ c.if-byte_at-ne60.false) c.next_tag.result c.next_tag.ensures c.in_ok-tag.ensures.cases c.in-Empty.is in
    empties c.loop-names.invariant c.run_end-text.ensures c.requires c.more-seen.ensures _ done.0 done.1 c.more-seen-in-Empty.ensures

-- WHERE ONE CLOSES, one is open
pub overflow_sub-depth : goal.overflow_sub-depth
overflow_sub-depth c = let done = tag_at c.loop-names.invariant c.run_end-text.ensures c.requires c.more-seen.ensures c.innermost-name.ensures.1 (sym c.byte_at.ensures ∙ c.if-byte_at-ne60.false) c.next_tag.result c.next_tag.ensures c.in_ok-tag.ensures.cases c.in-Closes.is in
    some_open c.loop-names.invariant c.run_end-text.ensures c.requires done.1

pub close-requires : goal.close-requires
close-requires c = let done = tag_at c.loop-names.invariant c.run_end-text.ensures c.requires c.more-seen.ensures c.innermost-name.ensures.1 (sym c.byte_at.ensures ∙ c.if-byte_at-ne60.false) c.next_tag.result c.next_tag.ensures c.in_ok-tag.ensures.cases c.in-Closes.is in
    may_close c.loop-names.invariant c.run_end-text.ensures c.requires done.1

pub loop-names-smaller : goal.loop-names-smaller
loop-names-smaller c = let done = tag_at c.loop-names.invariant c.run_end-text.ensures c.requires c.more-seen.ensures c.innermost-name.ensures.1 (sym c.byte_at.ensures ∙ c.if-byte_at-ne60.false) c.next_tag.result c.next_tag.ensures c.in_ok-tag.ensures.cases c.in-Closes.is in
    omega (arith, done.0, closed_within _ _ _ _ _ done.1, c.run_end-text.ensures.span.passed.from)

pub loop-names-preserved : goal.loop-names-preserved
loop-names-preserved c = let done = tag_at c.loop-names.invariant c.run_end-text.ensures c.requires c.more-seen.ensures c.innermost-name.ensures.1 (sym c.byte_at.ensures ∙ c.if-byte_at-ne60.false) c.next_tag.result c.next_tag.ensures c.in_ok-tag.ensures.cases c.in-Closes.is in
    closes c.loop-names.invariant c.run_end-text.ensures c.requires c.more-seen.ensures _ done.0 done.1 c.close.ensures
