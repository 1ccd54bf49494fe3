use native.Mathlib.Omega.{arith}
use Rattle.std.proofs.lemmas.Result.{err_from_is_err_and}
use Rattle.walk.proofs.Resumes.{resume_row, resume_holder, resume_list_pre, resume_list_halts, resume_up_pre, resume_up_is}
use Rattle.walk.proofs.Resumes.{resume_term_pre, resume_term_halts, resume_over_pre, resume_over_is}
use Rattle.walk.proofs.resume.Goals as goal

pub kind-requires : goal.kind-requires
kind-requires c = (resume_row c.requires).1

pub holder-h-requires : goal.holder-h-requires
holder-h-requires c = (resume_row c.requires).1

pub overflow_add-p : goal.overflow_add-p
overflow_add-p c = omega (arith, resume_row c.requires)

pub row-g-requires : goal.row-g-requires
row-g-requires c = (resume_holder (omega (arith, c.kind.ensures, c.if-kind-eq-SEQUENCE.true)) c.holder-h.ensures c.requires).0

pub next-requires : goal.next-requires
next-requires c = (resume_holder (omega (arith, c.kind.ensures, c.if-kind-eq-SEQUENCE.true)) c.holder-h.ensures c.requires).1

pub next-requires-then-kind-eq-SEQUENCE : goal.next-requires-then-kind-eq-SEQUENCE
next-requires-then-kind-eq-SEQUENCE c = omega (arith, (resume_holder (omega (arith, c.kind.ensures, c.if-kind-eq-SEQUENCE.true)) c.holder-h.ensures c.requires).2, c.row-g.ensures)

pub args-requires : goal.args-requires
args-requires c = resume_list_pre (omega (arith, c.kind.ensures, c.if-kind-eq-SEQUENCE.true)) c.holder-h.ensures c.next.ensures c.row-g.ensures c.next-then-kind-eq-SEQUENCE.ensures c.requires

pub returns-in_err-m : goal.returns-in_err-m
returns-in_err-m c = let p = err_from_is_err_and c.from_residual.result c.from_residual.ensures.1 in
    rw (p.1, p.2) (resume_list_halts (omega (arith, c.kind.ensures, c.if-kind-eq-SEQUENCE.true)) c.holder-h.ensures c.next.ensures c.row-g.ensures c.next-then-kind-eq-SEQUENCE.ensures c.in_err-m.ensures)

pub up-requires : goal.up-requires
up-requires c = resume_up_pre (omega (arith, c.kind.ensures, c.if-kind-eq-SEQUENCE.true)) c.holder-h.ensures c.next.ensures c.row-g.ensures c.next-then-kind-eq-SEQUENCE.ensures c.in_ok-m.ensures c.requires

pub returns-then-kind-eq-SEQUENCE : goal.returns-then-kind-eq-SEQUENCE
returns-then-kind-eq-SEQUENCE c = resume_up_is (omega (arith, c.kind.ensures, c.if-kind-eq-SEQUENCE.true)) c.holder-h.ensures c.next.ensures c.row-g.ensures c.next-then-kind-eq-SEQUENCE.ensures c.in_ok-m.ensures c.up.ensures

pub overflow_add-p-2 : goal.overflow_add-p-2
overflow_add-p-2 c = omega (arith, resume_row c.requires)

pub term-requires : goal.term-requires
term-requires c = resume_term_pre (omega (arith, c.kind.ensures, c.if-kind-eq-SEQUENCE.false)) c.requires

pub returns-in_err-m-2 : goal.returns-in_err-m-2
returns-in_err-m-2 c = let p = err_from_is_err_and c.from_residual-in_err-m-2.result c.from_residual-in_err-m-2.ensures.1 in
    rw (p.1, p.2) (resume_term_halts (omega (arith, c.kind.ensures, c.if-kind-eq-SEQUENCE.false)) c.in_err-m-2.ensures)

pub up-requires-2 : goal.up-requires-2
up-requires-2 c = resume_over_pre (omega (arith, c.kind.ensures, c.if-kind-eq-SEQUENCE.false)) c.in_ok-m-2.ensures c.requires

pub returns : goal.returns
returns c = resume_over_is (omega (arith, c.kind.ensures, c.if-kind-eq-SEQUENCE.false)) c.in_ok-m-2.ensures c.up-2.ensures
