use mathlib.Core.Logic.{inl, inr}
use native.Mathlib.Omega.{arith}
use Rattle.record.proofs.Whole.{record_pre, record_judged}
use Rattle.instance.proofs.Whole.{found, refused_record, refused_rows, refused_room, made_whole, rows_pre, rows_is, term_whole, written_whole}
use Rattle.instance.proofs.instance.Goals as goal

pub fits-requires : goal.fits-requires
fits-requires c = record_pre (c.good.ensures.0 c.if-not-good.false) c.check-checked.ensures c.if-not-checked.false

pub returns-then-not-fits : goal.returns-then-not-fits
returns-then-not-fits c =
    let t = c.good.ensures.0 c.if-not-good.false in
    let e = c.if-not-checked.false in
    refused_record _ _ _ t (c.check-checked.ensures.judged.0 e) (record_judged t c.check-checked.ensures e c.fits.ensures) c.if-not-fits.true

pub rows_of-rows-requires : goal.rows_of-rows-requires
rows_of-rows-requires c =
    let f = found c.args.tree.now c.args.pattern.now c.args.«record».now (c.good.ensures.0 c.if-not-good.false) c.check-checked.ensures c.if-not-checked.false c.fits.ensures c.if-not-fits.false in
    rows_pre f.1

pub returns-then-rows-gt-MOST : goal.returns-then-rows-gt-MOST
returns-then-rows-gt-MOST c =
    let f = found c.args.tree.now c.args.pattern.now c.args.«record».now (c.good.ensures.0 c.if-not-good.false) c.check-checked.ensures c.if-not-checked.false c.fits.ensures c.if-not-fits.false in
    refused_rows _ _ _ f.1 (omega (arith, c.if-rows-gt-MOST.true, rows_is f.1 c.rows_of-rows.ensures))

pub returns-then-out_label-rows : goal.returns-then-out_label-rows
returns-then-out_label-rows c =
    let f = found c.args.tree.now c.args.pattern.now c.args.«record».now (c.good.ensures.0 c.if-not-good.false) c.check-checked.ensures c.if-not-checked.false c.fits.ensures c.if-not-fits.false in
    let z = rows_is f.1 c.rows_of-rows.ensures in
    refused_room _ _ _ f.1 (omega (arith, c.if-rows-gt-MOST.false)) (inl (omega (arith, c.if-out_label-rows.true)))

pub returns-then-out_size-rows : goal.returns-then-out_size-rows
returns-then-out_size-rows c =
    let f = found c.args.tree.now c.args.pattern.now c.args.«record».now (c.good.ensures.0 c.if-not-good.false) c.check-checked.ensures c.if-not-checked.false c.fits.ensures c.if-not-fits.false in
    let z = rows_is f.1 c.rows_of-rows.ensures in
    refused_room _ _ _ f.1 (omega (arith, c.if-rows-gt-MOST.false)) (inr (omega (arith, c.if-out_size-rows.true)))

pub term-requires : goal.term-requires
term-requires c =
    let f = found c.args.tree.now c.args.pattern.now c.args.«record».now (c.good.ensures.0 c.if-not-good.false) c.check-checked.ensures c.if-not-checked.false c.fits.ensures c.if-not-fits.false in
    let z = rows_is f.1 c.rows_of-rows.ensures in
    term_whole f.1 (omega (arith, c.if-rows-gt-MOST.false)) (omega (arith, c.if-out_label-rows.false)) (omega (arith, c.if-out_size-rows.false))

pub returns : goal.returns
returns c =
    let f = found c.args.tree.now c.args.pattern.now c.args.«record».now (c.good.ensures.0 c.if-not-good.false) c.check-checked.ensures c.if-not-checked.false c.fits.ensures c.if-not-fits.false in
    let z = rows_is f.1 c.rows_of-rows.ensures in
    made_whole _ _ _ f.1 (omega (arith, c.if-rows-gt-MOST.false)) (omega (arith, c.if-out_label-rows.false)) (omega (arith, c.if-out_size-rows.false)) z (written_whole f.1 c.term.ensures)
