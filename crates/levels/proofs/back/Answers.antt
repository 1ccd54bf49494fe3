use Rattle.std.proofs.Common.{◌≡◌, ◌-◌, sym, ◌∙◌, arith}
use Rattle.std.proofs.Math.Decide.{dec_le}
use Rattle.levels.proofs.Columns.{standing}
use Rattle.levels.proofs.back.Goals as goal

pub loop-d-init : goal.loop-d-init
loop-d-init c k g h = absurd (omega arith)

pub returns-then-levels-d-ne0 : goal.returns-then-levels-d-ne0
returns-then-levels-d-ne0 c =
    let e = (standing c.args.levels.now (c.loop-d.d - 1)).left in
    record { low = omega arith; gone = c.loop-d.invariant; live = λ h. omega (arith, e, c.if-levels-d-ne0.true) }

pub loop-d-preserved : goal.loop-d-preserved
loop-d-preserved c k g h =
    elim (dec_le c.loop-d.d k) [
      | yes e ↦ c.loop-d.invariant k e h
      | no e ↦
          let q : k ≡ c.loop-d.d - 1 = omega arith in
          rw q (sym (standing c.args.levels.now (c.loop-d.d - 1)).left ∙ c.if-levels-d-ne0.false)
    ]

pub returns : goal.returns
returns c = record { low = omega arith; gone = λ k g h. c.loop-d.invariant k (omega arith) h; live = λ h. absurd (omega arith) }
