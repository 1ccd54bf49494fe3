use mathlib.Core.Path.{refl}
use lib.ListN.{length-replicate}
use native.Mathlib.Omega.{arith}
use Rattle.levels.specs.declared.Level.{Level}
use Rattle.levels.specs.Columns.{unentered}
use Rattle.entry.proofs.Resumed.{reach_asked, resumed_nowhere, arrived, resumed_asked, resumed_page}
use Rattle.entry.proofs.resume.Goals as goal

pub reach-requires : goal.reach-requires
reach-requires c = reach_asked c.requires refl refl (length-replicate {A = Level} 256 unentered)

pub go-requires : goal.go-requires
go-requires c = let a = arrived c.in_ok-depth.ensures in
    (resumed_asked a c.requires, a.levels_long, omega (arith, c.ranges.budget), omega (arith, c.ranges.room))

pub returns-in_err-depth : goal.returns-in_err-depth
returns-in_err-depth c = rw c.from_residual.ensures (resumed_nowhere c.in_err-depth.ensures)

pub returns : goal.returns
returns c = resumed_page (arrived c.in_ok-depth.ensures) c.go.ensures
