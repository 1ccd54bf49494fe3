use Rattle.std.proofs.Common.{arith}
use Rattle.openings.specs.OpenNames.{Spared}
use Rattle.openings.proofs.OpenNames.{opens_one, spared_full, spared_some}
use Rattle.openings.proofs.names.OpenNames.open.Goals as goal
use Rattle.openings.proofs.names.OpenNames.open.Goals.{then-self-eq-MOST_NAMES, else-self-eq-MOST_NAMES}

pub returns : goal.returns
returns c =
    let old = c.args.self.now in
    let now = c.if-self-eq-MOST_NAMES.self in
    let spared : Spared old.names old.levels old.kept now.names now.levels now.kept =
    elim c.if-self-eq-MOST_NAMES.branch [ then-self-eq-MOST_NAMES w ↦ rw w.self-is (spared_full w.if-self-eq-MOST_NAMES.true w.thin.ensures) | else-self-eq-MOST_NAMES w ↦ rw w.self-is (spared_some c.requires.0 (omega (arith, c.requires.0.few))) ] in
    opens_one spared
