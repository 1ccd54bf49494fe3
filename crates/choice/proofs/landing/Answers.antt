use Rattle.choice.proofs.Counts.{landing_room, landing_past, landing_terms, landing_hole}
use Rattle.choice.proofs.landing.Goals as goal

pub kind-requires : goal.kind-requires
kind-requires c = landing_room c.requires

pub past-requires : goal.past-requires
past-requires c = landing_past c.kind.ensures c.if-kind-eq-SEQUENCE.true c.requires

pub returns-then-kind-eq-SEQUENCE : goal.returns-then-kind-eq-SEQUENCE
returns-then-kind-eq-SEQUENCE c = landing_terms c.kind.ensures c.if-kind-eq-SEQUENCE.true c.past.ensures

pub returns : goal.returns
returns c = landing_hole c.kind.ensures c.if-kind-eq-SEQUENCE.false
