use Rattle.choice.proofs.Counts.{least_terms, least_hole}
use Rattle.choice.proofs.least.Goals as goal

pub returns-then-kind-eq-SEQUENCE : goal.returns-then-kind-eq-SEQUENCE
returns-then-kind-eq-SEQUENCE c = least_terms c.kind.ensures c.if-kind-eq-SEQUENCE.true

pub returns-else-kind-eq-SEQUENCE : goal.returns-else-kind-eq-SEQUENCE
returns-else-kind-eq-SEQUENCE c = least_hole c.kind.ensures c.if-kind-eq-SEQUENCE.false
