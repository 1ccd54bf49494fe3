use mathlib.Core.Path.{refl}
use Rattle.openings.proofs.back.nearer.Goals as goal

pub returns-then-b-eq62 : goal.returns-then-b-eq62
returns-then-b-eq62 c = (λ e. refl, λ n. absurd (n c.if-b-eq62.true))

pub returns-else-b-eq62 : goal.returns-else-b-eq62
returns-else-b-eq62 c = (λ e. absurd (c.if-b-eq62.false e), λ n. refl)
