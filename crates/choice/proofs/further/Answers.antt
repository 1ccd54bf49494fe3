use native.Mathlib.Omega.{arith}
use Rattle.choice.proofs.Counts.{further_last, further_terms, further_hole}
use Rattle.choice.proofs.further.Goals as goal

pub returns-then-left-eq0 : goal.returns-then-left-eq0
returns-then-left-eq0 c = further_last c.if-left-eq0.true

pub next-requires : goal.next-requires
next-requires c = c.requires.inside (omega (arith, c.if-left-eq0.false)) (omega (arith, c.kind.ensures, c.if-kind-eq-SEQUENCE.true))

pub returns-then-kind-eq-SEQUENCE : goal.returns-then-kind-eq-SEQUENCE
returns-then-kind-eq-SEQUENCE c = further_terms c.kind.ensures c.if-kind-eq-SEQUENCE.true c.next.ensures

pub returns : goal.returns
returns c = further_hole c.kind.ensures c.if-kind-eq-SEQUENCE.false
