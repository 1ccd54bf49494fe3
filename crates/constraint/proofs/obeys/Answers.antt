use native.Mathlib.Omega.{arith}
use mathlib.Core.Path.{refl}
use Rattle.constraint.proofs.Obeyed.{obeys_free, obeys_forbidden, obeys_read, heads_after, path_after, heads_asked, path_asked}
use Rattle.constraint.proofs.Readings.{all_heads}
use Rattle.constraint.proofs.obeys.Goals as goal

pub returns-then-start-eq0 : goal.returns-then-start-eq0
returns-then-start-eq0 c = obeys_free _ _ _ _ _ _ _ _ (omega (arith, c.if-start-eq0.true))

pub returns-then-forbidden : goal.returns-then-forbidden
returns-then-forbidden c = obeys_forbidden _ _ _ _ _ _ _ _ c.if-start-eq0.false c.forbidden.ensures c.if-forbidden.true

pub after_heads-requires : goal.after_heads-requires
after_heads-requires c = heads_asked c.requires c.if-start-eq0.false refl c.if-kind-eq-SEQUENCE.true

pub returns-then-kind-eq-SEQUENCE : goal.returns-then-kind-eq-SEQUENCE
returns-then-kind-eq-SEQUENCE c = obeys_read _ _ _ _ _ _ _ _ c.if-start-eq0.false c.forbidden.ensures c.if-forbidden.false refl
    (heads_after _ _ _ _ _ _ c.if-kind-eq-SEQUENCE.true (all_heads c.after_heads.ensures))

pub after_path-requires : goal.after_path-requires
after_path-requires c = path_asked c.requires c.if-start-eq0.false refl c.if-kind-eq-SEQUENCE.false

pub returns : goal.returns
returns c = obeys_read _ _ _ _ _ _ _ _ c.if-start-eq0.false c.forbidden.ensures c.if-forbidden.false refl
    (path_after _ _ _ _ _ _ c.if-kind-eq-SEQUENCE.false c.after_path.ensures)
