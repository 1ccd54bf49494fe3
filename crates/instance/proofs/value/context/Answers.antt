use Rattle.instance.proofs.Pieces.{context_reads, context_fits, context_made}
use native.Mathlib.Omega.{arith}
use Rattle.instance.proofs.value.context.Goals as goal

pub at-start-requires : goal.at-start-requires
at-start-requires c = omega (arith, (context_reads c.requires).0)

pub at-hole-requires : goal.at-hole-requires
at-hole-requires c = (context_reads c.requires).0

pub overflow_sub-end : goal.overflow_sub-end
overflow_sub-end c = (context_reads c.requires).1

pub around-requires : goal.around-requires
around-requires c = rw (c.at-start.ensures.0, c.at-hole.ensures.0) (context_fits c.requires)

pub returns : goal.returns
returns c = context_made c.requires (rw (c.at-start.ensures.0, c.at-hole.ensures.0) at c.around.ensures)
