use mathlib.Core.Path.{ap}
use Prim.Native.Nat.{◌<◌}
use native.Mathlib.Omega.{arith}
use lib.ListN.{length}
use Rattle.dictionary.proofs.Names.{good_unique}
use Rattle.dictionary.proofs.Parts.{walked, name_found}
use Rattle.dictionary.proofs.spelling.name_part.Goals as goal

pub loop-preserved : goal.loop-preserved
loop-preserved c = walked c.args.dictionary.now c.requires.0 c.requires.1 c.loop.start c.loop.counter c.loop.invariant (omega arith) c.name_end-start.result c.name_end-start.ensures.0

pub returns : goal.returns
returns c = λ names g.
    let counter = c.loop.counter in
    let all : counter < length names = omega (arith, ap length (good_unique g c.requires.1)) in
    name_found c.args.dictionary.now names g c.loop.start counter c.loop.invariant all c.name_end-end.result c.name_end-end.ensures.0 c.args.place (omega arith)
