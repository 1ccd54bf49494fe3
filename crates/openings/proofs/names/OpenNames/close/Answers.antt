use Rattle.std.proofs.Common.{◌≡◌, sym, ap, ◌∙◌, ◌-◌, ◌<◌, get_or, arith}
use Rattle.openings.specs.OpenNames.{reaches}
use Rattle.openings.proofs.OpenNames.{close_some, close_reaches, close_kept, close_may, close_found}
use Rattle.openings.proofs.names.OpenNames.close.Goals as goal

pub returns-then-known-depth : goal.returns-then-known-depth
returns-then-known-depth c = close_kept c.requires (sym c.reach-known.ensures ∙ c.if-known-depth.true)

pub overflow_sub-depth : goal.overflow_sub-depth
overflow_sub-depth c = rw c.reach-known.ensures (close_reaches c.requires)

-- some were forgotten, and are found in the room that is left
pub find_again-requires : goal.find_again-requires
find_again-requires c =
    let known : reaches c.args.self.now.levels (c.args.self.now.kept - 1) < c.args.depth = omega (arith, close_reaches c.requires) in
    let from : c.from-from.result - 1 ≡ get_or c.args.self.now.names (c.args.self.now.kept - 1) 0 - 1 = ap (λ k. k - 1) c.from-from.ensures in
    close_may c.requires from (omega (arith, known, close_some c.requires)) (omega arith) (omega (arith, known))

pub returns : goal.returns
returns c =
    let known : reaches c.args.self.now.levels (c.args.self.now.kept - 1) < c.args.depth = omega (arith, close_reaches c.requires) in
    let from : c.from-from.result - 1 ≡ get_or c.args.self.now.names (c.args.self.now.kept - 1) 0 - 1 = ap (λ k. k - 1) c.from-from.ensures in
    rw c.find_again.ensures.1 (close_found c.requires from (omega (arith, known, close_some c.requires)) (omega arith) (omega (arith, known)) c.find_again.ensures.0)
