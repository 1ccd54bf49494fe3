use native.Mathlib.Omega.{arith}
use Rattle.grammar.specs.Classes.{class_number}
use Rattle.tokens.proofs.Counting.{one_bit}
use borrow.Author.Rules.{rules}
use Rattle.tokens.proofs.class.Classes.stops.Goals as goal

pub overflow_cast-result : goal.overflow_cast-result
overflow_cast-result c = omega (arith, c.args.self.now.classed.stops c.args.b (omega arith), one_bit (class_number c.args.b))

pub returns : goal.returns
returns c = let e = c.args.self.now.classed.stops c.args.b (omega arith) in (e, omega (arith, e, one_bit (class_number c.args.b)))
