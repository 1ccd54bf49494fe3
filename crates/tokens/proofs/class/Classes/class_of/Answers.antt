use native.Mathlib.Omega.{arith}
use borrow.Author.Rules.{rules}
use Rattle.tokens.proofs.class.Classes.class_of.Goals as goal

pub returns : goal.returns
returns c = c.args.self.now.classed.each c.args.b (omega arith)
