use Rattle.std.proofs.Common.{sym}
use Rattle.tokens.proofs.Spans.{plain_is}
use Rattle.tokens.proofs.PlainMany.has.Goals as goal

pub returns : goal.returns
returns c = sym (plain_is c.args.b)
