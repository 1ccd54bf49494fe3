use Rattle.std.proofs.Common.{sym}
use Rattle.tokens.proofs.Spans.{white_is}
use Rattle.tokens.proofs.WhiteMany.has.Goals as goal

pub returns : goal.returns
returns c = sym (white_is c.args.b)
