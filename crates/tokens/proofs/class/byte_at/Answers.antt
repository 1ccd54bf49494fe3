use mathlib.Core.Path.{sym}
use lib.ListN.{get_or-eq_default}
use borrow.Author.Rules.{rules}
use Rattle.tokens.proofs.class.byte_at.Goals as goal

pub returns-else-k-document : goal.returns-else-k-document
returns-else-k-document c = sym (get_or-eq_default c.args.document.now 0 c.if-k-document.false)
