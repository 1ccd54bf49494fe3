use Rattle.meaning.proofs.Answers.{says_equal, says_less}
use Rattle.expression.proofs.Tables.{name_zero, zero_name}
use Rattle.expression.proofs.named.Goals as goal

-- `expression::named` meets its contract.
pub returns-then-kind-eq-SYMBOL : goal.returns-then-kind-eq-SYMBOL
returns-then-kind-eq-SYMBOL c = let q = c.if-kind-eq-SYMBOL.true in
    says_less c.args.name 65536 (λ h. rw q h) (λ h. rw q at h)

pub returns : goal.returns
returns c = let q = c.if-kind-eq-SYMBOL.false in
    says_equal c.args.name 0 (zero_name c.args.kind c.args.name q) (name_zero c.args.kind c.args.name q)
