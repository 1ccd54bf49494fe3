use native.Mathlib.Omega.{arith}
use Rattle.pattern.specs.Scan.{small_symbol, large_symbol, same_kind, other_kind, left_out}
use Rattle.pattern.proofs.named.Goals as goal

-- `named` meets its contract: each return is one case of Named.
pub returns-then-name-lt65536 : goal.returns-then-name-lt65536
returns-then-name-lt65536 c = small_symbol c.if-kind-eq-SYMBOL.true c.if-name-lt65536.true

pub returns-then-kind-eq-SYMBOL : goal.returns-then-kind-eq-SYMBOL
returns-then-kind-eq-SYMBOL c = large_symbol c.if-kind-eq-SYMBOL.true c.if-name-lt65536.false

pub returns-then-kinds-name : goal.returns-then-kinds-name
returns-then-kinds-name c = same_kind c.if-kind-eq-SYMBOL.false c.if-name-variables.true c.if-kinds-name.true

pub returns-then-name-variables : goal.returns-then-name-variables
returns-then-name-variables c = other_kind c.if-kind-eq-SYMBOL.false c.if-name-variables.true c.if-kinds-name.false

pub returns-else-name-variables-2 : goal.returns-else-name-variables-2
returns-else-name-variables-2 c = left_out c.if-kind-eq-SYMBOL.false (omega (arith, c.if-name-variables-2.false))
