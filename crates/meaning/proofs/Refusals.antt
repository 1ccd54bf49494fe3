-- A refusal's number is its own, and not 0.
use Prim.Native.Nat.{ℕ}
use mathlib.Core.Path.{◌≡◌, refl, ap, ◌∙◌, sym}
use mathlib.Core.Bool.{cond}
use lib.Dec.{eqb}
use native.Mathlib.Omega.{arith}
use Rattle.meaning.specs.Refusal.{code}
use Rattle.meaning.specs.declared.refusal.Refusal.{Refusal}
use Rattle.meaning.specs.declared.refusal.Refusal.TheVariants.{Tree, Pattern, Expressions, Constraints, Record, TooLarge, NoRoom, Forgotten, NoMatcher, Panel}

-- the refusal of a number
abbrev of_code : ℕ → Refusal
of_code n =
    cond (eqb n 11) Tree
    (cond (eqb n 12) Pattern
    (cond (eqb n 13) Expressions
    (cond (eqb n 14) Constraints
    (cond (eqb n 15) Record
    (cond (eqb n 16) TooLarge
    (cond (eqb n 17) NoRoom
    (cond (eqb n 19) Forgotten
    (cond (eqb n 20) NoMatcher Panel))))))))

of_its_code : (r : Refusal) → of_code (code r) ≡ r
of_its_code Tree = refl
of_its_code Pattern = refl
of_its_code Expressions = refl
of_its_code Constraints = refl
of_its_code Record = refl
of_its_code TooLarge = refl
of_its_code NoRoom = refl
of_its_code Forgotten = refl
of_its_code NoMatcher = refl
of_its_code Panel = refl

pub one_refusal : (r s : Refusal) → code r ≡ code s → r ≡ s
one_refusal r s e = sym (of_its_code r) ∙ ap of_code e ∙ of_its_code s

pub code_some : (r : Refusal) → code r ≡ 0 → ⊥
code_some Tree e = omega arith
code_some Pattern e = omega arith
code_some Expressions e = omega arith
code_some Constraints e = omega arith
code_some Record e = omega arith
code_some TooLarge e = omega arith
code_some NoRoom e = omega arith
code_some Forgotten e = omega arith
code_some NoMatcher e = omega arith
code_some Panel e = omega arith
