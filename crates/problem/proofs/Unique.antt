-- An answer's numbers are those of one answer.
use mathlib.Core.Path.{◌≡◌, ap, sym}
use Rattle.std.specs.Prelude.{Result, Ok, Err}
use Rattle.meaning.specs.declared.refusal.Refusal.{Refusal}
use Rattle.meaning.proofs.Refusals.{code_some, one_refusal}
use Rattle.pattern.specs.declared.Variables.{Variables}
use Rattle.problem.specs.Answer.{Told, told}

-- no two answers have the same numbers
pub one_told : (r s : Result Variables Refusal) → told r ≡ told s → r ≡ s
one_told (Ok v) (Ok w) e = ap Ok (λ i. record { count = (e i).variables; kinds = (e i).kinds })
one_told (Ok v) (Err d) e = absurd (code_some d (sym (ap (λ (t : Told). t.code) e)))
one_told (Err d) (Ok w) e = absurd (code_some d (ap (λ (t : Told). t.code) e))
one_told (Err d) (Err k) e = ap Err (one_refusal d k (ap (λ (t : Told). t.code) e))
