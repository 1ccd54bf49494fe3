-- The contract of the test settles its answer.
use Prim.Native.Nat.{ℕ}
use mathlib.Core.Path.{◌≡◌, refl, ap, sym}
use mathlib.Core.List.{List}
use mathlib.Core.Bool.{Bool}
use Rattle.std.specs.Prelude.{Result, Ok, Err}
use Rattle.meaning.specs.declared.refusal.Refusal.{Refusal}
use Rattle.meaning.proofs.Answers.{one_answer}
use Rattle.meaning.proofs.Refusals.{code_some, one_refusal}
use Rattle.meaning.proofs.OneCode.{one_refuse, one_accept}
use Rattle.problem.specs.Problem.{Lists}
use Rattle.problem.proofs.Posed.{posed, one_codes}
use Rattle.test.specs.Tested.{code_of, Fifteen, TestSettled}

module _ {l : Lists} {list : List ℕ} where
  one_code : {r s : Result Bool Refusal} → TestSettled l list r → TestSettled l list s → code_of r ≡ code_of s
  one_code {r} {s} a b = one_codes l (Fifteen l list) (λ i j. one_refuse 15 _ _ i j one_accept) (code_of r) (code_of s) a.code b.code

  pub one_tested : (r s : Result Bool Refusal) → TestSettled l list r → TestSettled l list s → r ≡ s
  one_tested (Err e) (Err f) a b = ap Err (one_refusal e f (one_code a b))
  one_tested (Err e) (Ok y) a b = absurd (code_some e (one_code a b))
  one_tested (Ok x) (Err f) a b = absurd (code_some f (sym (one_code a b)))
  one_tested (Ok x) (Ok y) a b =
      let w = posed l (Fifteen l list) 0 refl a.code in
      ap Ok (one_answer x y (a.yes_or_no refl w.T w.P w.Q w.es w.cs w.poses) (b.yes_or_no refl w.T w.P w.Q w.es w.cs w.poses))
