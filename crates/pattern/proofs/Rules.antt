-- The rules on one row's kind and size, as the code tests them.
use Prim.Native.Nat.{ℕ, ◌+◌, ◌-◌, ◌<◌, ◌≤◌}
use mathlib.Core.Path.{◌≡◌, ap, ◌∙◌, sym}
use mathlib.Core.Logic.{◌⊎◌, inl, inr, ⊎_elim}
use mathlib.Core.List.{List}
use mathlib.Core.Bool.{Bool, true, false}
use lib.ListN.{length, get_or, drop, get_or-eq_default}
use lib.Seq.{get_or-drop}
use lib.Dec.{eqb}
use native.Mathlib.Omega.{arith}
use native.Mathlib.Nat.{add-zero}
use native.Mathlib.Decide.{ℕ_discrete}
use borrow.Author.Tests.{eqb-true, eq-eqb}
use Rattle.meaning.specs.Calls.{Says}
use Rattle.meaning.specs.Pattern.{Kind, an_individual, a_sequence, a_function, a_context}
use Rattle.meaning.proofs.Answers.{says_yes, says_no}
use Rattle.pattern.specs.Rows.{code}
use Rattle.pattern.specs.Scan.{OneArgumentAt, Sized, RowSized, of_symbol, of_variable}
use Rattle.pattern.proofs.Listed.{one_code, code_some}

drop_head : (L : List ℕ) (p : ℕ) → get_or (drop p L) 0 0 ≡ get_or L p 0
drop_head L p = get_or-drop p L 0 0 ∙ ap (λ (j : ℕ). get_or L j 0) (add-zero p)

-- the argument's row follows the context variable's
module _ (K S : List ℕ) (p : ℕ) where
  pub one_end : p + 1 ≡ length S → Says false (OneArgumentAt K S p)
  one_end e = says_no (λ o. omega (arith, o.some, o.one, drop_head S (p + 1), get_or-eq_default S 0 {n = p + 1} (omega arith)))

  pub one_sequence : get_or K (p + 1) 0 ≡ 2 → Says false (OneArgumentAt K S p)
  one_sequence e = says_no (λ o. o.term (drop_head K (p + 1) ∙ e))

  pub one_leaf : get_or S p 0 < 2 → Says false (OneArgumentAt K S p)
  one_leaf h = says_no (λ o. omega (arith, o.some))

  pub one_judged : (get_or K (p + 1) 0 ≡ 2 → ⊥) → 2 ≤ get_or S p 0 → Says (eqb (get_or S p 0 - 1) (get_or S (p + 1) 0)) (OneArgumentAt K S p)
  one_judged t h = (
    λ e. record { some = h; one = omega (arith, eqb-true (get_or S p 0 - 1) (get_or S (p + 1) 0) e, drop_head S (p + 1)); term = λ q. t (sym (drop_head K (p + 1)) ∙ q) },
    λ o. eq-eqb (get_or S p 0 - 1) (get_or S (p + 1) 0) (omega (arith, o.one, drop_head S (p + 1))),
  )

-- a row of the kind k
module _ {k s : ℕ} {K S : List ℕ} where
  sized_of : (v : Kind) → k ≡ code v → RowSized k s K S → Sized v s K S
  sized_of v e (of_symbol d) = absurd (code_some v (sym e ∙ d))
  sized_of v e (of_variable w f z) = let o : w ≡ v = one_code w v (sym f ∙ e) in rw o at z

  pub says_of : {r : Bool} (v : Kind) → k ≡ code v → Says r (Sized v s K S) → Says r (RowSized k s K S)
  says_of v e h = (λ t. of_variable v e (h.0 t), λ z. h.1 (sized_of v e z))

  -- a symbol or a function variable
  pub any_size : (k ≡ 0) ⊎ (k ≡ 3) → Says true (RowSized k s K S)
  any_size e = ⊎_elim (λ d. says_yes (of_symbol d)) (λ d. says_of a_function d (says_yes tt)) e

  -- an individual or a sequence variable
  pub size_one : ((k ≡ 0) ⊎ (k ≡ 3) → ⊥) → k < 3 → Says (eqb s 1) (RowSized k s K S)
  size_one h l =
      let one : Says (eqb s 1) (s ≡ 1) = (λ t. eqb-true s 1 t, λ z. eq-eqb s 1 z) in
      let some : k ≡ 0 → ⊥ = λ e. h (inl e) in
      elim (ℕ_discrete k 1) [ yes e ↦ says_of an_individual e one | no e ↦ says_of a_sequence (omega arith) one ]

  pub no_kind : ((k ≡ 0) ⊎ (k ≡ 3) → ⊥) → (k ≡ 4 → ⊥) → 3 ≤ k → Says false (RowSized k s K S)
  no_kind h f l = says_no go
    where
      go : RowSized k s K S → ⊥
      go (of_symbol e) = h (inl e)
      go (of_variable an_individual e z) = omega arith
      go (of_variable a_sequence e z) = omega arith
      go (of_variable a_function e z) = h (inr e)
      go (of_variable a_context e z) = f e
