-- 02, #104, by what `Demands` says alone: f(s0) on f(a, a) with the one expression a. Where s0 is not tied to it the list, the page after
-- any record and the test of any record are refused by 19; a flag without an expression is 14, though the expression is forgotten too.
use Prim.Native.Nat.{ℕ, zero, suc, ◌+◌}
use mathlib.Core.Path.{◌≡◌, refl, ap}
use mathlib.Core.Logic.{inl, inr}
use mathlib.Core.List.{List, [], ◌∷◌}
use lib.ListN.{length, get_or}
use native.Mathlib.Omega.{arith}
use Rattle.std.specs.Prelude.{Bool, Result}
use Rattle.meaning.specs.Calls.{accept}
use Rattle.meaning.specs.declared.refusal.Refusal.{Refusal}
use Rattle.meaning.specs.Pattern.{Kind}
use Rattle.meaning.proofs.Lists.{each_at}
use Rattle.expression.specs.Expression.{Expression, symbol}
use Rattle.expression.specs.Rows.{GoodTable}
use Rattle.expression.proofs.Unique.{unique}
use Rattle.constraint.specs.Obeys.{Constraint}
use Rattle.constraint.specs.Good.{GoodConstraints, all_given, none_given, one_given}
use Rattle.constraint.specs.Named.{AllNamed}
use Rattle.problem.specs.Problem.{Lists, Codes}
use Rattle.lister.specs.Listed.{Settled}
use Rattle.lister.specs.Page.{RecordCodes, PageSettled}
use Rattle.lister.specs.Listed.{Listed}
use Rattle.test.specs.Tested.{code_of, Fifteen, TestSettled}
use Rattle.promises.specs.Demands.{Demands}
use Rattle.promises.specs.Table.{lists}
use Rattle.promises.proofs.Examples.{two_leaves_lem, once, good_once, two_leaves}

-- with this constraint list
abbrev pub tied_by : List ℕ → Lists
tied_by list = lists (2 ∷ 7 ∷ 7 ∷ []) (3 ∷ 1 ∷ 1 ∷ []) (0 ∷ 2 ∷ []) (2 ∷ 0 ∷ []) (2 ∷ 1 ∷ []) (0 ∷ []) (7 ∷ []) (1 ∷ []) list

one_letter : GoodTable (0 ∷ []) (7 ∷ []) (1 ∷ []) (symbol 7 ∷ [])
one_letter = record { kinds = refl; names = refl; sizes = refl; most = omega arith; small = each_at 65536 (7 ∷ []) (omega arith, tt) }

-- no first number is 1
zeros : (n : ℕ) → ◌≡◌ {A = ℕ} (get_or (0 ∷ 0 ∷ []) n 0) 0
zeros zero = refl
zeros (suc zero) = refl
zeros (suc (suc n)) = refl

unnamed : AllNamed (symbol 7 ∷ []) (0 ∷ 0 ∷ []) → ⊥
unnamed a = let (x, e) = a.each (symbol 7) 0 (record { before = []; behind = []; among = refl; place = refl }) in omega (arith, e, zeros (x + x))

-- a flag is not given without an expression
flagged : {es : List Expression} {Q : List Kind} {list : List ℕ} {cs : List Constraint} → GoodConstraints es Q list cs → list ≡ 0 ∷ 1 ∷ [] → ⊥
flagged all_given e = omega (arith, ap length e)
flagged (none_given g) e = omega (arith, ap (λ (l : List ℕ). get_or l 1 0) e)
flagged (one_given m s f g) e = omega (arith, ap (λ (l : List ℕ). get_or l 0 0) e)

-- whatever a function checks besides
module _ (others : ℕ → Type 0) (c : ℕ) where
  nineteen : Codes (tied_by (0 ∷ 0 ∷ [])) others c → c ≡ 19
  nineteen (inl a) = absurd (a.0 (two_leaves, two_leaves_lem))
  nineteen (inr (_, inl a)) = absurd (a.0 (once, _, good_once))
  nineteen (inr (_, inr (_, inl a))) = absurd (a.0 (_, one_letter))
  nineteen (inr (_, inr (_, inr (_, inl a)))) = absurd (a.0 (once, _, _, _, record { pattern = good_once; table = one_letter; constraints = none_given all_given }))
  nineteen (inr (_, inr (_, inr (_, inr (_, inl a))))) = a.1
  nineteen (inr (_, inr (_, inr (_, inr (_, inr (n, _)))))) = absurd (unnamed (rw (unique one_letter n.1) n.2))

  fourteen : Codes (tied_by (0 ∷ 1 ∷ [])) others c → c ≡ 14
  fourteen (inl a) = absurd (a.0 (two_leaves, two_leaves_lem))
  fourteen (inr (_, inl a)) = absurd (a.0 (once, _, good_once))
  fourteen (inr (_, inr (_, inl a))) = absurd (a.0 (_, one_letter))
  fourteen (inr (_, inr (_, inr (_, inl a)))) = a.1
  fourteen (inr (_, inr (_, inr (_, inr ((P, Q, es, cs, m), _))))) = absurd (flagged m.constraints refl)

module _ (D : Demands) where
  pub list_forgotten : {budget : ℕ} {before after : List ℕ} {r : Listed} → Settled (tied_by (0 ∷ 0 ∷ [])) budget before r after → r.code ≡ 19
  list_forgotten {r = r} s = nineteen accept r.code (D.refusals.matcher.list s)

  pub page_forgotten : {list : List ℕ} {budget : ℕ} {before after : List ℕ} {r : Listed} → PageSettled (tied_by (0 ∷ 0 ∷ [])) list budget before r after → r.code ≡ 19
  page_forgotten {list} {r = r} s = nineteen (RecordCodes (tied_by (0 ∷ 0 ∷ [])) list) r.code (D.refusals.matcher.list_after s)

  pub test_forgotten : {list : List ℕ} {r : Result Bool Refusal} → TestSettled (tied_by (0 ∷ 0 ∷ [])) list r → code_of r ≡ 19
  test_forgotten {list} {r} s = nineteen (Fifteen (tied_by (0 ∷ 0 ∷ [])) list) (code_of r) (D.refusals.matcher.test s)

  pub list_flagged : {budget : ℕ} {before after : List ℕ} {r : Listed} → Settled (tied_by (0 ∷ 1 ∷ [])) budget before r after → r.code ≡ 14
  list_flagged {r = r} s = fourteen accept r.code (D.refusals.matcher.list s)
