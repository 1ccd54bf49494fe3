-- What is accepted is a problem, and one only; and what a function that checks more gives.
use Prim.Native.Nat.{ℕ}
use mathlib.Core.Path.{◌≡◌}
use mathlib.Core.Logic.{inl, inr}
use mathlib.Core.List.{List}
use native.Mathlib.Omega.{arith}
use Rattle.meaning.specs.Forest.{Term}
use Rattle.meaning.specs.Pattern.{Pattern, Kind}
use Rattle.meaning.specs.Calls.{accept}
use Rattle.meaning.proofs.OneCode.{one_refuse}
use Rattle.tree.proofs.Unique.{unique}
use Rattle.pattern.specs.Rows.{GoodPattern}
use Rattle.pattern.specs.Known.{KindsAre}
use Rattle.expression.specs.Expression.{Expression}
use Rattle.expression.proofs.Unique as Table
use Rattle.constraint.specs.Obeys.{Constraint}
use Rattle.constraint.proofs.Meant.{one_meaning}
use Rattle.problem.specs.Problem.{Lists, Poses, Codes}
use Rattle.problem.specs.Answer.{Told, Answered}

-- a problem that the lists mean
pub record Posed (l : Lists) : Type 0 where
  pub T : Term
  pub P : Pattern
  pub Q : List Kind
  pub es : List Expression
  pub cs : List Constraint
  pub poses : Poses l T P Q es cs

-- where none of these codes is given, the lists mean a problem, and the others decide
pub posed_then : (l : Lists) (others : ℕ → Type 0) (c : ℕ) → c ≡ 0 → Codes l others c → Posed l × others c
posed_then l others c z (inl a) = absurd (omega (arith, a.1))
posed_then l others c z (inr (t, inl a)) = absurd (omega (arith, a.1))
posed_then l others c z (inr (t, inr (p, inl a))) = absurd (omega (arith, a.1))
posed_then l others c z (inr (t, inr (p, inr (e, inl a)))) = absurd (omega (arith, a.1))
posed_then l others c z (inr (t, inr (p, inr (e, inr (k, inl a))))) = absurd (omega (arith, a.1))
posed_then l others c z (inr (t, inr (p, inr (e, inr (k, inr (n, o)))))) =
    (record { T = t.0; P = k.0; Q = k.1; es = k.2; cs = k.3; poses = record { tree = t.1; rest = k.4; named = rw (Table.unique k.4.table n.1) n.2 } }, o)

pub posed : (l : Lists) (others : ℕ → Type 0) (c : ℕ) → c ≡ 0 → Codes l others c → Posed l
posed l others c z h = (posed_then l others c z h).0

pub codes_low : (l : Lists) (others : ℕ → Type 0) (c : ℕ) → (c ≡ 0 → ⊥) → Codes l accept c → Codes l others c
codes_low l others c z (inl a) = inl a
codes_low l others c z (inr (t, inl a)) = inr (t, inl a)
codes_low l others c z (inr (t, inr (p, inl a))) = inr (t, inr (p, inl a))
codes_low l others c z (inr (t, inr (p, inr (e, inl a)))) = inr (t, inr (p, inr (e, inl a)))
codes_low l others c z (inr (t, inr (p, inr (e, inr (k, inl a))))) = inr (t, inr (p, inr (e, inr (k, inl a))))
codes_low l others c z (inr (t, inr (p, inr (e, inr (k, inr (n, o)))))) = absurd (z o)

pub codes_high : (l : Lists) (others : ℕ → Type 0) (c : ℕ) → Posed l → others c → Codes l others c
codes_high l others c w o =
    let m = w.poses.rest in
    inr ((w.T, w.poses.tree), inr ((w.P, w.Q, m.pattern), inr ((w.es, m.table), inr ((w.P, w.Q, w.es, w.cs, m), inr ((w.es, m.table, w.poses.named), o)))))

-- what is known where the answer is no refusal: a problem, and the kinds of its variables
module _ {l : Lists} {r : Told} (a : Answered l r) (z : r.code ≡ 0) where
  pub the : Posed l
  the = posed l accept r.code z a.code

  pub known : {P : Pattern} {Q : List Kind} → GoodPattern l.kind l.name l.pattern_size P Q → KindsAre Q r.variables r.kinds
  known {P} {Q} g = let f = a.found z P Q g in record { many = f.0; few = g.bounded; are = f.1 }

-- one code, one problem, one answer
pub one_codes : (l : Lists) (others : ℕ → Type 0) → ((a b : ℕ) → others a → others b → a ≡ b) → (a b : ℕ) → Codes l others a → Codes l others b → a ≡ b
one_codes l others one a b h k =
    one_refuse 11 _ _ a b (λ a b. one_refuse 12 _ _ a b (λ a b. one_refuse 13 _ _ a b (λ a b. one_refuse 14 _ _ a b (λ a b. one_refuse 19 _ _ a b one)))) h k

pub one_posed : {l : Lists} {T U : Term} {P R : Pattern} {Q K : List Kind} {es fs : List Expression} {cs ds : List Constraint}
    → Poses l T P Q es cs → Poses l U R K fs ds → (T ≡ U) × (P ≡ R) × (Q ≡ K) × (es ≡ fs) × (cs ≡ ds)
one_posed a b =
    let m = one_meaning a.rest b.rest in
    (unique a.tree b.tree, m.0, m.1, m.2, m.3)
