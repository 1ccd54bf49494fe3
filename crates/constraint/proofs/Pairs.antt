-- The answers of the check of one variable's two numbers.
use Prim.Native.Nat.{ℕ, suc, ◌-◌, ◌≤◌, ◌<◌}
use mathlib.Core.Path.{◌≡◌, refl}
use mathlib.Core.Logic.{◌≢◌}
use mathlib.Core.Bool.{Bool}
use mathlib.Core.List.{List}
use lib.Dec.{eqb}
use native.Mathlib.Omega.{arith}
use Rattle.meaning.specs.Calls.{Says}
use Rattle.meaning.specs.Pattern.{Kind, an_individual, a_sequence, a_function, a_context}
use Rattle.pattern.specs.Rows.{code}
use Rattle.expression.specs.Expression.{Expression}
use Rattle.expression.specs.Rows.{StartsAt}
use Rattle.meaning.proofs.Answers.{says_equal}
use Rattle.constraint.specs.Obeys.{Constraint, free, bound}
use Rattle.constraint.specs.Good.{MayHave}
use Rattle.constraint.specs.Pair.{Pair, no_pair, a_pair}

module _ {es : List Expression} {k : Kind} where
  -- the two numbers give none
  pub pair_free : {first flag : ℕ} {c : Constraint} → Pair es k first flag c → first ≡ 0 → (flag ≡ 0) × (c ≡ free)
  pair_free no_pair e = (refl, refl)
  pair_free (a_pair m s f) e = absurd (omega arith)

  -- or one
  pub pair_bound : {first flag : ℕ} {c : Constraint} → Pair es k first flag c → first ≢ 0 → (e : Expression) × (c ≡ bound e flag) × StartsAt es e (first - 1)
  pair_bound no_pair n = absurd (n refl)
  pair_bound (a_pair {e = e} {row = row} m s f) n =
      let z : suc row - 1 ≡ row = omega arith in
      (e, refl, rw z s)

  pub pair_may : {first flag : ℕ} {c : Constraint} → Pair es k first flag c → first ≢ 0 → MayHave k
  pair_may no_pair n = absurd (n refl)
  pair_may (a_pair m s f) n = m

  flag_small : {first flag : ℕ} {c : Constraint} → Pair es k first flag c → flag ≤ 1
  flag_small no_pair = omega arith
  flag_small (a_pair m s f) = f

module _ (es : List Expression) (k : Kind) where
  -- some constraint is what the two numbers give
  abbrev pub Paired : ℕ → ℕ → Type 0
  Paired first flag = (c : Constraint) × Pair es k first flag c

  module _ (first flag : ℕ) where
    pub without_expression : first ≡ 0 → Says (eqb flag 0) (Paired first flag)
    without_expression e = says_equal flag 0 (λ z. (free, rw (e, z) no_pair)) (λ p. (pair_free p.1 e).0)

    pub flag_above : 1 < flag → Paired first flag → ⊥
    flag_above h p = omega (arith, flag_small p.1)

    pub kind_without : first ≢ 0 → (MayHave k → ⊥) → Paired first flag → ⊥
    kind_without n m p = m (pair_may p.1 n)

    pub with_expression : {r : Bool} → first ≢ 0 → flag ≤ 1 → MayHave k → Says r ((e : Expression) × StartsAt es e (first - 1)) → Says r (Paired first flag)
    with_expression {r} n f m s =
        let z : first ≡ suc (first - 1) = omega arith in
        (λ t. (bound (s.0 t).0 flag, rw z (a_pair m (s.0 t).1 f)), λ p. let b = pair_bound p.1 n in s.1 (b.0, b.2))

-- which kinds those are
pub may_not : (k : Kind) → code k ≢ 2 → code k ≢ 4 → MayHave k → ⊥
may_not an_individual a b m = m
may_not a_sequence a b m = a refl
may_not a_function a b m = m
may_not a_context a b m = b refl

pub may : (k : Kind) → code k ≢ 1 → code k ≢ 3 → MayHave k
may an_individual a b = a refl
may a_sequence a b = tt
may a_function a b = b refl
may a_context a b = tt
