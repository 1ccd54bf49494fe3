-- The turns of the loop that checks the constraint list.
use Prim.Native.Nat.{ℕ, ◌+◌, ◌≤◌, ◌<◌}
use mathlib.Core.Path.{◌≡◌, ap, ◌∙◌}
use mathlib.Core.Bool.{Bool, true, false}
use mathlib.Core.List.{List}
use lib.ListN.{length, get_or}
use native.Mathlib.Omega.{arith}
use native.Mathlib.Decide.{ℕ_discrete}
use Rattle.meaning.specs.Calls.{Says}
use Rattle.meaning.specs.Pattern.{Kind, old, look}
use Rattle.meaning.proofs.Answers.{said_no}
use Rattle.meaning.proofs.Lists.{look_old, look_some}
use Rattle.pattern.specs.Rows.{code}
use Rattle.pattern.proofs.Listed.{listed_look, listed_length}
use Rattle.expression.specs.Expression.{Expression}
use Rattle.expression.specs.Columns.{size_rows}
use Rattle.constraint.specs.Obeys.{Constraint}
use Rattle.constraint.specs.Good.{GoodConstraints}
use Rattle.pattern.specs.Known.{KindsAre}
use Rattle.constraint.specs.Pair.{GivenPre}
use Rattle.constraint.proofs.Constraints.{PairAt, pair_at, all_pairs, numbers_many}
use Rattle.constraint.proofs.Pairs.{Paired}

module _ (variables : ℕ) (kinds size list : List ℕ) where
  -- the variables before x have good numbers, whatever pattern and table these lists belong to
  pub record Passed (x : ℕ) : Type 0 where
    pub each : (es : List Expression) (Q : List Kind) → KindsAre Q variables kinds → size ≡ size_rows es → (y : ℕ) (k : Kind) → y < x → look Q y ≡ old k → (c : Constraint) × PairAt es list k y c

  -- what the check of one variable's numbers answers
  abbrev pub Judged : ℕ → Bool → Type 0
  Judged x r = (es : List Expression) (k : Kind) → size ≡ size_rows es → get_or kinds x 0 ≡ code k → Says r (Paired es k (get_or list (x + x) 0) (get_or list (x + x + 1) 0))

  -- the number of a variable's kind
  kind_at : {Q : List Kind} (x : ℕ) {k : Kind} → KindsAre Q variables kinds → look Q x ≡ old k → get_or kinds x 0 ≡ code k
  kind_at {Q} x {k} q e = ap (λ (l : List ℕ). get_or l x 0) q.are ∙ listed_look Q x k e

  pub passed_none : Passed 0
  passed_none = record { each = λ es Q q p y k h e. absurd (omega arith) }

  pub passed_one : {x : ℕ} {r : Bool} → Passed x → Judged x r → r ≡ true → Passed (x + 1)
  passed_one {x} {r} passed judged t = record { each = λ es Q q p y k h e. go es Q q p y k h e (ℕ_discrete y x) }
    where
      go : (es : List Expression) (Q : List Kind) → KindsAre Q variables kinds → size ≡ size_rows es → (y : ℕ) (k : Kind) → y < x + 1 → look Q y ≡ old k → Dec (y ≡ x) → (c : Constraint) × PairAt es list k y c
      go es Q q p y k h e (yes z) = rw z ((judged es k p (kind_at x q (rw z at e))).0 t)
      go es Q q p y k h e (no n) = passed.each es Q q p y k (omega arith) e

  pub passed_not : {x : ℕ} {r : Bool} → x < variables → Judged x r → r ≡ false → (es : List Expression) (Q : List Kind) → KindsAre Q variables kinds → size ≡ size_rows es
      → (cs : List Constraint) × GoodConstraints es Q list cs → ⊥
  passed_not {x} h judged f es Q q p (cs, g) =
      let k = look_some Q x (omega (arith, q.many)) in
      said_no (judged es k.0 p (kind_at x q k.1)) f (_, pair_at x g k.1)

  pub passed_all : {x : ℕ} → Passed x → variables ≤ x → length list ≡ variables + variables → (es : List Expression) (Q : List Kind) → KindsAre Q variables kinds → size ≡ size_rows es
      → (cs : List Constraint) × GoodConstraints es Q list cs
  passed_all passed h m es Q q p = all_pairs Q list (omega (arith, q.many)) (λ x k e. passed.each es Q q p x k (omega (arith, look_old Q x k e, q.many)) e)

-- a list of another length
pub other_length : (variables : ℕ) (kinds list : List ℕ) → (length list ≡ variables + variables → ⊥) → (es : List Expression) (Q : List Kind) → KindsAre Q variables kinds
    → (cs : List Constraint) × GoodConstraints es Q list cs → ⊥
other_length variables kinds list n es Q q (cs, g) = n (omega (arith, numbers_many g, q.many))

-- what the pattern's check tells: at most 16 variables, and the kinds of as many
pub kinds_known : {variables : ℕ} {kinds size : List ℕ} → GivenPre variables kinds size → (variables ≤ 16) × (length kinds ≡ 16)
kinds_known pre =
    let q = pre.variable.1 in
    (omega (arith, q.few, q.many), ap length q.are ∙ listed_length pre.variable.0 q.few)
