-- The whole check: the pattern's, the table's and the list's; and that good lists mean one thing only.
use Prim.Native.Nat.{ℕ}
use mathlib.Core.Path.{◌≡◌, sym}
use mathlib.Core.Bool.{Bool, true, false}
use mathlib.Core.List.{List}
use Rattle.meaning.specs.Calls.{Says}
use Rattle.meaning.specs.Pattern.{Pattern, Kind}
use Rattle.meaning.proofs.Answers.{said_no}
use Rattle.pattern.specs.Answer.{PatternSettled}
use Rattle.pattern.specs.declared.Checked.{Checked}
use Rattle.pattern.proofs.Unique.{one_pattern, one_list}
use Rattle.pattern.proofs.Settle.{variables_known}
use Rattle.expression.specs.Expression.{Expression}
use Rattle.expression.proofs.Columns.{sizes_are}
use Rattle.expression.specs.Rows.{GoodTable}
use Rattle.expression.specs.Columns.{size_rows}
use Rattle.expression.proofs.Unique.{unique}
use Rattle.constraint.specs.Obeys.{Constraint}
use Rattle.constraint.specs.Good.{GoodConstraints, ListsMean, GoodConstraintList}
use Rattle.pattern.specs.Known.{KindsAre}
use Rattle.constraint.specs.Pair.{GivenPre}
use Rattle.constraint.proofs.Constraints.{one_constraints}

-- what the check of the table answers
abbrev Judged : List ℕ → List ℕ → List ℕ → Bool → Type 0
Judged kinds names sizes r = Says r ((es : List Expression) × GoodTable kinds names sizes es)

pub list_asked : {kind name size kinds names sizes : List ℕ} {checked : Checked} {table : Bool} → PatternSettled kind name size checked → Judged kinds names sizes table
    → checked.good ≡ true → table ≡ true → GivenPre checked.variables checked.kinds sizes
list_asked settled judged p t =
    let g = settled.judged.0 p in
    let h = judged.0 t in
    record { variable = (g.1, variables_known settled g.2); table = (h.0, sizes_are h.0 h.1) }

module _ (kind name size kinds names sizes list : List ℕ) where
  abbrev All : Type 0
  All = GoodConstraintList kind name size kinds names sizes list

  pub pattern_bad : {checked : Checked} → PatternSettled kind name size checked → checked.good ≡ false → All → ⊥
  pattern_bad settled e (P, Q, es, cs, m) = said_no settled.judged e (P, Q, m.pattern)

  pub table_bad : {table : Bool} → Judged kinds names sizes table → table ≡ false → All → ⊥
  table_bad judged e (P, Q, es, cs, m) = said_no judged e (es, m.table)

  pub list_judged : {checked : Checked} {table r : Bool} → PatternSettled kind name size checked → Judged kinds names sizes table → checked.good ≡ true → table ≡ true
      → ((es : List Expression) (Q : List Kind) → KindsAre Q checked.variables checked.kinds → sizes ≡ size_rows es → Says r ((cs : List Constraint) × GoodConstraints es Q list cs))
      → Says r All
  list_judged {r = r} settled judged p t says =
      let g = settled.judged.0 p in
      let h = judged.0 t in
      let s = says h.0 g.1 (variables_known settled g.2) (sizes_are h.0 h.1) in
      (λ e. (g.0, g.1, h.0, (s.0 e).0, record { pattern = g.2; table = h.1; constraints = (s.0 e).1 }), back)
    where
      back : All → r ≡ true
      back (P, Q, es, cs, m) = (says es Q (variables_known settled m.pattern) (sizes_are es m.table)).1 (cs, m.constraints)

-- the lists mean one pattern, one list of kinds, one list of expressions and one of constraints
module _ {kind name size kinds names sizes list : List ℕ} {P R : Pattern} {Q T : List Kind} {es fs : List Expression} {cs ds : List Constraint}
    (m : ListsMean kind name size kinds names sizes list P Q es cs) (n : ListsMean kind name size kinds names sizes list R T fs ds) where
  pub one_meaning : (P ≡ R) × (Q ≡ T) × (es ≡ fs) × (cs ≡ ds)
  one_meaning =
      let q = one_list m.pattern n.pattern in
      let e = unique m.table n.table in
      (one_pattern m.pattern n.pattern, q, e, one_constraints m.constraints (rw (sym q, sym e) at n.constraints))
