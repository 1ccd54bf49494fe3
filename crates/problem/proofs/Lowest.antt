-- Each return of the check: the rule that is broken, and that those before it hold.
use Prim.Native.Nat.{ℕ}
use mathlib.Core.Path.{◌≡◌, refl}
use mathlib.Core.Logic.{inl, inr}
use mathlib.Core.Bool.{Bool, true, false}
use mathlib.Core.List.{List}
use Rattle.std.specs.Prelude.{Ok, Err}
use Rattle.meaning.specs.Refusal.{code}
use Rattle.meaning.specs.declared.refusal.Refusal.{Refusal}
use Rattle.meaning.specs.declared.refusal.Refusal.TheVariants as refusal
use Rattle.meaning.proofs.Refusals.{code_some}
use Rattle.meaning.specs.Calls.{Says, accept}
use Rattle.meaning.specs.Pattern.{Kind}
use Rattle.meaning.proofs.Answers.{said_no}
use Rattle.tree.specs.Rows.{GoodRows}
use Rattle.pattern.specs.Answer.{PatternSettled}
use Rattle.pattern.specs.declared.Checked.{Checked}
use Rattle.expression.specs.Expression.{Expression}
use Rattle.expression.specs.Rows.{GoodTable}
use Rattle.expression.specs.Columns.{size_rows}
use Rattle.constraint.specs.Obeys.{Constraint}
use Rattle.constraint.specs.Good.{GoodConstraints, GoodConstraintList}
use Rattle.pattern.specs.Known.{KindsAre}
use Rattle.expression.proofs.Columns.{sizes_are}
use Rattle.constraint.specs.Pair.{NamedPre}
use Rattle.constraint.specs.Named.{AllNamed}
use Rattle.constraint.proofs.Meant.{list_judged}
use Rattle.problem.specs.Problem.{Lists, Codes}
use Rattle.problem.specs.Answer.{told, Answered}

answered_no : {l : Lists} (e : Refusal) → Codes l accept (code e) → Answered l (told (Err e))
answered_no e c = record { code = c; found = λ z. absurd (code_some e z); refused = λ z. (refl, refl) }

-- what the checks below answer
abbrev Tree : Lists → Bool → Type 0
Tree l b = Says b (GoodRows l.label l.size)

abbrev Checks : Lists → Checked → Type 0
Checks l checked = PatternSettled l.kind l.name l.pattern_size checked

abbrev Table : Lists → Bool → Type 0
Table l b = Says b ((es : List Expression) × GoodTable l.expression_kind l.expression_name l.expression_size es)

abbrev Given : Lists → Checked → Bool → Type 0
Given l checked b =
    (es : List Expression) (Q : List Kind) → KindsAre Q checked.variables checked.kinds → l.expression_size ≡ size_rows es
    → Says b ((cs : List Constraint) × GoodConstraints es Q l.constraint cs)

abbrev Names : Lists → Bool → Type 0
Names l b = (es : List Expression) → l.expression_size ≡ size_rows es → Says b (AllNamed es l.constraint)

-- what the last check asks, whatever the tree
pub names_asked : {kind name size kinds names sizes list : List ℕ} {checked : Checked} {b c : Bool} → PatternSettled kind name size checked → checked.good ≡ true
    → Says b ((es : List Expression) × GoodTable kinds names sizes es) → b ≡ true
    → ((es : List Expression) (Q : List Kind) → KindsAre Q checked.variables checked.kinds → sizes ≡ size_rows es → Says c ((cs : List Constraint) × GoodConstraints es Q list cs))
    → c ≡ true → NamedPre checked.variables sizes list
names_asked {kind} {name} {size} {kinds} {names} {sizes} {list} checks has_pattern table has_table given has_constraints =
    let (P, Q, es, cs, m) = (list_judged kind name size kinds names sizes list checks table has_pattern has_table given).0 has_constraints in
    record { some = (kinds, names, es, Q, cs, m.table, m.constraints, (checks.found P Q m.pattern).0) }

module _ (l : Lists) where
  pub no_tree : {t : Bool} → Tree l t → t ≡ false → Answered l (told (Err refusal.Tree))
  no_tree s e = answered_no refusal.Tree (inl (said_no s e, refl))

  module _ {t : Bool} (tree : Tree l t) (has_tree : t ≡ true) {checked : Checked} (checks : Checks l checked) where
    pub no_pattern : checked.good ≡ false → Answered l (told (Err refusal.Pattern))
    no_pattern e = answered_no refusal.Pattern (inr (tree.0 has_tree, inl (said_no checks.judged e, refl)))

    module _ (has_pattern : checked.good ≡ true) {b : Bool} (table : Table l b) where
      pub no_table : b ≡ false → Answered l (told (Err refusal.Expressions))
      no_table e = answered_no refusal.Expressions (inr (tree.0 has_tree, inr (checks.judged.0 has_pattern, inl (said_no table e, refl))))

      module _ (has_table : b ≡ true) {c : Bool} (given : Given l checked c) where
        judged : Says c (GoodConstraintList l.kind l.name l.pattern_size l.expression_kind l.expression_name l.expression_size l.constraint)
        judged = list_judged l.kind l.name l.pattern_size l.expression_kind l.expression_name l.expression_size l.constraint checks table has_pattern has_table given

        pub no_constraints : c ≡ false → Answered l (told (Err refusal.Constraints))
        no_constraints e =
            answered_no refusal.Constraints
            (inr (tree.0 has_tree, inr (checks.judged.0 has_pattern, inr (table.0 has_table, inl (said_no judged e, refl)))))

        module _ (has_constraints : c ≡ true) {n : Bool} (names : Names l n) where
          named : Says n ((es : List Expression) × GoodTable l.expression_kind l.expression_name l.expression_size es × AllNamed es l.constraint)
          named =
              let t = table.0 has_table in
              (λ e. (t.0, t.1, (names t.0 (sizes_are t.0 t.1)).0 e), λ a. (names a.0 (sizes_are a.0 a.1)).1 a.2)

          pub forgotten : n ≡ false → Answered l (told (Err refusal.Forgotten))
          forgotten e =
              answered_no refusal.Forgotten
              (inr (tree.0 has_tree, inr (checks.judged.0 has_pattern, inr (table.0 has_table, inr (judged.0 has_constraints, inl (said_no named e, refl))))))

          pub all_good : n ≡ true → Answered l (told (Ok (record { count = checked.variables; kinds = checked.kinds })))
          all_good e =
              record {
                code = inr (tree.0 has_tree, inr (checks.judged.0 has_pattern, inr (table.0 has_table, inr (judged.0 has_constraints, inr (named.0 e, refl)))));
                found = λ z P Q g. checks.found P Q g;
                refused = λ z. absurd (z refl);
              }
