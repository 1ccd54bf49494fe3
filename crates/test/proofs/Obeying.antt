-- The turns of the loop that judges one variable after another.
use Prim.Native.Nat.{ℕ, suc, ◌+◌, ◌<◌, ◌≤◌}
use mathlib.Core.Path.{◌≡◌}
use mathlib.Core.Bool.{Bool, true, false}
use mathlib.Core.List.{List}
use lib.ListN.{length, get_or}
use native.Mathlib.Omega.{arith}
use native.Mathlib.Decide.{ℕ_discrete}
use Rattle.meaning.specs.Calls.{Says}
use Rattle.meaning.specs.Forest.{none, Term, ◌◂◌}
use Rattle.meaning.specs.Pattern.{Kind, old, look}
use Rattle.meaning.specs.Read.{value_at, GoodRecord}
use Rattle.meaning.proofs.Answers.{says_yes, says_no, said_no}
use Rattle.meaning.proofs.Lists.{look_some}
use Rattle.record.proofs.Each.{good_each, good_long}
use Rattle.expression.specs.Expression.{Expression}
use Rattle.expression.specs.Rows.{GoodTable}
use Rattle.letters.specs.declared.Tables.{Tables}
use Rattle.letters.specs.State.{TablesOf}
use Rattle.constraint.specs.Obeys.{Constraint, Allowed}
use Rattle.pattern.specs.declared.Variables.{Variables}
use Rattle.problem.specs.Problem.{Lists}
use Rattle.problem.specs.Allowing.{Allowing, AllowedPre, AllowedPost}
use Rattle.test.specs.Inside.{Constrained, ConstrainedPre, AllObey, ObeyedPost, AllPre, AllPost}

module _ (posed : Lists) (tables : Tables) (known : Variables) (list : List ℕ) where
  abbrev Given : Term → List Kind → List Expression → List Constraint → Type 0
  Given T Q es cs = Allowing posed.label posed.size tables posed.constraint known.kinds T Q es cs

  -- the variables below x obey
  pub record Obeying (x : ℕ) : Type 0 where
    pub each : (T : Term) (Q : List Kind) (es : List Expression) (cs : List Constraint) → Given T Q es cs → GoodRecord Q (T ◂ none) list → known.count ≡ length Q → AllObey Q T cs list x

  pub list_long : AllPre posed tables known list → (length list ≡ known.count + known.count) × (known.count ≤ 16)
  list_long p =
      let h = p.some in
      (omega (arith, good_long h.1 (h.0 ◂ none) list h.5, h.6), omega (arith, h.4.few, h.6))

  module _ {x : ℕ} (l : x < known.count) where
    pub judge_asked : AllPre posed tables known list
        → AllowedPre posed.label posed.size tables posed.constraint known.kinds x (get_or list (x + x) 0) (get_or list (x + x + 1) 0)
    judge_asked p =
        let h = p.some in
        let k = look_some h.1 x (omega (arith, h.6)) in
        record { some = (h.0, h.1, h.2, h.3, k.0, h.4, k.1, (good_each h.1 (h.0 ◂ none) list (suc x) h.5).fits x k.0 (omega arith) k.1) }

    module _ {r : Bool}
        (post : AllowedPost posed.label posed.size tables posed.constraint known.kinds x (get_or list (x + x) 0) (get_or list (x + x + 1) 0) r) where
      -- what the answer says of the variable x
      judged_here : (T : Term) (Q : List Kind) (es : List Expression) (cs : List Constraint) → Given T Q es cs → GoodRecord Q (T ◂ none) list → (k : Kind) → look Q x ≡ old k
          → Says r (Allowed cs x (value_at k (T ◂ none) (get_or list (x + x) 0) (get_or list (x + x + 1) 0)))
      judged_here T Q es cs j g k e = post.is T Q es cs k j e ((good_each Q (T ◂ none) list (suc x) g).fits x k (omega arith) e)

      pub obeying_not : r ≡ false → AllPost posed tables known list false
      obeying_not f =
          record {
            is = λ T Q es cs j g v.
                let k = look_some Q x (omega arith) in
                says_no (λ o. said_no (judged_here T Q es cs j g k.0 k.1) f (o.each x k.0 (omega arith) k.1));
          }

      pub obeying_more : Obeying x → r ≡ true → Obeying (x + 1)
      obeying_more o t = record { each = λ T Q es cs j g v. record { each = λ y k m e. go T Q es cs j g v y k m e (ℕ_discrete y x) } }
        where
          go : (T : Term) (Q : List Kind) (es : List Expression) (cs : List Constraint) → Given T Q es cs → GoodRecord Q (T ◂ none) list → known.count ≡ length Q
              → (y : ℕ) (k : Kind) → y < x + 1 → look Q y ≡ old k → Dec (y ≡ x) → Allowed cs y (value_at k (T ◂ none) (get_or list (y + y) 0) (get_or list (y + y + 1) 0))
          go T Q es cs j g v y k m e (yes d) = rw d ((judged_here T Q es cs j g k (rw d at e)).0 t)
          go T Q es cs j g v y k m e (no d) = (o.each T Q es cs j g v).each y k (omega arith) e

  pub obeying_all : {x : ℕ} → Obeying x → x ≤ known.count → known.count ≤ x → AllPost posed tables known list true
  obeying_all {x} o low high =
      record {
        is = λ T Q es cs j g v.
            let e : x ≡ length Q = omega arith in
            says_yes (rw e at (o.each T Q es cs j g v));
      }

-- with the tables of the expressions
module _ (posed : Lists) (known : Variables) (list : List ℕ) {tables : Tables}
    (t : (es : List Expression) → GoodTable posed.expression_kind posed.expression_name posed.expression_size es → TablesOf es tables)
    (p : ConstrainedPre posed known list) where
  allowing : {T : Term} {Q : List Kind} {es : List Expression} {cs : List Constraint} → Constrained posed known.kinds list T Q es cs → Given posed tables known list T Q es cs
  allowing {es = es} c =
      record {
        tree = c.tree;
        few = c.few;
        known = c.known;
        table = (posed.expression_kind, posed.expression_name, posed.expression_size, c.table);
        read = t es c.table;
        given = c.given;
      }

  pub all_asked : AllPre posed tables known list
  all_asked = let h = p.some in record { some = (h.0, h.1, h.2, h.3, allowing h.4, h.4.good, h.5) }

  pub all_judged : {r : Bool} → AllPost posed tables known list r → ObeyedPost posed known list r
  all_judged post =
      record {
        is = λ T Q es cs c.
            let h = p.some in
            post.is T Q es cs (allowing c) c.good (omega (arith, h.5, good_long h.1 (h.0 ◂ none) list h.4.good, good_long Q (T ◂ none) list c.good));
      }
