-- What the check answers, and that its contract allows no other answer.
use Prim.Native.Nat.{ℕ, ◌≤◌}
use mathlib.Core.Path.{◌≡◌, refl, ap, ◌∙◌, sym}
use mathlib.Core.Bool.{Bool, true, false, true≢false}
use mathlib.Core.List.{List}
use lib.ListN.{length, get_or}
use Rattle.meaning.specs.Pattern.{Pattern, Kind, a_sequence}
use Rattle.tree.specs.Shape.{Shape}
use Rattle.pattern.specs.Rows.{code, GoodPattern, GoodPatternRows}
use Rattle.pattern.specs.Answer.{listed, PatternSettled}
use Rattle.pattern.specs.Scan.{Refused, Scanned, passed, failed}
use Rattle.pattern.specs.Known.{KindsAre}
use Rattle.pattern.specs.declared.Checked.{Checked}
use Rattle.pattern.proofs.Joint.{good_scan, scanned_good}
use Rattle.pattern.proofs.Unique.{one_list}

module _ {K N S : List ℕ} {r : Checked} where
  pub settled_no : (GoodPatternRows K N S → ⊥) → Refused r → PatternSettled K N S r
  settled_no h f =
      record {
        judged = (λ e. absurd (true≢false (sym e ∙ f.bad)), λ g. absurd (h g));
        found = λ P Q g. absurd (h (P, Q, g));
        refused = λ e. (f.none, f.empty);
      }

  pub settled_scan : Shape S → (get_or K 0 0 ≡ code a_sequence → ⊥) → length K ≤ 256 → Scanned K N S r → PatternSettled K N S r
  settled_scan t root few (failed h f) = settled_no (λ g. h g.1 g.2.bounded (good_scan g.2)) f
  settled_scan t root few (passed Q bounded s e v k) =
      let p = scanned_good root few bounded s t in
      record {
        judged = (λ d. (p.0, Q, p.1), λ d. e);
        found = λ R T g. let q = one_list p.1 g in (v ∙ ap length q, k ∙ ap listed q);
        refused = λ d. absurd (true≢false (sym e ∙ d));
      }

abbrev made : Bool → ℕ → List ℕ → Checked
made g v k = record { good = g; variables = v; kinds = k }

same_fields : (r o : Checked) → r.good ≡ o.good → r.variables ≡ o.variables → r.kinds ≡ o.kinds → r ≡ o
same_fields r o g v k =
    ap (λ (x : Bool). made x r.variables r.kinds) g
    ∙ ap (λ (x : ℕ). made o.good x r.kinds) v
    ∙ ap (λ (x : List ℕ). made o.good o.variables x) k

-- the contract settles the answer
pub one_checked : {K N S : List ℕ} {r o : Checked} → PatternSettled K N S r → PatternSettled K N S o → r ≡ o
one_checked {K} {N} {S} {r} {o} a b = go r.good refl o.good refl
  where
    go : (x : Bool) → r.good ≡ x → (y : Bool) → o.good ≡ y → r ≡ o
    go true p y q =
        let g = a.judged.0 p in
        let m = a.found g.0 g.1 g.2 in
        let n = b.found g.0 g.1 g.2 in
        same_fields r o (p ∙ sym (b.judged.1 g)) (m.0 ∙ sym n.0) (m.1 ∙ sym n.1)
    go false p true q = absurd (true≢false (sym (a.judged.1 (b.judged.0 q)) ∙ p))
    go false p false q =
        let m = a.refused p in
        let n = b.refused q in
        same_fields r o (p ∙ sym q) (m.0 ∙ sym n.0) (m.1 ∙ sym n.1)

-- what the answer tells of the variables
pub variables_known : {K N S : List ℕ} {r : Checked} {P : Pattern} {Q : List Kind} → PatternSettled K N S r → GoodPattern K N S P Q → KindsAre Q r.variables r.kinds
variables_known {P = P} {Q = Q} settled g =
    let f = settled.found P Q g in
    record { many = f.0; few = g.bounded; are = f.1 }
