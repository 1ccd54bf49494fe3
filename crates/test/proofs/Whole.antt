-- The test, whole: a record of a substitution that turns the pattern into the tree, and whose values obey, is one of a matcher.
use Prim.Native.Nat.{ℕ, ◌+◌, ◌<◌}
use mathlib.Core.Path.{◌≡◌, refl, ap, ◌∙◌, sym}
use mathlib.Core.Logic.{inl, inr}
use mathlib.Core.Bool.{Bool, true, false}
use mathlib.Core.List.{List}
use lib.ListN.{length, get_or}
use native.Mathlib.Omega.{arith}
use Rattle.std.specs.Prelude.{Ok, Err}
use Rattle.meaning.specs.Calls.{Says}
use Rattle.meaning.specs.declared.refusal.Refusal.TheVariants.{Record}
use Rattle.meaning.proofs.Refusals.{code_some}
use Rattle.meaning.specs.Forest.{none, Term, ◌◂◌}
use Rattle.meaning.specs.Pattern.{Pattern, Kind, old, look, Numbered}
use Rattle.meaning.specs.Matcher.{Value}
use Rattle.meaning.specs.Read.{value_at, read_off, GoodRecord}
use Rattle.meaning.specs.Record.{IsRecord}
use Rattle.meaning.proofs.Lists.{look_old, look_some}
use Rattle.meaning.proofs.Steps.{kinds_length}
use Rattle.meaning.proofs.Next.{Any, any?}
use Rattle.meaning.proofs.Round.{round}
use Rattle.meaning.proofs.Answers.{says_no, said_no}
use Rattle.pattern.specs.Rows.{GoodPattern}
use Rattle.pattern.specs.Known.{KindsAre}
use Rattle.pattern.specs.declared.Variables.{Variables}
use Rattle.record.specs.Pairs.{RecordPre, RecordPost}
use Rattle.record.proofs.Each.{read_look}
use Rattle.record.specs.Good.{GoodRecordList}
use Rattle.record.proofs.Whole.{fits_asked, fits_says, fits_judged}
use Rattle.expression.specs.Expression.{Expression}
use Rattle.constraint.specs.Obeys.{Constraint, Allowed}
use Rattle.constraint.proofs.Allowed.{allowed?}
use Rattle.problem.specs.Problem.{Lists, Poses, Codes}
use Rattle.problem.specs.Answer.{told, Answered}
use Rattle.problem.proofs.Posed.{Posed, codes_high, the, known}
use Rattle.test.specs.Tested.{Fifteen, TestSettled}
use Rattle.test.specs.Inside.{Walkable, WalkablePre, PlacedPost, Constrained, ConstrainedPre, AllObey, ObeyedPost}

module _ {P : Pattern} {Q : List Kind} {T : Term} {list : List ℕ} (n : Numbered P Q) (good : GoodRecord Q (T ◂ none) list) where
  -- the value of each variable of a matcher is what its numbers mean
  its_value : {A : ℕ → Value → Type 0} (a? : (x : ℕ) (v : Value) → Dec (A x v)) (i : IsRecord A Q P T list) (x : ℕ) (k : Kind) → look Q x ≡ old k
      → look i.matcher x ≡ old (value_at k (T ◂ none) (get_or list (x + x) 0) (get_or list (x + x + 1) 0))
  its_value {A} a? i x k e =
      let r : read_off Q (T ◂ none) list ≡ i.matcher = rw (← i.its) (round A a? n i.solves) in
      rw r at (read_look Q (T ◂ none) list x k good e)

  pub with_constraints : (cs : List Constraint) → IsRecord Any Q P T list → AllObey Q T cs list (length Q) → IsRecord (Allowed cs) Q P T list
  with_constraints cs i o = record { matcher = i.matcher; solves = record { right = i.solves.right; equal = i.solves.equal; allowed = allowed }; its = i.its }
    where
      allowed : (x : ℕ) (v : Value) → look i.matcher x ≡ old v → Allowed cs x v
      allowed x v h =
          let l : x < length Q = omega (arith, look_old i.matcher x v h, ap length i.solves.right, kinds_length i.matcher) in
          let k = look_some Q x l in
          let w : Value = value_at k.0 (T ◂ none) (get_or list (x + x) 0) (get_or list (x + x + 1) 0) in
          let z : old w ≡ old v = sym (its_value any? i x k.0 k.1) ∙ h in
          let e : w ≡ v = cc in
          rw e at (o.each x k.0 l k.1)

  pub without : (cs : List Constraint) → IsRecord (Allowed cs) Q P T list → IsRecord Any Q P T list
  without cs i = record { matcher = i.matcher; solves = record { right = i.solves.right; equal = i.solves.equal; allowed = λ x v h. tt }; its = i.its }

  pub obeying : (cs : List Constraint) → IsRecord (Allowed cs) Q P T list → AllObey Q T cs list (length Q)
  obeying cs i = record { each = λ x k l e. i.solves.allowed x _ (its_value (allowed? cs) i x k e) }

-- what is known where it is accepted
module _ (l : Lists) {v : Variables} (a : Answered l (told (Ok v))) where
  pub record_asked : RecordPre l.size v.kinds v.count
  record_asked = fits_asked (the a refl).poses.tree (known a refl (the a refl).poses.rest.pattern)

  module _ (list : List ℕ) {b : Bool} (post : RecordPost l.size v.kinds v.count list b) where
    pub says_good : Says b (GoodRecordList l.label l.size l.kind l.name l.pattern_size list)
    says_good = fits_judged (the a refl).poses.tree (the a refl).poses.rest.pattern (λ P Q g. known a refl g) post

    pub test_bad_record : b ≡ false → TestSettled l list (Err Record)
    test_bad_record e =
        record {
          code = codes_high l (Fifteen l list) 15 (the a refl) (inl (said_no says_good e, refl));
          yes_or_no = λ h. absurd (code_some Record h);
          numbered = λ f q. code_some f;
        }

-- lists that are accepted, and a record that fits them
pub record Fitted (l : Lists) (v : Variables) (list : List ℕ) : Type 0 where
  pub answered : Answered l (told (Ok v))
  pub fits : RecordPost l.size v.kinds v.count list true

pub fitted_in : (l : Lists) {v : Variables} (list : List ℕ) {b : Bool} → Answered l (told (Ok v)) → RecordPost l.size v.kinds v.count list b → b ≡ true → Fitted l v list
fitted_in l list answered post e = record { answered = answered; fits = rw e at post }

module _ {l : Lists} {v : Variables} {list : List ℕ} (fitted : Fitted l v list) where
  posed_for : Posed l
  posed_for = the fitted.answered refl

  kinds_for : {P : Pattern} {Q : List Kind} → GoodPattern l.kind l.name l.pattern_size P Q → KindsAre Q v.count v.kinds
  kinds_for g = known fitted.answered refl g

  walkable : {T : Term} {P : Pattern} {Q : List Kind} {es : List Expression} {cs : List Constraint} → Poses l T P Q es cs → Walkable l.label l.size l.kind l.name l.pattern_size list T P Q
  walkable w = record { tree = w.tree; pattern = w.rest.pattern; good = (fits_says w.tree (kinds_for w.rest.pattern) fitted.fits).0 refl }

  accepted : Codes l (Fifteen l list) 0
  accepted = codes_high l (Fifteen l list) 0 posed_for (inr ((says_good l fitted.answered list fitted.fits).0 refl, refl))

  pub placed_asked : WalkablePre l list
  placed_asked = record { some = (posed_for.T, posed_for.P, posed_for.Q, walkable posed_for.poses) }

  constrained : {T : Term} {P : Pattern} {Q : List Kind} {es : List Expression} {cs : List Constraint} → Poses l T P Q es cs → Constrained l v.kinds list T Q es cs
  constrained w =
      let k = kinds_for w.rest.pattern in
      record { tree = w.tree; few = k.few; known = k.are; table = w.rest.table; given = w.rest.constraints; good = (walkable w).good }

  pub obeyed_asked : ConstrainedPre l v list
  obeyed_asked = record { some = (posed_for.T, posed_for.Q, posed_for.es, posed_for.cs, constrained posed_for.poses, (kinds_for posed_for.poses.rest.pattern).many) }

  -- the answer is right for every problem that the lists pose
  settled : {answer : Bool} → ((T : Term) (P : Pattern) (Q : List Kind) (es : List Expression) (cs : List Constraint) → Poses l T P Q es cs
      → Says answer (IsRecord (Allowed cs) Q P T list)) → TestSettled l list (Ok answer)
  settled right = record { code = accepted; yes_or_no = λ h. right; numbered = λ f q. code_some f }

  module _ {p : Bool} (placed : PlacedPost l list p) where
    pub test_elsewhere : p ≡ false → TestSettled l list (Ok false)
    test_elsewhere e =
        settled (λ T P Q es cs w.
        let g = walkable w in
        says_no (λ i. said_no (placed.is T P Q g) e (without g.pattern.numbered g.good cs i)))

    pub test_there : p ≡ true → {o : Bool} → ObeyedPost l v list o → TestSettled l list (Ok o)
    test_there there obeyed =
        settled (λ T P Q es cs w.
        let g = walkable w in
        let s = obeyed.is T Q es cs (constrained w) in (
          λ e. with_constraints g.pattern.numbered g.good cs ((placed.is T P Q g).0 there) (s.0 e),
          λ i. s.1 (obeying g.pattern.numbered g.good cs i),
        ))
