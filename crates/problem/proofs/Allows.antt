-- One variable's numbers are judged by its constraint.
use Prim.Native.Nat.{ℕ, ◌+◌, ◌<◌}
use mathlib.Core.Path.{◌≡◌}
use mathlib.Core.Bool.{Bool}
use mathlib.Core.List.{List}
use lib.ListN.{length, get_or}
use native.Mathlib.Omega.{arith}
use Rattle.meaning.specs.Forest.{none, Term, ◌◂◌}
use Rattle.meaning.specs.Pattern.{Kind, old, look}
use Rattle.meaning.specs.Read.{value_at, Fits}
use Rattle.meaning.proofs.Lists.{look_old}
use Rattle.tree.proofs.Unique.{good_at}
use Rattle.pattern.specs.Rows.{code}
use Rattle.pattern.proofs.Listed.{listed_look}
use Rattle.expression.specs.Expression.{Expression}
use Rattle.constraint.specs.Obeys.{Constraint}
use Rattle.constraint.specs.Reading.{ValueAt, ObeysPre, ObeysPost}
use Rattle.constraint.proofs.Constraints.{numbers_many}
use Rattle.constraint.proofs.Values.{value_at_lem, obeys_asked, obeys_allowed}
use Rattle.problem.specs.Allowing.{Allowing, AllowedPre, AllowedPost}
use Rattle.letters.specs.declared.Tables.{Tables}

module _ {L S : List ℕ} {tables : Tables} {list kinds : List ℕ} where
  -- the variable's two numbers are in the list
  pub asked_within : {x a b : ℕ} → AllowedPre L S tables list kinds x a b → (x < 16) × (x + x + 1 < length list)
  asked_within {x} p =
      let h = p.some in
      let l = look_old h.1 x h.4 h.6 in
      (omega (arith, h.5.few), omega (arith, numbers_many h.5.given))

  pub kind_number : (x : ℕ) {T : Term} {Q : List Kind} {es : List Expression} {cs : List Constraint} (k : Kind) → Allowing L S tables list kinds T Q es cs → look Q x ≡ old k → get_or kinds x 0 ≡ code k
  kind_number x {Q = Q} k j e = rw j.known (listed_look Q x k e)

  value_there : (a b : ℕ) {T : Term} {Q : List Kind} {es : List Expression} {cs : List Constraint} (k : Kind) → Allowing L S tables list kinds T Q es cs → Fits k (T ◂ none) a b
      → ValueAt L S a b k (value_at k (T ◂ none) a b)
  value_there a b k j f = value_at_lem (good_at j.tree) k a b f

  pub allowed_asks : {x a b : ℕ} → AllowedPre L S tables list kinds x a b → ObeysPre L S (get_or list (x + x) 0) (get_or list (x + x + 1) 0) (get_or kinds x 0) a b
  allowed_asks {x} {a} {b} p =
      let h = p.some in
      obeys_asked x h.5.given h.6 (kind_number x h.4 h.5 h.6) h.5.table.3 (value_there a b h.4 h.5 h.7)

  pub allowed_by : (x a b : ℕ) {r : Bool} → ObeysPost L S tables (get_or list (x + x) 0) (get_or list (x + x + 1) 0) (get_or kinds x 0) a b r
      → AllowedPost L S tables list kinds x a b r
  allowed_by x a b post =
      record { is = λ T Q es cs k j e f. obeys_allowed x j.given e (kind_number x k j e) post j.read (value_there a b k j f) }
