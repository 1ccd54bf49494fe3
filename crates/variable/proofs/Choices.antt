-- A variable that has choices: asked for, or chosen before.
use Prim.Native.Nat.{ℕ, ◌<◌}
use mathlib.Core.Path.{◌≡◌, refl}
use mathlib.Core.Logic.{◌≢◌}
use mathlib.Core.List.{List}
use native.Mathlib.Omega.{arith}
use Rattle.meaning.specs.Pattern.{Kind, Comes}
use Rattle.meaning.specs.Matcher.{Value}
use Rattle.meaning.proofs.Walk.{same?, Res, fail, when}
use Rattle.meaning.specs.Record.{Entry}
use Rattle.meaning.specs.Read.{span}
use Rattle.meaning.proofs.Steps.{when_yes}
use Rattle.variable.specs.State.{State}
use Rattle.variable.specs.Steps.{Chose, chose_fail, chose_go}
use Rattle.variable.specs.declared.Step.TheVariants as step
use Rattle.variable.proofs.States.{Earlier}

pub when_no : {A : Type 0} (d : Dec A) (r : Res) → (A → ⊥) → when d r ≡ fail
when_no (yes a) r h = absurd (h a)
when_no (no n) r h = refl

-- chosen before
module _ {L S R : List ℕ} {Q : List Kind} {n : ℕ} {B : List Entry} (state : State L S R Q n B) (lo hi t : ℕ) (g : ℕ → Value) (There : ℕ → ℕ → Type 0)
    {x : ℕ} {k : Kind} (comes : Comes Q x k n) (f : x ≢ n) (before : Earlier state comes) where
  pub unlike_before : before.value ≢ g (span before.value) → Chose n x lo hi t g B There step.Fail
  unlike_before h =
      let i = before.is in
      chose_fail λ cs k. rw i (when_no (same? before.value (g (span before.value))) _ h)

  pub like_before : {u : ℕ} → before.value ≡ g (span before.value) → There u (span before.value) → Chose n x lo hi t g B There (step.Go u)
  like_before h there =
      let i = before.is in
      let l : x < n = omega (arith, comes.near) in
      chose_go (span before.value) (λ cs k. rw i (when_yes (same? before.value (g (span before.value))) _ h)) l there
