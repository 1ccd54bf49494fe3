-- Comparing stretches of rows.
use Prim.Native.Nat.{ℕ, ◌-◌, ◌≤◌}
use mathlib.Core.Path.{◌≡◌}
use mathlib.Core.Logic.{◌≢◌}
use mathlib.Core.Bool.{Bool, false}
use mathlib.Core.List.{List}
use lib.ListN.{length}
use native.Mathlib.Omega.{arith}
use Rattle.meaning.specs.Calls.{Says}
use Rattle.tree.specs.Places.{SameRows}
use Rattle.tree.proofs.Terms.{terms_le, terms_end}
use Rattle.tree.proofs.Compare.{compared, unlike}
use Rattle.meaning.proofs.Answers.{says_no}
use Rattle.compare.specs.Appear.{AlikePre, AlikePost}

module _ {L S : List ℕ} {a b t u : ℕ} where
  pub alike_orders : AlikePre L S a b t u → (a ≤ b) × (t ≤ u)
  alike_orders p = (terms_le p.here.1, terms_le p.there.1)

  pub alike_ends : AlikePre L S a b t u → (b ≤ length L) × (b ≤ length S) × (u ≤ length L) × (u ≤ length S)
  alike_ends p =
      let x = terms_end p.here.1 in
      let y = terms_end p.there.1 in
      (x.0, x.1, y.0, y.1)

  pub alike_differ : b - a ≢ u - t → AlikePost L S a b t u false
  alike_differ h = record { is = λ f g x y. says_no (unlike x y h) }

  pub alike_same : {r : Bool} → b - a ≡ u - t → Says r (SameRows L S a t (u - t)) → AlikePost L S a b t u r
  alike_same h s = record { is = λ f g x y. compared x y (omega (arith, terms_le x, terms_le y)) (omega (arith, terms_le y)) s }
