-- The step at a context variable.
use Prim.Native.Nat.{ℕ, ◌+◌, ◌<◌}
use mathlib.Core.Path.{◌≡◌, refl, ap, ◌∙◌, sym, subst}
use mathlib.Core.Logic.{◌≢◌}
use mathlib.Core.List.{List}
use lib.ListN.{length, get_or}
use native.Mathlib.Omega.{arith}
use Rattle.meaning.specs.Forest.{Term, rows, Context, plug, hole_row}
use Rattle.meaning.specs.Read.{Split, cut, span}
use Rattle.meaning.specs.Pattern.{Kind, a_context, Comes}
use Rattle.meaning.specs.Matcher.{Value, of_context, kind}
use Rattle.meaning.specs.Record.{Entry, second}
use Rattle.meaning.proofs.Laws.{cut_plugs, plug_cut}
use Rattle.tree.specs.Places.{TermAt, ContextAt}
use Rattle.compare.specs.Appear.{Fits, misfit, fitting, FitsPre, FitsPost}
use Rattle.std.specs.Prelude.{Option, Some, None}
use Rattle.variable.specs.State.{ValueAt, a_term, some_terms, a_label, a_context_value, State}
use Rattle.variable.specs.Steps.{chose_need, context_to, InHole, ContextPre, ContextPost}
use Rattle.variable.specs.declared.Step.TheVariants as step
use Rattle.variable.proofs.States.{in_room, Earlier, earlier}
use Rattle.variable.proofs.Choices.{unlike_before, like_before}

context_of : {L S : List ℕ} {a : ℕ} {v : Value} → ValueAt L S a v → kind v ≡ a_context → (c : Context) × (v ≡ of_context c) × ContextAt L S a (a + hole_row c) c
context_of (a_term T) e = let z : ◌≡◌ {A = ℕ} 0 1 = cc in absurd (omega arith)
context_of (some_terms T) e = let z : ◌≡◌ {A = ℕ} 0 1 = cc in absurd (omega arith)
context_of (a_label h f) e = let z : ◌≡◌ {A = ℕ} 0 1 = cc in absurd (omega arith)
context_of (a_context_value {c = c} x) e = (c, refl, x)

misfit_of : {L S : List ℕ} {t : ℕ} {c : Context} {T : Term} → Fits L S t c T None → c ≢ (cut T (hole_row c)).around
misfit_of {c = c} {T = T} (misfit h) e = h (cut T (hole_row c)).at (ap (λ (d : Context). plug d (cut T (hole_row c)).at) e ∙ cut_plugs T (hole_row c))

fitting_of : {L S : List ℕ} {t h : ℕ} {c : Context} {T : Term} → Fits L S t c T (Some h)
    → (c ≡ (cut T (hole_row c)).around) × (t + hole_row c ≡ h) × TermAt L S h (cut T (hole_row c)).at.label (cut T (hole_row c)).at.args
fitting_of {L} {S} {t} {h} {c} {T} (fitting U e r x) =
    let z : cut T (hole_row c) ≡ record { around = c; at = U } = ap (λ (W : Term). cut W (hole_row c)) (sym e) ∙ plug_cut c U in
    (sym (ap (λ (s : Split). s.around) z), sym r, subst (λ (s : Split). TermAt L S h s.at.label s.at.args) (sym z) x)

-- the value of a variable that has appeared
module _ {L S R : List ℕ} {x n a b : ℕ} (f : x ≢ n) (ea : a ≡ get_or R (x + x) 0) (eb : b ≡ get_or R (x + x + 1) 0) where
  its_context : {Q : List Kind} {B : List Entry} (state : State L S R Q n B) (comes : Comes Q x a_context n)
      → (w : Earlier state comes) × (c : Context) × (w.value ≡ of_context c) × ContextAt L S a b c
  its_context state comes =
      let w = earlier state comes f in
      let v = context_of w.stands w.its in
      let y : get_or R (x + x) 0 + hole_row v.0 ≡ b = ap (λ (u : Value). second u (get_or R (x + x) 0)) (sym v.1) ∙ w.second_is ∙ sym eb in
      (w, v.0, v.1, rw ea (subst (λ (i : ℕ). ContextAt L S (get_or R (x + x) 0) i v.0) y v.2))

module _ {L S R : List ℕ} {x t n : ℕ} where
  pub context_needs : x ≡ n → ContextPost L S R x t n step.Need
  context_needs f = record { is = λ Q T B H comes state. chose_need f }

  pub context_room : ContextPre L S R x t n → x + x + 1 < length R
  context_room p = let s = p.variable.some in in_room s.2 s.3

  module _ {a b : ℕ} (f : x ≢ n) (ea : a ≡ get_or R (x + x) 0) (eb : b ≡ get_or R (x + x + 1) 0) where
    pub context_fits_pre : ContextPre L S R x t n → FitsPre L S a b t
    context_fits_pre p =
        let s = p.variable.some in
        let w = its_context f ea eb s.2 s.3 in
        record { here = (w.1, w.3); there = p.tree }

    module _ {o : Option ℕ} (fits : FitsPost L S a b t o) where
      pub context_differs : o ≡ None → ContextPost L S R x t n step.Fail
      context_differs g =
          record {
            is = λ Q T B H comes state.
                let w = its_context f ea eb state comes in
                let y = misfit_of (rw g at (fits.is w.1 T.label T.args w.3 H)) in
                let h : w.0.value ≢ of_context (cut T (span w.0.value)).around =
                λ i. y (let z : of_context w.1 ≡ of_context (cut T (hole_row w.1)).around = subst (λ (v : Value). v ≡ of_context (cut T (span v)).around) w.2 i in cc)
                in
                unlike_before state t (t + rows T.args) t (context_to T) (InHole L S t T) comes f w.0 h;
          }

      pub context_again : {h : ℕ} → o ≡ Some h → ContextPost L S R x t n (step.Go h)
      context_again {h} g =
          record {
            is = λ Q T B H comes state.
                let w = its_context f ea eb state comes in
                let y = fitting_of (rw g at (fits.is w.1 T.label T.args w.3 H)) in
                let i : w.0.value ≡ of_context (cut T (span w.0.value)).around = subst (λ (v : Value). v ≡ of_context (cut T (span v)).around) (sym w.2) (ap of_context y.0) in
                let there : InHole L S t T h (span w.0.value) = subst (λ (v : Value). InHole L S t T h (span v)) (sym w.2) (y.1, y.2) in
                like_before state t (t + rows T.args) t (context_to T) (InHole L S t T) comes f w.0 i there;
          }
