-- The step at a sequence variable.
use Prim.Native.Nat.{ℕ, ◌+◌, ◌<◌}
use mathlib.Core.Path.{◌≡◌, refl, ap, ◌∙◌, sym, subst}
use mathlib.Core.Logic.{◌≢◌}
use mathlib.Core.List.{List}
use lib.ListN.{length, get_or}
use native.Mathlib.Omega.{arith}
use Rattle.meaning.specs.Forest.{Forest, terms}
use Rattle.meaning.specs.Read.{take_t, span}
use Rattle.meaning.specs.Pattern.{Kind, a_sequence, Comes}
use Rattle.meaning.specs.Matcher.{Value, of_sequence, kind}
use Rattle.meaning.specs.Record.{Entry, second}
use Rattle.tree.specs.Places.{TermsAt}
use Rattle.tree.proofs.Terms.{terms_rows}
use Rattle.compare.specs.Appear.{AgainPre, AgainPost}
use Rattle.compare.proofs.Remaining.{another_of, again_of}
use Rattle.std.specs.Prelude.{Option, Some, None}
use Rattle.variable.specs.State.{ValueAt, a_term, some_terms, a_label, a_context_value, State}
use Rattle.variable.specs.Steps.{chose_need, first_terms, Behind, SequencePre, SequencePost}
use Rattle.variable.specs.declared.Step.TheVariants as step
use Rattle.variable.proofs.States.{in_room, Earlier, earlier}
use Rattle.variable.proofs.Choices.{unlike_before, like_before}

sequence_of : {L S : List ℕ} {a : ℕ} {v : Value} → ValueAt L S a v → kind v ≡ a_sequence → (e : ℕ) × (f : Forest) × (v ≡ of_sequence f) × TermsAt L S a e f
sequence_of (a_term T) e = let z : ◌≡◌ {A = ℕ} 0 1 = cc in absurd (omega arith)
sequence_of (some_terms {e = d} T) e = (d, _, refl, T)
sequence_of (a_label h f) e = let z : ◌≡◌ {A = ℕ} 0 1 = cc in absurd (omega arith)
sequence_of (a_context_value x) e = let z : ◌≡◌ {A = ℕ} 0 1 = cc in absurd (omega arith)

-- the value of a variable that has appeared
module _ {L S R : List ℕ} {x n a c : ℕ} (f : x ≢ n) (ea : a ≡ get_or R (x + x) 0) (ec : c ≡ get_or R (x + x + 1) 0) where
  its_terms : {Q : List Kind} {B : List Entry} (state : State L S R Q n B) (comes : Comes Q x a_sequence n)
      → (w : Earlier state comes) × (b : ℕ) × (g : Forest) × (w.value ≡ of_sequence g) × TermsAt L S a b g × (terms g ≡ c)
  its_terms state comes =
      let w = earlier state comes f in
      let v = sequence_of w.stands w.its in
      (w, v.0, v.1, v.2, rw ea v.3, ap (λ (u : Value). second u (get_or R (x + x) 0)) (sym v.2) ∙ w.second_is ∙ sym ec)

module _ {L S R : List ℕ} {x t e n : ℕ} where
  pub sequence_needs : x ≡ n → SequencePost L S R x t e n step.Need
  sequence_needs f = record { is = λ Q us B T comes state. chose_need f }

  pub sequence_room : SequencePre L S R x t e n → x + x + 1 < length R
  sequence_room p = let s = p.variable.some in in_room s.2 s.3

  module _ {a c : ℕ} (f : x ≢ n) (ea : a ≡ get_or R (x + x) 0) (ec : c ≡ get_or R (x + x + 1) 0) where
    pub sequence_again_pre : SequencePre L S R x t e n → AgainPre L S a c t e
    sequence_again_pre p =
        let s = p.variable.some in
        let w = its_terms f ea ec s.2 s.3 in
        record { earlier = (w.1, w.2, w.4, w.5); tree = p.tree }

    module _ {o : Option ℕ} (later : AgainPost L S a c t e o) where
      pub sequence_differs : o ≡ None → SequencePost L S R x t e n step.Fail
      sequence_differs g =
          record {
            is = λ Q us B T comes state.
                let w = its_terms f ea ec state comes in
                let y = another_of (rw g at (later.is w.1 w.2 us w.4 w.5 T)) in
                let h : w.0.value ≢ of_sequence (take_t (span w.0.value) us) =
                λ i. y (let z : of_sequence w.2 ≡ of_sequence (take_t (span (of_sequence w.2)) us) = subst (λ (v : Value). v ≡ of_sequence (take_t (span v) us)) w.3 i in cc)
                in
                unlike_before state 0 (terms us) t (first_terms us) (Behind L S t e us) comes f w.0 h;
          }

      pub sequence_again : {u : ℕ} → o ≡ Some u → SequencePost L S R x t e n (step.Go u)
      sequence_again {u} g =
          record {
            is = λ Q us B T comes state.
                let w = its_terms f ea ec state comes in
                let y = again_of (rw g at (later.is w.1 w.2 us w.4 w.5 T)) in
                let h : w.0.value ≡ of_sequence (take_t (span w.0.value) us) = subst (λ (v : Value). v ≡ of_sequence (take_t (span v) us)) (sym w.3) (ap of_sequence y.0) in
                let there : Behind L S t e us u (span w.0.value) = subst (λ (v : Value). Behind L S t e us u (span v)) (sym w.3) (y.2, terms_rows y.1) in
                like_before state 0 (terms us) t (first_terms us) (Behind L S t e us) comes f w.0 h there;
          }
