-- The steps at a variable without choices, and at a symbol.
use Prim.Native.Nat.{ℕ, ◌+◌, ◌<◌}
use mathlib.Core.Path.{◌≡◌, refl, ap, ◌∙◌, sym}
use mathlib.Core.Logic.{◌≢◌}
use mathlib.Core.Bool.{Bool, true, false}
use mathlib.Core.List.{List}
use lib.ListN.{length, get_or, set}
use native.Mathlib.Omega.{arith}
use native.Mathlib.Decide.{ℕ_discrete}
use Rattle.meaning.specs.Forest.{Forest, none, some}
use Rattle.meaning.specs.Pattern.{Kind, an_individual, a_function, old, look, Comes}
use Rattle.meaning.specs.Matcher.{Value, of_individual, of_function, kind}
use Rattle.meaning.proofs.Walk.{same?, ok}
use Rattle.meaning.specs.Record.{Entry}
use Rattle.meaning.specs.Read.{values}
use Rattle.meaning.proofs.Lists.{look_old}
use Rattle.meaning.proofs.Steps.{when_yes}
use Rattle.tree.specs.Places.{TermAt, Next}
use Rattle.tree.proofs.Terms.{term_next, alone_at}
use Rattle.meaning.proofs.Answers.{said_no}
use Rattle.compare.specs.Appear.{AlikePre, AlikePost}
use Rattle.variable.specs.State.{ValueAt, a_term, some_terms, a_label, a_context_value, State, zero_of_individual, zero_of_function}
use Rattle.variable.specs.Steps.{meets_fail, meets_ok, IndividualPre, IndividualPost, HeadPre, HeadPost}
use Rattle.std.specs.Prelude.{Some, None}
use Rattle.variable.proofs.States.{kept_same, kept_both, put_both, is_new, in_room, earlier, state_more}
use Rattle.variable.proofs.Choices.{when_no}

individual_of : {L S : List ℕ} {a : ℕ} {v : Value} → ValueAt L S a v → kind v ≡ an_individual → (l : ℕ) × (us : Forest) × (v ≡ of_individual l us) × TermAt L S a l us
individual_of (a_term T) e = (_, _, refl, T)
individual_of (some_terms T) e = let z : ◌≡◌ {A = ℕ} 0 1 = cc in absurd (omega arith)
individual_of (a_label h f) e = let z : ◌≡◌ {A = ℕ} 0 1 = cc in absurd (omega arith)
individual_of (a_context_value x) e = let z : ◌≡◌ {A = ℕ} 0 1 = cc in absurd (omega arith)

function_of : {L S : List ℕ} {a : ℕ} {v : Value} → ValueAt L S a v → kind v ≡ a_function → (v ≡ of_function (get_or L a 0)) × (a < length L)
function_of (a_term T) e = let z : ◌≡◌ {A = ℕ} 0 1 = cc in absurd (omega arith)
function_of (some_terms T) e = let z : ◌≡◌ {A = ℕ} 0 1 = cc in absurd (omega arith)
function_of (a_label h f) e = (ap of_function (sym f), h)
function_of (a_context_value x) e = let z : ◌≡◌ {A = ℕ} 0 1 = cc in absurd (omega arith)

-- the value of an individual variable that has appeared
module _ {L S R : List ℕ} {x n a : ℕ} (f : x ≢ n) (ea : a ≡ get_or R (x + x) 0) where
  its_term : {Q : List Kind} {B : List Entry} (state : State L S R Q n B) (comes : Comes Q x an_individual n)
      → (l : ℕ) × (us : Forest) × (look (values B) x ≡ old (of_individual l us)) × TermAt L S a l us
  its_term state comes =
      let w = earlier state comes f in
      let v = individual_of w.stands w.its in
      (v.0, v.1, w.is ∙ ap old v.2, rw ea v.3)

-- individual variables
module _ {L S R : List ℕ} {x t n : ℕ} where
  pub individual_room : IndividualPre L S R x t n → (x + x + 1 < length R) × (t < 4294967296)
  individual_room p =
      let s = p.variable.some in
      (in_room s.2 s.3, omega (arith, s.2.small, (term_next p.tree.2).labelled))

  pub individual_first : {R' : List ℕ} → x ≡ n → R' ≡ set (set R (n + n) t) (n + n + 1) 0 → IndividualPost L S R x t n (Some (n + 1)) R'
  individual_first e h =
      record {
        is = λ Q l us B T comes state.
            let i = is_new state e in
            let r = in_room state comes in
            let room : n + n + 1 < length R = omega arith in
            let put = put_both {t = t} room h in
            let q = rw e at comes.kept in (
              meets_ok {k = n + 1} (omega arith) (state_more state comes {v = of_individual l us} e refl (a_term T) put) (λ cs. rw i),
              kept_both (look_old Q n an_individual q) (zero_of_individual n (omega arith) q refl) put,
            );
      }

  module _ {a : ℕ} (f : x ≢ n) (ea : a ≡ get_or R (x + x) 0) where
    pub individual_next : IndividualPre L S R x t n → Next L S a
    individual_next p =
        let s = p.variable.some in
        term_next (its_term f ea s.2 s.3).3

    module _ {na nt : ℕ} (en : na ≡ a + get_or S a 0) (et : nt ≡ t + get_or S t 0) where
      pub individual_alike_pre : IndividualPre L S R x t n → AlikePre L S a na t nt
      individual_alike_pre p =
          let s = p.variable.some in
          let w = its_term f ea s.2 s.3 in
          record { here = (some w.0 w.1 none, rw en (alone_at w.3)); there = (some p.tree.0 p.tree.1 none, rw et (alone_at p.tree.2)) }

      module _ {r : Bool} (alike : AlikePost L S a na t nt r) where
        pub individual_same : r ≡ true → IndividualPost L S R x t n (Some n) R
        individual_same g =
            record {
              is = λ Q l us B T comes state.
                  let w = its_term f ea state comes in
                  let i = w.2 in
                  let h = (alike.is (some w.0 w.1 none) (some l us none) (rw en (alone_at w.3)) (rw et (alone_at T))).0 g in
                  let y : of_individual w.0 w.1 ≡ of_individual l us = cc in
                  (meets_ok {k = n} (omega (arith, comes.near)) state (λ cs. rw (i, when_yes (same? (of_individual w.0 w.1) (of_individual l us)) (ok B cs) y)), kept_same);
            }

        pub individual_differs : r ≡ false → IndividualPost L S R x t n None R
        individual_differs g =
            record {
              is = λ Q l us B T comes state.
                  let w = its_term f ea state comes in
                  let i = w.2 in
                  let h = said_no (alike.is (some w.0 w.1 none) (some l us none) (rw en (alone_at w.3)) (rw et (alone_at T))) g in
                  let y : of_individual w.0 w.1 ≢ of_individual l us = λ e. h (cc) in
                  (meets_fail (λ cs. rw (i, when_no (same? (of_individual w.0 w.1) (of_individual l us)) (ok B cs) y)), kept_same);
            }

-- symbols
module _ {L R : List ℕ} {kind x t n y : ℕ} (e : kind ≡ 0) (ey : y ≡ get_or L t 0) where
  pub symbol_same : x ≡ y → HeadPost L R kind x t n (Some n) R
  symbol_same f =
      record {
        symbol = λ _ S Q B state.
            (meets_ok refl state (λ cs. when_yes (ℕ_discrete x (get_or L t 0)) (ok B cs) (f ∙ ey)), kept_same);
        function = λ g. absurd (g e);
      }

  pub symbol_differs : x ≢ y → HeadPost L R kind x t n None R
  symbol_differs f =
      record {
        symbol = λ _ S Q B state.
            (meets_fail (λ cs. when_no (ℕ_discrete x (get_or L t 0)) (ok B cs) (λ g. f (g ∙ sym ey))), kept_same);
        function = λ g. absurd (g e);
      }

-- the value of a function variable that has appeared
module _ {L R : List ℕ} {x n a : ℕ} (f : x ≢ n) (ea : a ≡ get_or R (x + x) 0) where
  its_label : {S : List ℕ} {Q : List Kind} {B : List Entry} (state : State L S R Q n B) (comes : Comes Q x a_function n)
      → (look (values B) x ≡ old (of_function (get_or L a 0))) × (a < length L)
  its_label state comes =
      let w = earlier state comes f in
      let v = function_of w.stands w.its in
      rw ea (w.is ∙ ap old v.0, v.1)

-- function variables
module _ {L R : List ℕ} {kind x t n : ℕ} (e : kind ≢ 0) where
  pub function_room : HeadPre L R kind x t n → (x + x + 1 < length R) × (t < 4294967296)
  function_room p =
      let s = (p.variable e).1.some in
      (in_room s.2 s.3, omega (arith, s.2.small, p.row))

  pub function_first : {R' : List ℕ} → t < length L → x ≡ n → R' ≡ set (set R (n + n) t) (n + n + 1) 0 → HeadPost L R kind x t n (Some (n + 1)) R'
  function_first w f h =
      record {
        symbol = λ g. absurd (e g);
        function = λ _ S Q B comes state.
            let i = is_new state f in
            let r = in_room state comes in
            let room : n + n + 1 < length R = omega arith in
            let put = put_both {t = t} room h in
            let q = rw f at comes.kept in (
              meets_ok {k = n + 1} (omega arith) (state_more state comes {v = of_function (get_or L t 0)} f refl (a_label w refl) put) (λ cs. rw i),
              kept_both (look_old Q n a_function q) (zero_of_function n (omega arith) q refl) put,
            );
      }

  module _ {a : ℕ} (f : x ≢ n) (ea : a ≡ get_or R (x + x) 0) where
    pub function_next : HeadPre L R kind x t n → a < length L
    function_next p =
        let s = (p.variable e).1.some in
        (its_label f ea s.2 s.3).1

    module _ {u v : ℕ} (eu : u ≡ get_or L a 0) (ev : v ≡ get_or L t 0) where
      pub function_same : u ≡ v → HeadPost L R kind x t n (Some n) R
      function_same g =
          record {
            symbol = λ h. absurd (e h);
            function = λ _ S Q B comes state.
                let i = (its_label f ea state comes).0 in
                let y : of_function (get_or L a 0) ≡ of_function (get_or L t 0) = ap of_function (sym eu ∙ g ∙ ev) in
                (meets_ok {k = n} (omega (arith, comes.near)) state (λ cs. rw (i, when_yes (same? (of_function (get_or L a 0)) (of_function (get_or L t 0))) (ok B cs) y)), kept_same);
          }

      pub function_differs : u ≢ v → HeadPost L R kind x t n None R
      function_differs g =
          record {
            symbol = λ h. absurd (e h);
            function = λ _ S Q B comes state.
                let i = (its_label f ea state comes).0 in
                let y : of_function (get_or L a 0) ≢ of_function (get_or L t 0) = λ h. let z : get_or L a 0 ≡ get_or L t 0 = cc in g (eu ∙ z ∙ sym ev) in
                (meets_fail (λ cs. rw (i, when_no (same? (of_function (get_or L a 0)) (of_function (get_or L t 0))) (ok B cs) y)), kept_same);
          }
