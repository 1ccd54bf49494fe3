-- A sequence against what stands where it appears again, term by term: what is left to compare.
use Prim.Native.Nat.{ℕ, zero, suc, ◌+◌, ◌<◌}
use mathlib.Core.Path.{◌≡◌, refl, ap, ◌∙◌, sym, subst}
use mathlib.Core.Logic.{◌≢◌}
use mathlib.Core.Bool.{Bool, true, false}
use mathlib.Core.List.{List}
use lib.ListN.{get_or}
use native.Mathlib.Omega.{arith}
use Rattle.meaning.specs.Calls.{Says}
use Rattle.meaning.specs.Forest.{Forest, none, some, terms}
use Rattle.meaning.specs.Read.{take_t}
use Rattle.meaning.proofs.Laws.{drop_t}
use Rattle.tree.specs.Places.{TermsAt, stop, step, TermAt}
use Rattle.tree.proofs.Terms.{FirstAt, terms_le, terms_end, term_size, alone_at, nothing_at, none_at, first_at}
use Rattle.meaning.proofs.Answers.{said_no}
use Rattle.compare.specs.Appear.{AlikePre, AlikePost, Again, another, again}
use Rattle.std.specs.Prelude.{Option, Some, None}

pub another_of : {L S : List ℕ} {t e : ℕ} {f us : Forest} → Again L S t e f us None → f ≢ take_t (terms f) us
another_of (another h) = h

pub again_of : {L S : List ℕ} {t e u : ℕ} {f us : Forest} → Again L S t e f us (Some u) → (f ≡ take_t (terms f) us) × TermsAt L S t u (take_t (terms f) us) × TermsAt L S u e (drop_t (terms f) us)
again_of (again h x y) = (h, x, y)

some_left : {L S : List ℕ} {t e : ℕ} {f : Forest} → TermsAt L S t e f → f ≢ none → t < e
some_left (stop h a b) z = absurd (z refl)
some_left (step r i b k) z = omega (arith, terms_le k)

take_nothing : (c : ℕ) → take_t c none ≡ none
unfolding take_t
take_nothing zero = refl
take_nothing (suc c) = refl

-- two sequences by their first terms and the rest
module _ {l m : ℕ} {us vs rest more f g : Forest} (is : f ≡ some l us rest) (other : g ≡ some m vs more) where
  begins_alike : f ≡ take_t (terms f) g → (some l us none ≡ some m vs none) × (rest ≡ take_t (terms rest) more)
  unfolding take_t terms
  begins_alike e =
      let z : some l us rest ≡ some m vs (take_t (terms rest) more) = rw (is, other) at e in
      (cc, cc)

  goes_on : {L S : List ℕ} {t e : ℕ} {o : Option ℕ} → TermAt L S t m vs → some l us none ≡ some m vs none → Again L S (t + get_or S t 0) e rest more o → Again L S t e f g o
  unfolding take_t terms drop_t
  goes_on T h (another n) = another (λ z. n (begins_alike z).1)
  goes_on T h (again {u = u} z x y) =
      let k = rw (sym (term_size T)) at x in
      rw (is, other) (again (cc) (step {e = u} T.row T.inner (terms_le k) k) y)

-- what is left of the comparison of f with us: the terms from row a on with those from row t on
pub record Remaining (L S : List ℕ) (a b t e t₀ : ℕ) (f us : Forest) : Type 0 where
  pub mine : Forest
  pub others : Forest
  pub here : TermsAt L S a b mine
  pub there : TermsAt L S t e others
  pub whole : {o : Option ℕ} → Again L S t e mine others o → Again L S t₀ e f us o

unfoldable pub remaining_first : {L S : List ℕ} {a b t e : ℕ} {f us : Forest} → TermsAt L S a b f → TermsAt L S t e us → Remaining L S a b t e t f us
remaining_first {f = f} {us = us} F T = record { mine = f; others = us; here = F; there = T; whole = λ x. x }

module _ {L S : List ℕ} {a b t e t₀ : ℕ} {f us : Forest} (rest : Remaining L S a b t e t₀ f us) where
  pub remaining_none : rest.mine ≡ none → Again L S t₀ e f us (Some t)
  unfolding take_t terms drop_t
  remaining_none n =
      let i = terms_le rest.there in
      let j = terms_end rest.there in
      let x : Again L S t e none rest.others (Some t) = again refl (nothing_at t (omega arith) (omega arith)) rest.there in
      rest.whole (subst (λ (g : Forest). Again L S t e g rest.others (Some t)) (sym n) x)

  module _ (more : rest.mine ≢ none) where
    pub remaining_end : t ≡ e → Again L S t₀ e f us None
    remaining_end z =
        rest.whole (another λ h. more (h ∙ ap (take_t (terms rest.mine)) (none_at rest.there (omega arith)) ∙ take_nothing (terms rest.mine)))

    -- the terms that are compared next
    pub mine_first : FirstAt L S a b rest.mine
    mine_first = first_at rest.here (some_left rest.here more)

    module _ (inside : t ≢ e) where
      pub others_first : FirstAt L S t e rest.others
      others_first = first_at rest.there (omega (arith, terms_le rest.there))

      module _ {na nt : ℕ} (en : na ≡ a + get_or S a 0) (et : nt ≡ t + get_or S t 0) where
        mine_alone : TermsAt L S a na (some mine_first.label mine_first.args none)
        mine_alone = rw en (alone_at mine_first.first)

        others_alone : TermsAt L S t nt (some others_first.label others_first.args none)
        others_alone = rw et (alone_at others_first.first)

        pub remaining_alike_pre : AlikePre L S a na t nt
        remaining_alike_pre = record { here = (some mine_first.label mine_first.args none, mine_alone); there = (some others_first.label others_first.args none, others_alone) }

        module _ {r : Bool} (alike : AlikePost L S a na t nt r) where
          says : Says r (some mine_first.label mine_first.args none ≡ some others_first.label others_first.args none)
          says = alike.is _ _ mine_alone others_alone

          pub remaining_differs : r ≡ false → Again L S t₀ e f us None
          remaining_differs i = rest.whole (another λ z. said_no says i (begins_alike mine_first.is others_first.is z).0)

          pub remaining_more : r ≡ true → (w : Remaining L S na b nt e t₀ f us) × (terms rest.mine ≡ suc (terms w.mine))
          unfolding terms
          remaining_more i = (
            record {
              mine = mine_first.rest;
              others = others_first.rest;
              here = rw en mine_first.others;
              there = rw et others_first.others;
              whole = λ z. rest.whole (goes_on mine_first.is others_first.is others_first.first (says.0 i) (rw et at z));
            },
            ap terms mine_first.is,
          )
