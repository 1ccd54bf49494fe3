-- The loop over a sequence that appears again.
use Prim.Native.Nat.{ℕ, ◌+◌, ◌<◌, ◌≤◌}
use mathlib.Core.Path.{◌≡◌, refl, ap}
use mathlib.Core.Logic.{◌≢◌}
use mathlib.Core.Bool.{Bool, true, false}
use mathlib.Core.List.{List}
use lib.ListN.{length, get_or}
use native.Mathlib.Omega.{arith}
use Rattle.meaning.specs.Forest.{Forest, none, some, terms}
use Rattle.tree.specs.Places.{TermsAt}
use Rattle.tree.proofs.Terms.{term_next}
use Rattle.compare.proofs.Remaining.{Remaining, remaining_first, remaining_none, remaining_end, mine_first, others_first, remaining_alike_pre, remaining_differs, remaining_more}
use Rattle.compare.specs.Appear.{AlikePre, AlikePost, AgainPre, AgainPost}
use Rattle.std.specs.Prelude.{Some, None}

-- again: so many terms are the same
pub record Compared (L S : List ℕ) (a₀ c₀ t₀ e a same t : ℕ) : Type 0 where
  pub is : (b : ℕ) (f us : Forest) → TermsAt L S a₀ b f → terms f ≡ c₀ → TermsAt L S t₀ e us → (rest : Remaining L S a b t e t₀ f us) × (same + terms rest.mine ≡ c₀)

pub compared_first : {L S : List ℕ} {a c t e : ℕ} → Compared L S a c t e a 0 t
unfolding remaining_first
compared_first = record { is = λ b f us F k T. (remaining_first F T, omega arith) }

nothing_left : (f : Forest) → terms f ≡ 0 → f ≡ none
unfolding terms
nothing_left none z = refl
nothing_left (some l us rest) z = absurd (omega arith)

something_left : {f : Forest} {c same : ℕ} → same + terms f ≡ c → same < c → f ≢ none
unfolding terms
something_left k z e = omega (arith, ap terms e)

module _ {L S : List ℕ} {a₀ c₀ t₀ e a same t : ℕ} (compared : Compared L S a₀ c₀ t₀ e a same t) where
  pub compared_all : c₀ ≤ same → AgainPost L S a₀ c₀ t₀ e (Some t)
  compared_all z =
      record { is = λ b f us F k T. let w = compared.is b f us F k T in remaining_none w.0 (nothing_left w.0.mine (omega (arith, w.1))) }

  module _ (f : same < c₀) where
    pub compared_end : t ≡ e → AgainPost L S a₀ c₀ t₀ e None
    compared_end z =
        record { is = λ b g us G k T. let w = compared.is b g us G k T in remaining_end w.0 (something_left w.1 f) z }

    module _ (g : t ≢ e) where
      some_rest : AgainPre L S a₀ c₀ t₀ e → (b : ℕ) × (h : Forest) × (us : Forest) × (rest : Remaining L S a b t e t₀ h us) × (rest.mine ≢ none)
      some_rest p =
          let w = compared.is p.earlier.0 p.earlier.1 p.tree.0 p.earlier.2 p.earlier.3 p.tree.1 in
          (p.earlier.0, p.earlier.1, p.tree.0, w.0, something_left w.1 f)

      pub compared_rows : AgainPre L S a₀ c₀ t₀ e → (a < length S) × (t < length S)
      compared_rows p =
          let w = some_rest p in
          ((term_next (mine_first w.3 w.4).first).sized, (term_next (others_first w.3 w.4 g).first).sized)

      module _ {na nt : ℕ} (en : na ≡ a + get_or S a 0) (et : nt ≡ t + get_or S t 0) where
        pub compared_alike_pre : AgainPre L S a₀ c₀ t₀ e → AlikePre L S a na t nt
        compared_alike_pre p = let w = some_rest p in remaining_alike_pre w.3 w.4 g en et

        module _ {r : Bool} (alike : AlikePost L S a na t nt r) where
          pub compared_differs : r ≡ false → AgainPost L S a₀ c₀ t₀ e None
          compared_differs i =
              record { is = λ b h us H k T. let w = compared.is b h us H k T in remaining_differs w.0 (something_left w.1 f) g en et alike i }

          pub compared_more : r ≡ true → Compared L S a₀ c₀ t₀ e na (same + 1) nt
          compared_more i =
              record {
                is = λ b h us H k T.
                    let w = compared.is b h us H k T in
                    let m = remaining_more w.0 (something_left w.1 f) g en et alike i in
                    (m.0, omega (arith, w.1, m.1));
              }
