-- The loop over the terms to the left of the one that holds a context's hole.
use Prim.Native.Nat.{ℕ, ◌+◌, ◌<◌, ◌≤◌}
use mathlib.Core.Path.{◌≡◌, ap}
use mathlib.Core.Logic.{◌≢◌}
use mathlib.Core.Bool.{Bool, true, false}
use mathlib.Core.List.{List}
use lib.ListN.{length, get_or}
use native.Mathlib.Omega.{arith}
use native.Mathlib.Decide.{dec_lt}
use Rattle.meaning.specs.Forest.{Forest, none, rows}
use Rattle.tree.specs.Places.{TermsAt, Next}
use Rattle.tree.proofs.Terms.{terms_le, terms_rows, term_next, none_at, first_at}
use Rattle.compare.proofs.Remaining.{Remaining, remaining_first, remaining_none, remaining_end, others_first, remaining_alike_pre, remaining_differs, remaining_more}
use Rattle.compare.specs.Appear.{AlikePre, AlikePost, Before, LeftPre, LeftPost}
use Rattle.std.specs.Prelude.{Some, None}

-- left: the terms up to the one that holds the row b
pub record Beside (L S : List ℕ) (a₀ b t₀ e a t : ℕ) : Type 0 where
  pub is : (u : ℕ) (left us : Forest) → Before L S a₀ u b left → TermsAt L S t₀ e us → Remaining L S a u t e t₀ left us

pub beside_first : {L S : List ℕ} {a b t e : ℕ} → Beside L S a b t e a t
beside_first = record { is = λ u left us B T. remaining_first B.before T }

module _ {L S : List ℕ} {a₀ b t₀ e a t : ℕ} (beside : Beside L S a₀ b t₀ e a t) where
  some_beside : (p : LeftPre L S a₀ b t₀ e) → Remaining L S a p.here.0 t e t₀ p.here.1 p.tree.0
  some_beside p = beside.is p.here.0 p.here.1 p.tree.0 p.here.2 p.tree.1

  pub beside_row : LeftPre L S a₀ b t₀ e → Next L S a
  beside_row p =
      let w = some_beside p in
      elim (dec_lt a p.here.0) [
        | yes z ↦ term_next (first_at w.here z).first
        | no z ↦ let y : a ≡ p.here.0 = omega (arith, terms_le w.here) in rw y p.here.2.there
      ]

  module _ {na : ℕ} (en : na ≡ a + get_or S a 0) where
    pub beside_all : b < na → LeftPost L S a₀ b t₀ e (Some t)
    beside_all h =
        record {
          is = λ u left us B T.
              let w = beside.is u left us B T in
              remaining_none w (none_at w.here (elim (dec_lt a u) [ yes z ↦ absurd (omega (arith, (first_at w.here z).ends, B.low)) | no z ↦ omega arith ]));
        }

    module _ (h : na ≤ b) where
      some_more : {u : ℕ} {left us : Forest} → Before L S a₀ u b left → (w : Remaining L S a u t e t₀ left us) → w.mine ≢ none
      unfolding rows
      some_more {u} B w z =
          let y : a ≡ u = omega (arith, terms_rows w.here, ap rows z) in
          omega (arith, B.high, ap (λ (i : ℕ). get_or S i 0) y)

      pub beside_end : t ≡ e → LeftPost L S a₀ b t₀ e None
      beside_end z = record { is = λ u left us B T. let w = beside.is u left us B T in remaining_end w (some_more B w) z }

      module _ (g : t ≢ e) where
        pub beside_there : LeftPre L S a₀ b t₀ e → t < length S
        beside_there p = let w = some_beside p in (term_next (others_first w (some_more p.here.2 w) g).first).sized

        module _ {nt : ℕ} (et : nt ≡ t + get_or S t 0) where
          pub beside_alike_pre : LeftPre L S a₀ b t₀ e → AlikePre L S a na t nt
          beside_alike_pre p = let w = some_beside p in remaining_alike_pre w (some_more p.here.2 w) g en et

          module _ {r : Bool} (alike : AlikePost L S a na t nt r) where
            pub beside_differs : r ≡ false → LeftPost L S a₀ b t₀ e None
            beside_differs i =
                record { is = λ u left us B T. let w = beside.is u left us B T in remaining_differs w (some_more B w) g en et alike i }

            pub beside_more : r ≡ true → Beside L S a₀ b t₀ e na nt
            beside_more i = record { is = λ u left us B T. let w = beside.is u left us B T in (remaining_more w (some_more B w) g en et alike i).0 }
