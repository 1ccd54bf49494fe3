-- One level of a context against a term.
use Prim.Native.Nat.{ℕ, ◌+◌, ◌-◌, ◌<◌}
use mathlib.Core.Path.{◌≡◌, ap, ◌∙◌, sym}
use mathlib.Core.Logic.{◌≢◌}
use mathlib.Core.Bool.{Bool, true, false}
use mathlib.Core.List.{List}
use lib.ListN.{length, get_or}
use native.Mathlib.Omega.{arith}
use Rattle.meaning.specs.Forest.{Forest, none, some, Term, term, ◌◂◌, rows, terms, ◌⊕◌, hole, node, plug, hole_row}
use Rattle.meaning.specs.Read.{take_t}
use Rattle.meaning.proofs.Laws.{drop_t, take_drop, take_of, drop_of}
use Rattle.tree.specs.Places.{TermsAt, TermAt, Next}
use Rattle.tree.proofs.Terms.{terms_le, terms_rows, term_next, term_size, none_at, first_at}
use Rattle.meaning.proofs.Answers.{said_no}
use Rattle.compare.proofs.Remaining.{another_of, again_of}
use Rattle.compare.specs.Appear.{AlikePre, AlikePost, misfit, fitting, Before, LeftPre, LeftPost, LevelAt, LevelPre, LevelPost}
use Rattle.std.specs.Prelude.{Some, None}

-- the arguments of a term that the level fits
fits_args : {l m : ℕ} (left right : Forest) {us : Forest} (U : Term) → plug (node l left hole right) U ≡ term m us → (l ≡ m) × (left ⊕ (U ◂ right) ≡ us)
unfolding plug
fits_args left right U e = (ap (λ (T : Term). T.label) e, ap (λ (T : Term). T.args) e)

args_fit : {l m : ℕ} (left right : Forest) {us : Forest} (U : Term) → l ≡ m → left ⊕ (U ◂ right) ≡ us → plug (node l left hole right) U ≡ term m us
unfolding plug
args_fit left right U e f = cc

pub same_behind : (left : Forest) (U W : Term) (right rest : Forest) → left ⊕ (U ◂ right) ≡ left ⊕ (W ◂ rest) → (U ≡ W) × (right ≡ rest)
same_behind left U W right rest e =
    let z : U ◂ right ≡ W ◂ rest = sym (drop_of left (U ◂ right)) ∙ ap (drop_t (terms left)) e ∙ drop_of left (W ◂ rest) in
    let l : U.label ≡ W.label = cc in
    let a : U.args ≡ W.args = cc in
    (ap (λ (f : ℕ). term f U.args) l ∙ ap (λ (f : Forest). term W.label f) a, cc)

args_at : {L S : List ℕ} {t e m : ℕ} {us : Forest} → e ≡ t + get_or S t 0 → TermAt L S t m us → TermsAt L S (t + 1) e us
args_at ee T = rw (term_size T, sym ee) at T.inner

left_before : {L S : List ℕ} {a u b l : ℕ} {left right : Forest} → LevelAt L S a u b l left right → Before L S (a + 1) u b left
left_before d = record { before = d.level.before; there = d.level.there; low = d.low; high = d.high }

module _ {L S : List ℕ} {a b t : ℕ} where
  pub level_rows : LevelPre L S a b t → Next L S a × Next L S t
  level_rows p = (p.here.4.level.here, term_next p.there.2)

  module _ {e : ℕ} (ee : e ≡ t + get_or S t 0) where
    pub level_left_pre : LevelPre L S a b t → LeftPre L S (a + 1) b (t + 1) e
    level_left_pre p = record { here = (p.here.0, p.here.2, left_before p.here.4); tree = (p.there.1, args_at ee p.there.2) }

    pub level_differ : LeftPost L S (a + 1) b (t + 1) e None → LevelPost L S a b t None
    level_differ beside =
        record {
          is = λ u l left right m us d T.
              misfit λ U h.
              another_of (beside.is u left us (left_before d) (args_at ee T)) (sym (take_of left (U ◂ right)) ∙ ap (take_t (terms left)) (fits_args left right U h).1);
        }

    module _ {v : ℕ} (beside : LeftPost L S (a + 1) b (t + 1) e (Some v)) where
      -- the term has the level's left part
      begun : {u l m : ℕ} {left right us : Forest} → LevelAt L S a u b l left right → TermAt L S t m us
          → (left ≡ take_t (terms left) us) × TermsAt L S (t + 1) v (take_t (terms left) us) × TermsAt L S v e (drop_t (terms left) us)
      begun {u = u} {left = left} {us = us} d T = again_of (beside.is u left us (left_before d) (args_at ee T))

      pub level_none : v ≡ e → LevelPost L S a b t None
      unfolding terms
      level_none f =
          record {
            is = λ u l left right m us d T.
                misfit λ U h.
                let z : U ◂ right ≡ none = sym (drop_of left (U ◂ right)) ∙ ap (drop_t (terms left)) (fits_args left right U h).1 ∙ none_at (begun d T).2 (omega arith) in
                absurd (omega (arith, ap terms z));
          }

      module _ (f : v ≢ e) where
        -- and a term where the child would be
        child : {u l m : ℕ} {left right us : Forest} → LevelAt L S a u b l left right → TermAt L S t m us
            → (W : Term) × (rest : Forest) × (left ⊕ (W ◂ rest) ≡ us) × TermAt L S v W.label W.args × TermsAt L S (v + get_or S v 0) e rest
        child {left = left} {us = us} d T =
            let y = begun d T in
            let x = first_at y.2 (omega (arith, terms_le y.2)) in
            let z : left ⊕ (some x.label x.args x.rest) ≡ us =
            ap (λ (h : Forest). h ⊕ some x.label x.args x.rest) y.0 ∙ ap (λ (h : Forest). take_t (terms left) us ⊕ h) (sym x.is) ∙ take_drop (terms left) us
            in
            (term x.label x.args, x.rest, z, x.first, x.others)

        place : {u l m : ℕ} {left right us : Forest} → LevelAt L S a u b l left right → TermAt L S t m us → (u ≡ a + (v - t)) × (t < v)
        place d T =
            let y = begun d T in
            let i = terms_le y.1 in
            (omega (arith, terms_rows y.1, ap rows y.0, terms_rows d.level.before), omega arith)

        pub level_places : LevelPre L S a b t → (t < v) × (a + (v - t) < length S) × (v < length S)
        level_places p =
            let z = place p.here.4 p.there.2 in
            let n = p.here.4.level.there in
            (z.1, omega (arith, z.0, n.sized), (term_next (child p.here.4 p.there.2).3).sized)

        module _ {nu na nv : ℕ} (eu : nu ≡ a + (v - t) + get_or S (a + (v - t)) 0) (ea : na ≡ a + get_or S a 0) (en : nv ≡ v + get_or S v 0) where
          behind : {u l m : ℕ} {left right us : Forest} → LevelAt L S a u b l left right → TermAt L S t m us → TermsAt L S nu na right
          behind {u = u} d T =
              let z : nu ≡ u + get_or S u 0 = eu ∙ ap (λ (i : ℕ). i + get_or S i 0) (sym (place d T).0) in
              rw (z, ea) d.level.after

          pub level_alike_pre : LevelPre L S a b t → AlikePre L S nu na nv e
          level_alike_pre p =
              let c = child p.here.4 p.there.2 in
              record { here = (p.here.3, behind p.here.4 p.there.2); there = (c.1, rw en c.4) }

          module _ {s : Bool} (alike : AlikePost L S nu na nv e s) where
            pub level_at : get_or L a 0 ≡ get_or L t 0 → s ≡ true → LevelPost L S a b t (Some v)
            unfolding hole_row
            level_at label i =
                record {
                  is = λ u l left right m us d T.
                      let c = child d T in
                      let h = (alike.is right c.1 (behind d T) (rw en c.4)).0 i in
                      fitting {h = v} c.0
                      (args_fit left right c.0 (omega (arith, d.level.label, T.row.label)) (ap (λ (r : Forest). left ⊕ (c.0 ◂ r)) h ∙ c.2))
                      (omega (arith, place d T, terms_rows d.level.before))
                      c.3;
                }

            pub level_right : s ≡ false → LevelPost L S a b t None
            level_right i =
                record {
                  is = λ u l left right m us d T.
                      misfit λ U h.
                      let c = child d T in
                      said_no (alike.is right c.1 (behind d T) (rw en c.4)) i (same_behind left U c.0 right c.1 ((fits_args left right U h).1 ∙ sym c.2)).1;
                }
