-- A whole context against a term, level by level.
use Prim.Native.Nat.{ℕ, ◌+◌, ◌-◌, ◌<◌, ◌≤◌}
use mathlib.Core.Path.{◌≡◌, refl, ap, ◌∙◌, sym, subst}
use mathlib.Core.Logic.{◌≢◌}
use mathlib.Core.List.{List}
use lib.ListN.{length, get_or}
use native.Mathlib.Omega.{arith}
use Rattle.meaning.specs.Forest.{Forest, Term, term, Context, hole, node, plug, hole_row}
use Rattle.tree.specs.Places.{TermAt, ContextAt, at_hole, at_node}
use Rattle.tree.proofs.Terms.{terms_rows, term_next}
use Rattle.tree.proofs.Ways.{hole_here}
use Rattle.compare.proofs.Levels.{same_behind}
use Rattle.compare.specs.Appear.{Fits, misfit, fitting, LevelAt, LevelPre, LevelPost, FitsPre, FitsPost}
use Rattle.std.specs.Prelude.{Some, None}

-- what is left of the comparison of c with T: the comparison of d, from row a on, with W, at row t
pub record Left (L S : List ℕ) (a b t t₀ : ℕ) (c : Context) (T : Term) : Type 0 where
  pub inner : Context
  pub part : Term
  pub here : ContextAt L S a b inner
  pub there : TermAt L S t part.label part.args
  pub hole_row_lem : t + hole_row inner ≡ t₀ + hole_row c
  pub back : (U : Term) → plug inner U ≡ part → plug c U ≡ T
  pub forth : (U : Term) → plug c U ≡ T → plug inner U ≡ part

pub record Fitted (L S : List ℕ) (a₀ b t₀ a t : ℕ) : Type 0 where
  pub is : (c : Context) (m : ℕ) (us : Forest) → ContextAt L S a₀ b c → TermAt L S t₀ m us → Left L S a b t t₀ c (term m us)

pub fitted_first : {L S : List ℕ} {a b t : ℕ} → Fitted L S a b t a t
fitted_first = record { is = λ c m us x T. record { inner = c; part = term m us; here = x; there = T; hole_row_lem = refl; back = λ U e. e; forth = λ U e. e } }

-- the context in the child of a level
under : (l : ℕ) (left : Forest) (c : Context) (right : Forest) (U : Term) → plug (node l left c right) U ≡ plug (node l left hole right) (plug c U)
unfolding plug
under l left c right U = refl

node_label : (l : ℕ) (left : Forest) (c : Context) (right : Forest) (U : Term) → l ≡ (plug (node l left c right) U).label
unfolding plug
node_label l left c right U = refl

same_child : (l : ℕ) (left right : Forest) (U W : Term) → plug (node l left hole right) U ≡ plug (node l left hole right) W → U ≡ W
unfolding plug
same_child l left right U W e = (same_behind left U W right right (ap (λ (T : Term). T.args) e)).0

hole_under : (l : ℕ) (left : Forest) (c : Context) (right : Forest) (t : ℕ) → t + hole_row (node l left hole right) + hole_row c ≡ t + hole_row (node l left c right)
unfolding hole_row
hole_under l left c right t = omega arith

-- a context that is more than its hole: its first level, and the context below it
record Node (L S : List ℕ) (a b : ℕ) (c : Context) : Type 0 where
  row : ℕ
  label : ℕ
  left : Forest
  inner : Context
  right : Forest
  is : c ≡ node label left inner right
  level : LevelAt L S a row b label left right
  below : ContextAt L S row b inner

as_node : {L S : List ℕ} {a b : ℕ} {c : Context} → ContextAt L S a b c → a ≢ b → Node L S a b c
as_node (at_hole n e) f = absurd (f e)
as_node (at_node {l = l} {u = u} {left = left} {right = right} {c = d} x p q k) f =
    record { row = u; label = l; left = left; inner = d; right = right; is = refl; level = record { level = x; low = p; high = q }; below = k }

context_row : {L S : List ℕ} {a b : ℕ} {c : Context} → ContextAt L S a b c → a < length L
context_row (at_hole n e) = n.labelled
context_row (at_node x p q k) = x.here.labelled

at_fits : {L S : List ℕ} {t h : ℕ} {c : Context} {T : Term} → Fits L S t c T (Some h) → (U : Term) × (plug c U ≡ T) × (h ≡ t + hole_row c) × TermAt L S h U.label U.args
at_fits (fitting U e r T) = (U, e, r, T)

fail_fits : {L S : List ℕ} {t : ℕ} {c : Context} {T : Term} → Fits L S t c T None → (U : Term) → plug c U ≢ T
fail_fits (misfit n) = n

module _ {L S : List ℕ} {a₀ b t₀ a t : ℕ} (fitted : Fitted L S a₀ b t₀ a t) where
  whole : (p : FitsPre L S a₀ b t₀) → Left L S a b t t₀ p.here.0 (term p.there.0 p.there.1)
  whole p = fitted.is p.here.0 p.there.0 p.there.1 p.here.1 p.there.2

  pub fitted_done : a ≡ b → FitsPost L S a₀ b t₀ (Some t)
  unfolding plug hole_row
  fitted_done e =
      record {
        is = λ c m us x T.
            let w = fitted.is c m us x T in
            let h = hole_here w.here e in
            fitting {h = t} w.part (w.back w.part (ap (λ (d : Context). plug d w.part) h)) (omega (arith, w.hole_row_lem, ap hole_row h)) w.there;
      }

  pub fitted_rows : FitsPre L S a₀ b t₀ → (a < length L) × (t < length L)
  fitted_rows p = (context_row (whole p).here, (term_next (whole p).there).labelled)

  pub fitted_labels : {x y : ℕ} → a ≢ b → x ≡ get_or L a 0 → y ≡ get_or L t 0 → x ≢ y → FitsPost L S a₀ b t₀ None
  fitted_labels f ex ey g =
      record {
        is = λ c m us x T.
            let w = fitted.is c m us x T in
            let n = as_node w.here f in
            misfit λ U e.
            let z = node_label n.label n.left n.inner n.right U ∙ ap (λ (W : Term). W.label) (ap (λ (d : Context). plug d U) (sym n.is) ∙ w.forth U e) in
            g (omega (arith, z, n.level.level.label, w.there.row.label));
      }

  module _ (f : a ≢ b) where
    pub fitted_level_pre : {x y : ℕ} → x ≡ get_or L a 0 → y ≡ get_or L t 0 → x ≡ y → FitsPre L S a₀ b t₀ → LevelPre L S a b t
    fitted_level_pre ex ey label p =
        let w = whole p in
        let n = as_node w.here f in
        record { label = omega arith; here = (n.row, n.label, n.left, n.right, n.level); there = (w.part.label, w.part.args, w.there) }

    pub fitted_fails : LevelPost L S a b t None → FitsPost L S a₀ b t₀ None
    fitted_fails level =
        record {
          is = λ c m us x T.
              let w = fitted.is c m us x T in
              let n = as_node w.here f in
              let y = fail_fits (level.is _ _ _ _ _ _ n.level w.there) in
              misfit λ U e. y (plug n.inner U) (sym (under n.label n.left n.inner n.right U) ∙ ap (λ (d : Context). plug d U) (sym n.is) ∙ w.forth U e);
        }

    module _ {v : ℕ} (level : LevelPost L S a b t (Some v)) where
      -- the term for the child, and where the child is
      next_part : {c : Context} {T : Term} (w : Left L S a b t t₀ c T) (n : Node L S a b w.inner)
          → (U : Term) × (plug (node n.label n.left hole n.right) U ≡ w.part) × (v ≡ t + hole_row (node n.label n.left hole n.right)) × TermAt L S v U.label U.args
      next_part w n = at_fits (level.is _ _ _ _ _ _ n.level w.there)

      next_row : {c : Context} {T : Term} (w : Left L S a b t t₀ c T) (n : Node L S a b w.inner) → (n.row ≡ a + (v - t)) × (t < v) × (n.row ≤ b)
      unfolding hole_row
      next_row w n = omega (arith, (next_part w n).2, terms_rows n.level.level.before, n.level.low)

      pub fitted_less : FitsPre L S a₀ b t₀ → (t < v) × (a + (v - t) ≤ b)
      fitted_less p =
          let w = whole p in
          let r = next_row w (as_node w.here f) in
          (r.1, omega arith)

      pub fitted_more : Fitted L S a₀ b t₀ (a + (v - t)) v
      fitted_more =
          record {
            is = λ c m us x T.
                let w = fitted.is c m us x T in
                let n = as_node w.here f in
                let y = next_part w n in
                let same : (U : Term) → plug w.inner U ≡ plug (node n.label n.left hole n.right) (plug n.inner U) =
                λ U. ap (λ (d : Context). plug d U) n.is ∙ under n.label n.left n.inner n.right U
                in
                record {
                  inner = n.inner;
                  part = y.0;
                  here = subst (λ (r : ℕ). ContextAt L S r b n.inner) (next_row w n).0 n.below;
                  there = y.3;
                  hole_row_lem = omega (arith, hole_under n.label n.left n.inner n.right t, y.2, ap hole_row n.is, w.hole_row_lem);
                  back = λ U e. w.back U (same U ∙ ap (plug (node n.label n.left hole n.right)) e ∙ y.1);
                  forth = λ U e. same_child n.label n.left n.right (plug n.inner U) y.0 (sym (same U) ∙ w.forth U e ∙ sym y.1);
                };
          }
