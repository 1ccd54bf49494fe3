-- The loops that go down to a row: to the child that holds it, and to the list in which it stands.
use Prim.Native.Nat.{ℕ, suc, ◌+◌, ◌<◌, ◌≤◌}
use mathlib.Core.Path.{◌≡◌, refl, ap, ◌∙◌, sym, subst}
use mathlib.Core.Logic.{◌≢◌}
use mathlib.Core.List.{List}
use lib.ListN.{length, get_or}
use native.Mathlib.Omega.{arith}
use native.Mathlib.Decide.{dec_lt}
use Rattle.meaning.specs.Forest.{Forest, rows, Context, hole, node}
use Rattle.meaning.specs.Read.{forest_from_row}
use Rattle.meaning.proofs.From.{from_zero}
use Rattle.tree.specs.Places.{TermsAt, Next, Level, ContextAt, at_hole, at_node}
use Rattle.tree.specs.Helpers.{Child, Ahead, ChildPre, ChildPost, ListPre, ListPost}
use Rattle.tree.proofs.Terms.{terms_le, term_next, term_size, first_at}
use Rattle.tree.proofs.Cuts.{from_inside, from_behind}

pub context_le : {L S : List ℕ} {a b : ℕ} {c : Context} → ContextAt L S a b c → a ≤ b
context_le (at_hole n h) = omega arith
context_le (at_node x p q k) = omega (arith, terms_le x.before)

-- the hole at the context's own row: the bare hole
pub hole_here : {L S : List ℕ} {a b : ℕ} {c : Context} → ContextAt L S a b c → a ≡ b → c ≡ hole
hole_here (at_hole n e) h = refl
hole_here (at_node x p q k) h = absurd (omega (arith, terms_le x.before))

pub a_node : {L S : List ℕ} {a b : ℕ} {c : Context} → ContextAt L S a b c → a ≢ b → (l : ℕ) × (left : Forest) × (d : Context) × (right : Forest) × ContextAt L S a b (node l left d right)
a_node (at_hole n e) f = absurd (f e)
a_node (at_node {l = l} {left = left} {right = right} {c = d} x p q k) f = (l, left, d, right, at_node x p q k)

pub ahead_first : (S : List ℕ) (a b : ℕ) → Ahead S a b (a + 1)
ahead_first S a b = record { is = go }
  where
    go : (L : List ℕ) (l : ℕ) (left : Forest) (c : Context) (right : Forest) → ContextAt L S a b (node l left c right) → Child L S a b (a + 1) l left c right
    go L l left c right (at_node {u = u} x p q k) =
        record { at = u; between = left; level = x; inner = k; low = p; high = q; before = x.before }

module _ {S : List ℕ} {a b u : ℕ} (ahead : Ahead S a b u) where
  pub ahead_next : ChildPre S a b → (u < length S) × (u ≤ b) × (1 ≤ get_or S u 0) × (b < length S) × (a < b)
  ahead_next p =
      let n = a_node p.some.2 p.below in
      let w = ahead.is _ _ _ _ _ n.4 in
      let d = terms_le w.before in
      let e = terms_le w.level.before in
      let f = w.level.there in
      (omega arith, omega arith, pick w.at w.before f (dec_lt u w.at), omega arith, omega arith)
    where
      pick : {L : List ℕ} (w : ℕ) {v : Forest} → TermsAt L S u w v → Next L S w → Dec (u < w) → 1 ≤ get_or S u 0
      pick w h f (yes y) = (term_next (first_at h y).first).positive
      pick w h f (no y) =
          let e : u ≡ w = omega (arith, terms_le h) in
          rw e f.positive

  module _ {e : ℕ} (is : e ≡ u + get_or S u 0) where
    pub ahead_more : e ≤ b → Ahead S a b e
    ahead_more f =
        record {
          is = λ L l left c right x.
              let w = ahead.is L l left c right x in
              let n : u < w.at = pick w.at (terms_le w.before) w.high (dec_lt u w.at) in
              let v = first_at w.before n in
              record {
                at = w.at;
                between = v.rest;
                level = w.level;
                inner = w.inner;
                low = w.low;
                high = w.high;
                before = subst (λ (i : ℕ). TermsAt L S i w.at v.rest) (sym is) v.others;
              };
        }
      where
        pick : (w : ℕ) → u ≤ w → b < w + get_or S w 0 → Dec (u < w) → u < w
        pick w p q (yes y) = y
        pick w p q (no y) =
            let z : u ≡ w = omega arith in
            absurd (omega (arith, rw (sym z) at q))

    pub ahead_found : b < e → ChildPost S a b u
    ahead_found f =
        record {
          is = λ L l left c right x.
              let w = ahead.is L l left c right x in
              let z : w.at ≡ u = pick w.at w.between w.before w.low (dec_lt u w.at) in
              (subst (λ (i : ℕ). Level L S a i l left right) z w.level, subst (λ (i : ℕ). ContextAt L S i b c) z w.inner);
        }
      where
        pick : {L : List ℕ} (w : ℕ) (v : Forest) → TermsAt L S u w v → w ≤ b → Dec (u < w) → w ≡ u
        pick w v h p (yes y) = absurd (omega (arith, (first_at h y).ends))
        pick w v h p (no y) = omega (arith, terms_le h)

-- the list in which the row stands: the row is in the sequence from u up to e, which shows what stands there
pub record Down (S : List ℕ) (row u e : ℕ) : Type 0 where
  pub low : u ≤ row
  pub high : row < e
  pub is : (L : List ℕ) (f : Forest) → TermsAt L S 0 (length S) f → (g : Forest) × TermsAt L S u e g × ((d : ℕ) → u + d ≡ row → forest_from_row f row ≡ forest_from_row g d)

pub down_first : {S : List ℕ} {row : ℕ} → ListPre S row → Down S row 0 (length S)
down_first {row = row} p =
    record {
      low = omega arith;
      high = p.inside;
      is = λ L f h. (f, h, λ d q. let z : row ≡ d = omega arith in ap (forest_from_row f) z);
    }

module _ {S : List ℕ} {row u e : ℕ} (down : Down S row u e) where
  pub down_next : ListPre S row → (u < length S) × (1 ≤ get_or S u 0) × (u + get_or S u 0 ≤ length S)
  down_next p =
      let w = down.is _ _ p.some.2 in
      let n = term_next (first_at w.1 (omega (arith, down.low, down.high))).first in
      (n.sized, n.positive, n.in_sizes)

  pub down_found : u ≡ row → ListPost S row e
  down_found z =
      record {
        later = down.high;
        is = λ L f h.
            let w = down.is L f h in
            let q = w.2 0 (omega arith) ∙ from_zero w.0 in
            rw q (rw z at w.1);
      }

  module _ {a : ℕ} (before : u ≢ row) (is : a ≡ u + get_or S u 0) where
    pub down_inside : row < a → Down S row (u + 1) a
    down_inside b =
        record {
          low = omega (arith, down.low);
          high = b;
          is = λ L f h.
              let w = down.is L f h in
              let x = first_at w.1 (omega (arith, down.low, down.high)) in
              let z : u + suc (rows x.args) ≡ a = term_size x.first ∙ sym is in (
                x.args,
                rw z at x.first.inner,
                λ d q. w.2 (suc d) (omega arith) ∙ ap (λ (g : Forest). forest_from_row g (suc d)) x.is ∙ from_inside x.label x.args x.rest d (omega arith),
              );
        }

    pub down_behind : a ≤ row → Down S row a e
    down_behind b =
        record {
          low = b;
          high = down.high;
          is = λ L f h.
              let w = down.is L f h in
              let x = first_at w.1 (omega (arith, down.low, down.high)) in
              let z : u + suc (rows x.args) ≡ a = term_size x.first ∙ sym is in (
                x.rest,
                subst (λ (i : ℕ). TermsAt L S i e x.rest) (sym is) x.others,
                λ d q. w.2 (suc (rows x.args + d)) (omega arith) ∙ ap (λ (g : Forest). forest_from_row g (suc (rows x.args + d))) x.is ∙ from_behind x.label x.args x.rest d,
              );
        }
