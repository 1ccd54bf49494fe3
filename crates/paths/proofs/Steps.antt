-- The rows of a path: where it goes on, and what is read of it.
use Prim.Native.Nat.{ℕ, ◌+◌, ◌<◌, ◌≤◌}
use mathlib.Core.Path.{◌≡◌, refl, ap, ◌∙◌, sym}
use mathlib.Core.Logic.{◌≢◌}
use mathlib.Core.Bool.{Bool}
use mathlib.Core.List.{List, [], ◌∷◌, ◌++◌, append_assoc, append-nil}
use lib.ListN.{length, get_or}
use native.Mathlib.Omega.{arith}
use Rattle.meaning.specs.Forest.{Forest, Context, node}
use Rattle.tree.specs.Places.{Next, ContextAt, at_hole, at_node}
use Rattle.tree.specs.Helpers.{ChildPre, HolderPre, HolderPost}
use Rattle.tree.proofs.Terms.{terms_le}
use Rattle.tree.proofs.Ways.{context_le, hole_here, a_node, ahead_first, ahead_next, ahead_more, ahead_found}
use Rattle.constraint.specs.Obeys.{path}
use Rattle.constraint.specs.Reading.{After}
use Rattle.paths.specs.Paths.{Through, From, ChildFromPre, ChildFromPost}
use Rattle.letters.specs.declared.Tables.{Tables}

-- what a context stands at
pub context_next : {L S : List ℕ} {a b : ℕ} {c : Context} → ContextAt L S a b c → Next L S a
context_next (at_hole n e) = n
context_next (at_node x p q k) = x.here

pub context_in : {L S : List ℕ} {a b : ℕ} {c : Context} → ContextAt L S a b c → (a ≤ b) × (b < a + get_or S a 0)
context_in (at_hole n e) = (omega arith, omega (arith, n.positive))
context_in (at_node x p q k) = let h = x.ends in (omega (arith, context_le (at_node x p q k)), omega arith)

-- and what fills its hole
pub context_hole : {L S : List ℕ} {a b : ℕ} {c : Context} → ContextAt L S a b c → Next L S b
context_hole (at_hole n e) = rw (sym e) n
context_hole (at_node x p q k) = context_hole k

-- the children of a row
pub from_first : (S : List ℕ) (r : ℕ) → From S r (r + 1)
from_first S r = record { is = λ b h. ahead_first S r b }

pub from_next : {S : List ℕ} {r u : ℕ} → From S r u → {e : ℕ} → e ≡ u + get_or S u 0 → From S r e
from_next {u = u} f is = record { is = λ b h. ahead_more (f.is b (omega arith)) is h }

-- where it is looked for from
pub record Looking (S : List ℕ) (row b u : ℕ) : Type 0 where
  pub from : From S row u
  pub low : u ≤ b

pub looks_on : {S : List ℕ} {row from b u : ℕ} → ChildFromPre S row from b → u ≡ from → from ≤ b → Looking S row b u
looks_on pre e h = rw e (record { from = pre.ahead; low = h })

pub looks_first : {S : List ℕ} {row from b u : ℕ} → ChildFromPre S row from b → u ≡ row + 1 → Looking S row b u
looks_first {S} {row} {b = b} pre e = rw e (record { from = from_first S row; low = omega (arith, ahead_next (ahead_first S row b) pre.below) })

pub looks_pre : {S : List ℕ} {row from b u : ℕ} → ChildFromPre S row from b → Looking S row b u → HolderPre S u b
looks_pre {row = row} {b = b} pre l = record { some = (row, pre.below, l.from.is b l.low) }

-- the child that holds b is u
pub child_found : {S : List ℕ} {row from b first u : ℕ} → ChildFromPre S row from b → Looking S row b first → HolderPost S first b u → ChildFromPost S row b u
child_found {S} {row} {u = u} pre l h =
    let f : From S row u = record { is = λ c low. h.passed row c low (l.from.is c (omega (arith, h.later))) } in
    let n = a_node pre.below.some.2 pre.below.below in
    let y = (ahead_found (f.is _ h.low) refl h.high).is _ _ _ _ _ n.4 in
    record {
      ahead = f;
      low = h.low;
      high = h.high;
      later = omega (arith, terms_le y.0.before);
      ends = y.0.ends;
    }

-- the rows that are looked at on the way to it
pub child_rows : {S : List ℕ} {r u b : ℕ} → ChildPre S r b → From S r u → u ≤ b → (u < length S) × (1 ≤ get_or S u 0) × (r < b) × (b < length S)
child_rows p f low = let n = ahead_next (f.is _ low) p in (n.0, n.2, n.4, n.3)

-- the path begins
pub through_first : {L S : List ℕ} {a : ℕ} → Through L S a a []
through_first = record { is = λ b c l h x. (c, x, refl) }

-- it goes on to a child
pub through_child : {L S : List ℕ} {a r u b : ℕ} {w : List ℕ} → Through L S a r w → ChildFromPost S r b u → Through L S a u (w ++ (get_or L r 0 ∷ []))
unfolding path
through_child {L} {S} {a} {r} {u} {w = w} t post =
    record {
      is = λ b c low high x.
          let d = t.is b c (omega (arith, post.later)) (omega (arith, post.ends)) x in
          let e = down d.0 d.1 (λ e. omega (arith, post.later)) in
          let y = (ahead_found (post.ahead.is b low) refl high).is L e.0 e.1 e.2 e.3 e.5 in
          (e.2, y.1, d.2 ∙ ap (λ (v : List ℕ). w ++ v) (e.4 ∙ ap (λ (l : ℕ). l ∷ path e.2) (sym y.0.label)) ∙ sym (append_assoc w (get_or L r 0 ∷ []) (path e.2)));
    }
  where
    -- a context that is no hole
    down : {b : ℕ} (d : Context) → ContextAt L S r b d → r ≢ b → (l : ℕ) × (left : Forest) × (c : Context) × (right : Forest) × (path d ≡ l ∷ path c) × ContextAt L S r b (node l left c right)
    down d (at_hole n e) f = absurd (f e)
    down d (at_node {l = l} {left = left} {right = right} {c = c} x p q k) f = (l, left, c, right, refl, at_node x p q k)

-- it is read whole where the row is the hole's
pub through_all : {L S : List ℕ} {tables : Tables} {root a b next : ℕ} {end : Bool} {w : List ℕ}
    → Through L S a b w → After tables root w next end → (c : Context) → ContextAt L S a b c → After tables root (path c) next end
unfolding path
through_all {b = b} {w = w} t after c x =
    let h = (context_hole x).positive in
    let d = t.is b c (omega arith) (omega arith) x in
    let e = hole_here d.1 refl in
    let z : path c ≡ w = d.2 ∙ ap (λ (v : Context). w ++ path v) e ∙ append-nil w in
    rw z after
