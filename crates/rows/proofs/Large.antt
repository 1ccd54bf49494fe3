-- A document of which a pass has come to too many rows, or to one that is too deep, is beyond the limits.
use mathlib.Core.Path.{◌≡◌, sym, ap, ◌∙◌}
use mathlib.Core.Bool.{Bool, true, false, cond}
use mathlib.Core.List.{List, [], ◌∷◌, ◌++◌}
use Prim.Native.Nat.{ℕ, suc, ◌+◌, ◌≤◌, ◌<◌, max}
use native.Mathlib.Omega.{arith}
use lib.ListN.{length, get_or, length-append}
use Rattle.grammar.specs.Grammar.{Bytes, ε, Content, nothing, empty_element, element}
use Rattle.grammar.specs.Rows.{inked, #, width, Row, row, leaf_row, rows_from, rows_of, of_element, of_text}
use Rattle.grammar.specs.Machine.{Open, State, At}
use Rattle.grammar.proofs.Trees.{leaf_rows, content_rows, content_depth, shape_rows, shape_depth}
use Rattle.grammar.proofs.Rows.{All, all_at}
use Rattle.grammar.proofs.Positions.{off_o}
use Rattle.grammar.proofs.Emitted.{leaf_on, named_on, rows_on, rows_o, at_run, rows_s, emitted, prefix_next, rows_same}
use Rattle.judge.proofs.Judging.{rows_o as count_o}
use Rattle.rows.specs.Notes.{TooLarge}

abbrev pub no_row : Row
no_row = row of_text 0 0 ε

-- HOW MANY ROWS
pub leaf_count : (R : List Row) (k a : ℕ) (t : Bytes) → length (leaf_on R k a t) ≡ length R + leaf_rows t
unfolding leaf_on leaf_rows
leaf_count R k a t = go (inked t)
  where
    go : (y : Bool) → length (cond y (R ++ (row of_text k a t ∷ [])) R) ≡ length R + cond y 1 0
    go true = length-append R (row of_text k a t ∷ [])
    go false = omega arith

named_count : (R : List Row) (k a : ℕ) (t n : Bytes) → length (named_on R k a t n) ≡ length R + leaf_rows t + 1
unfolding named_on
named_count R k a t n = length-append (leaf_on R k a t) (row of_element k (a + # t + 1) n ∷ []) ∙ omega (arith, leaf_count R k a t)

on_count : (R : List Row) (k a : ℕ) (f : Content) → length (rows_on R k a f) ≡ length R + content_rows f
unfolding rows_on content_rows
on_count R k a nothing = omega arith
on_count R k a (empty_element f t n g) = named_count (rows_on R k a f) k (a + width f) t n ∙ omega (arith, on_count R k a f)
on_count R k a (element f t n g i l h) =
    leaf_count _ (suc k) (a + width f + # t + 1 + # n + # g + 1 + width i) l
    ∙ omega (arith, on_count (named_on (rows_on R k a f) k (a + width f) t n) (suc k) (a + width f + # t + 1 + # n + # g + 1) i, named_count (rows_on R k a f) k (a + width f) t n, on_count R k a f)

pub rows_count : (f : Content) → length (rows_of f) ≡ content_rows f
rows_count f = ap length (sym (rows_same f)) ∙ on_count [] 1 0 f ∙ omega arith

open_count : (o : List Open) → length (rows_o o) ≡ count_o o
unfolding rows_o count_o
open_count [] = omega arith
open_count (p ∷ o) =
    named_count (rows_on (rows_o o) (suc (length o)) (off_o o) p.before) (suc (length o)) (off_o o + width p.before) p.run p.name
    ∙ omega (arith, on_count (rows_o o) (suc (length o)) (off_o o) p.before, open_count o)

pub run_count : (o : List Open) (f : Content) → length (at_run o f) ≡ count_o o + content_rows f
run_count o f = on_count (rows_o o) (suc (length o)) (off_o o) f ∙ omega (arith, open_count o)

-- NO ROW IS DEEPER THAN THE TREE
abbrev Within : ℕ → Row → Type 0
Within d x = x.depth ≤ d

leaf_within : (d k a : ℕ) (t : Bytes) (R : List Row) → k ≤ d → All (Within d) R → All (Within d) (leaf_row k a t R)
leaf_within d k a t R p h = go (inked t)
  where
    go : (y : Bool) → All (Within d) (cond y (row of_text k a t ∷ R) R)
    go true = (p, h)
    go false = h

last_within : (d k a c : ℕ) (t : Bytes) (R : List Row) → k + suc (max c (leaf_rows t)) ≤ suc d → All (Within d) R → All (Within d) (leaf_row (suc k) a t R)
unfolding leaf_rows
last_within d k a c t R p h = go (inked t) p
  where
    go : (y : Bool) → k + suc (max c (cond y 1 0)) ≤ suc d → All (Within d) (cond y (row of_text (suc k) a t ∷ R) R)
    go true q = (omega (arith, q), h)
    go false q = h

rows_within : (d k a : ℕ) (f : Content) (R : List Row) → k + content_depth f ≤ suc d → All (Within d) R → All (Within d) (rows_from k a f R)
unfolding content_depth rows_from
rows_within d k a nothing R p h = h
rows_within d k a (empty_element f t n g) R p h =
    let q : k ≤ d = omega (arith, p) in
    rows_within d k a f _ (omega (arith, p)) (leaf_within d k (a + width f) t _ q (q, h))
rows_within d k a (element f t n g i l j) R p h =
    let q : k ≤ d = omega (arith, p) in
    rows_within d k a f _ (omega (arith, p)) (leaf_within d k (a + width f) t _ q
    (q, rows_within d (suc k) _ i _ (omega (arith, p)) (last_within d k _ (content_depth i) l R (omega (arith, p)) h)))

row_within : (f : Content) (j : ℕ) → j < length (rows_of f) → (get_or (rows_of f) j no_row).depth ≤ content_depth f
row_within f j h = all_at (Within (content_depth f)) (rows_of f) no_row (rows_within (content_depth f) 1 0 f [] (omega arith) tt) j h

-- WHAT A PASS HAS COME TO
module _ {w : List ℕ} {j : ℕ} {z : State} (at : At w j z) where
  pub too_many : 2048 < length (rows_s z) → TooLarge w
  too_many h f t d shallow few =
      let p = emitted d at in
      omega (arith, h, few, ap length p.is, length-append (rows_s z) p.rest, rows_count f, shape_rows f)

  pub too_deep : (R : List Row) (x : Row) → rows_s z ≡ R ++ (x ∷ []) → 64 < x.depth → TooLarge w
  too_deep R x e h f t d shallow few =
      let q = prefix_next R (rows_of f) x no_row (rw e at (emitted d at)) in
      let y : x.depth ≤ content_depth f = rw q.1 at (row_within f (length R) q.0) in
      omega (arith, y, h, shallow, shape_depth f)
