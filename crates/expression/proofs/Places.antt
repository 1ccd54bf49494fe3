-- Where top-level expressions start: a walk over the sizes from one to the next meets exactly their first rows.
use mathlib.Core.Path.{◌≡◌, refl, sym, ap, ◌∙◌, subst}
use mathlib.Core.List.{List, [], ◌∷◌, ◌++◌, append_assoc}
use Prim.Native.Nat.{ℕ, ◌+◌, ◌≤◌, ◌<◌}
use native.Mathlib.Omega.{arith}
use native.Mathlib.Nat.{add_assoc, add-zero, zero-add}
use lib.ListN.{length, get_or}
use lib.Seq.{get_or-append-add}
use Rattle.expression.specs.Expression.{Expression, symbol, empty, concatenation, choice, repetition}
use Rattle.expression.specs.Rows.{GoodTable, StartsAt}
use Rattle.expression.specs.Columns.{rows, preorder, size_rows}
use Rattle.expression.proofs.Columns.{table_long}
use Rattle.expression.proofs.Placed.{rows_positive, rows_many, total, all_many, Placed, Laid}
use Rattle.expression.proofs.Tables.{PlacedIn, kind_length, good_laid}
use Rattle.expression.specs.Rule.{number_at}

pub place_total : {es : List Expression} {e : Expression} {row : ℕ} (s : StartsAt es e row) → row ≡ total s.before
place_total s = s.place ∙ table_long s.before ∙ all_many rows s.before

pub total_append : (ds es : List Expression) → total (ds ++ es) ≡ total ds + total es
total_append [] es = sym (zero-add (total es))
total_append (d ∷ ds) es = omega (arith, total_append ds es)

pub start_in : {es : List Expression} {e : Expression} {row : ℕ} → StartsAt es e row → row + rows e ≤ total es
start_in {es} {e} s = omega (arith, place_total s, ap total s.among, total_append s.before (e ∷ s.behind))

-- ---- the walk

-- the walk has come to the end of some of the expressions
pub record Walked (es : List Expression) (row : ℕ) : Type 0 where
  pub passed : List Expression
  pub left : List Expression
  pub among : es ≡ passed ++ left
  pub place : row ≡ total passed

pub walk_begins : (es : List Expression) → Walked es 0
walk_begins es = record { passed = []; left = es; among = refl; place = refl }

pub walk_meets : {es : List Expression} {row : ℕ} → Walked es row → row < total es → (e : Expression) × StartsAt es e row
walk_meets {es} {row} w h = go w.left w.among
  where
    go : (left : List Expression) → es ≡ w.passed ++ left → (e : Expression) × StartsAt es e row
    go [] q = absurd (omega (arith, ap total q, total_append w.passed [], w.place))
    go (e ∷ left) q =
        (e, record { before = w.passed; behind = left; among = q; place = w.place ∙ sym (table_long w.passed ∙ all_many rows w.passed) })

pub walk_on : {es : List Expression} {e : Expression} {row : ℕ} → StartsAt es e row → Walked es (row + rows e)
walk_on {e = e} s =
    record {
      passed = s.before ++ (e ∷ []);
      left = s.behind;
      among = s.among ∙ sym (append_assoc s.before (e ∷ []) s.behind);
      place = omega (arith, place_total s, total_append s.before (e ∷ []));
    }

-- no expression starts inside another
next_start : (ds es : List Expression) (d e : Expression) (x y : List Expression) → ds ++ (d ∷ x) ≡ es ++ (e ∷ y) → total ds < total es
    → total ds + rows d ≤ total es
next_start [] [] d e x y q h = absurd (omega arith)
next_start [] (c ∷ es) d e x y q h =
    let same : d ≡ c = cc in
    omega (arith, ap rows same)
next_start (c ∷ ds) [] d e x y q h = absurd (omega arith)
next_start (b ∷ ds) (c ∷ es) d e x y q h =
    let same : b ≡ c = cc in
    let rest : ds ++ (d ∷ x) ≡ es ++ (e ∷ y) = cc in
    let t = ap rows same in
    omega (arith, t, next_start ds es d e x y rest (omega (arith, t)))

pub later_start : {es : List Expression} {d e : Expression} {at row : ℕ} → StartsAt es d at → StartsAt es e row → at < row → at + rows d ≤ row
later_start {es} {d} {e} s t h =
    let r = next_start s.before t.before d e s.behind t.behind (sym s.among ∙ t.among) (omega (arith, place_total s, place_total t)) in
    omega (arith, r, place_total s, place_total t)

-- at a row one expression starts at most
same_start : (ds es : List Expression) (d e : Expression) (x y : List Expression) → ds ++ (d ∷ x) ≡ es ++ (e ∷ y) → total ds ≡ total es → d ≡ e
same_start [] [] d e x y q h = cc
same_start [] (c ∷ es) d e x y q h = absurd (omega (arith, rows_positive c))
same_start (c ∷ ds) [] d e x y q h = absurd (omega (arith, rows_positive c))
same_start (b ∷ ds) (c ∷ es) d e x y q h =
    let same : b ≡ c = cc in
    let rest : ds ++ (d ∷ x) ≡ es ++ (e ∷ y) = cc in
    same_start ds es d e x y rest (omega (arith, ap rows same))

pub one_start : {es : List Expression} {d e : Expression} {row : ℕ} → StartsAt es d row → StartsAt es e row → d ≡ e
one_start {es} {d} {e} s t =
    same_start s.before t.before d e s.behind t.behind (sym s.among ∙ t.among) (sym (place_total s) ∙ place_total t)

-- the size at a start is that of its expression
first_size : (e : Expression) (l : List ℕ) → get_or (preorder rows e ++ l) 0 0 ≡ rows e
first_size (symbol f) l = refl
first_size empty l = refl
first_size (concatenation a b) l = refl
first_size (choice a b) l = refl
first_size (repetition a) l = refl

size_at : (before behind : List Expression) (e : Expression) → get_or (size_rows (before ++ (e ∷ behind))) (total before) 0 ≡ rows e
size_at [] behind e = first_size e (size_rows behind)
size_at (d ∷ before) behind e =
    subst (λ (n : ℕ). get_or (preorder rows d ++ size_rows (before ++ (e ∷ behind))) (n + total before) 0 ≡ rows e) (rows_many rows d)
    (get_or-append-add (preorder rows d) (size_rows (before ++ (e ∷ behind))) (total before) 0 ∙ size_at before behind e)

pub start_size : {size : List ℕ} {es : List Expression} {e : Expression} {row : ℕ} → size ≡ size_rows es → StartsAt es e row → get_or size row 0 ≡ rows e
start_size {e = e} q s = rw (q, place_total s, s.among) (size_at s.before s.behind e)

pub sizes_length : {size : List ℕ} (es : List Expression) → size ≡ size_rows es → length size ≡ total es
sizes_length es q = ap length q ∙ all_many rows es

-- ---- in a good table

laid_at : (kind name size : ℕ → ℕ) (before behind : List Expression) (e : Expression) (s : ℕ) → Laid kind name size (before ++ (e ∷ behind)) s
    → Placed kind name size e (s + total before)
laid_at kind name size [] behind e s l = rw add-zero l.0
laid_at kind name size (d ∷ before) behind e s l = rw (← add_assoc) (laid_at kind name size before behind e (s + rows d) l.1)

module _ {kind name size : List ℕ} {es : List Expression} (g : GoodTable kind name size es) {e : Expression} {row : ℕ} (s : StartsAt es e row) where
  -- an expression that starts at a row stands there
  pub start_placed : PlacedIn kind name size e row
  start_placed =
      subst (PlacedIn kind name size e) (zero-add _ ∙ sym (place_total s))
      (laid_at (number_at kind) (number_at name) (number_at size) s.before s.behind e 0
      (subst (λ (l : List Expression). Laid (number_at kind) (number_at name) (number_at size) l 0) s.among (good_laid g)))

  pub start_within : row + rows e ≤ length kind
  start_within = omega (arith, start_in s, kind_length g)

  pub start_below : row < 64
  start_below = omega (arith, start_within, rows_positive e, g.most)
