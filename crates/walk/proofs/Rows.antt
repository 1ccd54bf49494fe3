-- The numbers of the rows of a packed pattern: what is read of a row, and what a store changes.
use Prim.Native.Nat.{ℕ, zero, suc, ◌+◌, ◌*◌, ◌<◌}
use mathlib.Core.Path.{◌≡◌, refl, subst}
use mathlib.Core.List.{List, [], ◌∷◌}
use lib.ListN.{length, get_or, set, replicate, length-set, length-replicate}
use lib.Seq.{get_or-set_same}
use native.Mathlib.Omega.{arith}
use Rattle.walk.specs.declared.PatternRow.{PatternRow}
use Rattle.walk.specs.Packed.{numbers_of, unpacked, Put}

-- there are six a row
pub numbers_long : (rows : List PatternRow) → length (numbers_of rows) ≡ 6 * length rows
unfolding numbers_of
numbers_long [] = refl
numbers_long (r ∷ rows) = omega (arith, numbers_long rows)

pub unpacked_long : length (numbers_of (replicate 256 unpacked)) ≡ 1536
unpacked_long = omega (arith, numbers_long (replicate 256 unpacked), length-replicate {A = PatternRow} 256 unpacked)

-- the numbers of the row p are r's
pub record RowAt (M : List ℕ) (p : ℕ) (r : PatternRow) : Type 0 where
  pub kind : get_or M (6 * p) 0 ≡ r.kind
  pub name : get_or M (6 * p + 1) 0 ≡ r.name
  pub size : get_or M (6 * p + 2) 0 ≡ r.size
  pub holder : get_or M (6 * p + 3) 0 ≡ r.holder
  pub start : get_or M (6 * p + 4) 0 ≡ r.start
  pub flag : get_or M (6 * p + 5) 0 ≡ r.flag

next_row : (p k : ℕ) → 6 * suc p + k ≡ suc (suc (suc (suc (suc (suc (6 * p + k))))))
next_row p k = omega arith

next_kind : (p : ℕ) → 6 * suc p ≡ suc (suc (suc (suc (suc (suc (6 * p))))))
next_kind p = omega arith

pub row_at : (rows : List PatternRow) (p : ℕ) → RowAt (numbers_of rows) p (get_or rows p unpacked)
unfolding numbers_of
row_at [] zero = record { kind = refl; name = refl; size = refl; holder = refl; start = refl; flag = refl }
row_at [] (suc p) = record { kind = refl; name = refl; size = refl; holder = refl; start = refl; flag = refl }
row_at (r ∷ rows) zero = record { kind = refl; name = refl; size = refl; holder = refl; start = refl; flag = refl }
row_at (r ∷ rows) (suc p) =
    let w = row_at rows p in
    record {
      kind = rw (next_kind p) w.kind;
      name = rw (next_row p 1) w.name;
      size = rw (next_row p 2) w.size;
      holder = rw (next_row p 3) w.holder;
      start = rw (next_row p 4) w.start;
      flag = rw (next_row p 5) w.flag;
    }

-- the numbers before a row that is stored stay
rows_before : (rows : List PatternRow) (p : ℕ) (r : PatternRow) (i : ℕ) → i < 6 * p → get_or (numbers_of (set rows p r)) i 0 ≡ get_or (numbers_of rows) i 0
unfolding numbers_of
rows_before [] p r i l = refl
rows_before (a ∷ rows) zero r i l = absurd (omega arith)
rows_before (a ∷ rows) (suc p) r zero l = refl
rows_before (a ∷ rows) (suc p) r (suc zero) l = refl
rows_before (a ∷ rows) (suc p) r (suc (suc zero)) l = refl
rows_before (a ∷ rows) (suc p) r (suc (suc (suc zero))) l = refl
rows_before (a ∷ rows) (suc p) r (suc (suc (suc (suc zero)))) l = refl
rows_before (a ∷ rows) (suc p) r (suc (suc (suc (suc (suc zero))))) l = refl
rows_before (a ∷ rows) (suc p) r (suc (suc (suc (suc (suc (suc i)))))) l = rows_before rows p r i (omega (arith, l))

-- a row is stored
pub row_put : (rows : List PatternRow) (p : ℕ) (r : PatternRow) → p < length rows
    → Put (numbers_of rows) p r.kind r.name r.size r.holder r.start r.flag (numbers_of (set rows p r))
row_put rows p r l =
    let w = subst (λ (x : PatternRow). RowAt (numbers_of (set rows p r)) p x) (get_or-set_same rows p r unpacked l) (row_at (set rows p r) p) in
    record {
      long = omega (arith, numbers_long (set rows p r), numbers_long rows, length-set rows p r);
      before = λ i few. rows_before rows p r i few;
      kind = w.kind;
      name = w.name;
      size = w.size;
      holder = w.holder;
      start = w.start;
      flag = w.flag;
    }
