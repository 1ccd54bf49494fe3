-- The levels, field by field: what is read of a level, and what a store changes.
use Prim.Native.Nat.{ℕ, zero, suc}
use mathlib.Core.Path.{◌≡◌, refl, sym, ap, ◌∙◌}
use mathlib.Core.List.{List, ◌∷◌, map}
use lib.ListN.{length, get_or, set, replicate, length-set, length-map, get_or-map}
use lib.Seq.{map-set, map-set_same}
use Rattle.levels.specs.declared.Level.{Level}
use Rattle.levels.specs.Columns.{places, variables, starts, rows, nexts, lefts, unentered, LevelAt, Moved, Entered}

-- the columns are as long as there may be levels
pub record ColumnsLong (G X St U Nx F : List ℕ) : Type 0 where
  pub places_long : length G ≡ 256
  pub variables_long : length X ≡ 256
  pub starts_long : length St ≡ 256
  pub rows_long : length U ≡ 256
  pub nexts_long : length Nx ≡ 256
  pub lefts_long : length F ≡ 256

pub columns_long : (levels : List Level) → length levels ≡ 256
    → ColumnsLong (places levels) (variables levels) (starts levels) (rows levels) (nexts levels) (lefts levels)
columns_long levels long =
    record {
      places_long = column (λ l. l.place);
      variables_long = column (λ l. l.variable);
      starts_long = column (λ l. l.start);
      rows_long = column (λ l. l.row);
      nexts_long = column (λ l. l.next);
      lefts_long = column (λ l. l.left);
    }
  where
    column : (f : Level → ℕ) → length (map f levels) ≡ 256
    column f = length-map levels f ∙ long

-- a level that goes on keeps their lengths
pub columns_moved : {G X St U Nx F : List ℕ} (d row next left : ℕ) → ColumnsLong G X St U Nx F → ColumnsLong G X St (set U d row) (set Nx d next) (set F d left)
columns_moved {U = U} {Nx = Nx} {F = F} d row next left c =
    record {
      places_long = c.places_long;
      variables_long = c.variables_long;
      starts_long = c.starts_long;
      rows_long = length-set U d row ∙ c.rows_long;
      nexts_long = length-set Nx d next ∙ c.nexts_long;
      lefts_long = length-set F d left ∙ c.lefts_long;
    }

-- what is read of a level
pub standing : (levels : List Level) (d : ℕ) → let l = get_or levels d unentered in LevelAt levels d l.place l.variable l.start l.row l.next l.left
standing levels d =
    record {
      place = field (λ l. l.place);
      variable = field (λ l. l.variable);
      start = field (λ l. l.start);
      row = field (λ l. l.row);
      next = field (λ l. l.next);
      left = field (λ l. l.left);
    }
  where
    field : (f : Level → ℕ) → f (get_or levels d unentered) ≡ get_or (map f levels) d (f unentered)
    field f = sym (get_or-map f levels d unentered)

module _ (levels : List Level) (d : ℕ) where
  -- a level goes on: its first three numbers stay
  pub moved : (row next left : ℕ) → let l = get_or levels d unentered in
      Moved levels d row next left (set levels d (record { place = l.place; variable = l.variable; start = l.start; row = row; next = next; left = left }))
  moved row next left =
      record {
        long = length-set levels d _;
        same_places = map-set_same (λ (l : Level). l.place) levels d _ unentered refl;
        same_variables = map-set_same (λ (l : Level). l.variable) levels d _ unentered refl;
        same_starts = map-set_same (λ (l : Level). l.start) levels d _ unentered refl;
        new_rows = map-set (λ (l : Level). l.row) levels d _;
        new_nexts = map-set (λ (l : Level). l.next) levels d _;
        new_lefts = map-set (λ (l : Level). l.left) levels d _;
      }

  -- a level is entered
  pub entered : (place variable start next left : ℕ)
      → Entered levels d place variable start next left (set levels d (record { place = place; variable = variable; start = start; row = start; next = next; left = left }))
  entered place variable start next left =
      record {
        long = length-set levels d _;
        new_places = map-set (λ (l : Level). l.place) levels d _;
        new_variables = map-set (λ (l : Level). l.variable) levels d _;
        new_starts = map-set (λ (l : Level). l.start) levels d _;
        new_rows = map-set (λ (l : Level). l.row) levels d _;
        new_nexts = map-set (λ (l : Level). l.next) levels d _;
        new_lefts = map-set (λ (l : Level). l.left) levels d _;
      }

-- the first level, where none was entered before
blank_column : (f : Level → ℕ) (n : ℕ) → map f (replicate n unentered) ≡ replicate n (f unentered)
blank_column f zero = refl
blank_column f (suc n) = ap (λ (l : List ℕ). f unentered ∷ l) (blank_column f n)

pub record First (p x s lo n : ℕ) (levels : List Level) : Type 0 where
  pub the_place : places levels ≡ set (replicate 256 0) 0 p
  pub the_variable : variables levels ≡ set (replicate 256 0) 0 x
  pub the_start : starts levels ≡ set (replicate 256 0) 0 s
  pub the_row : rows levels ≡ set (replicate 256 0) 0 s
  pub the_next : nexts levels ≡ set (replicate 256 0) 0 lo
  pub the_left : lefts levels ≡ set (replicate 256 0) 0 n

pub first_level : {p x s lo n : ℕ} {levels : List Level} → Entered (replicate 256 unentered) 0 p x s lo n levels → First p x s lo n levels
first_level {p} {x} {s} {lo} {n} w =
    record {
      the_place = w.new_places ∙ ap (λ (c : List ℕ). set c 0 p) (blank_column (λ l. l.place) 256);
      the_variable = w.new_variables ∙ ap (λ (c : List ℕ). set c 0 x) (blank_column (λ l. l.variable) 256);
      the_start = w.new_starts ∙ ap (λ (c : List ℕ). set c 0 s) (blank_column (λ l. l.start) 256);
      the_row = w.new_rows ∙ ap (λ (c : List ℕ). set c 0 s) (blank_column (λ l. l.row) 256);
      the_next = w.new_nexts ∙ ap (λ (c : List ℕ). set c 0 lo) (blank_column (λ l. l.next) 256);
      the_left = w.new_lefts ∙ ap (λ (c : List ℕ). set c 0 n) (blank_column (λ l. l.left) 256);
    }
