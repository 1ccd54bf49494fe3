-- What stands at a row of a sequence and from it on.
use Prim.Native.Nat.{ℕ, zero, suc, ◌+◌, ◌-◌, ◌<◌, ◌≤◌}
use mathlib.Core.Path.{◌≡◌, refl, ap, ◌∙◌}
use native.Mathlib.Omega.{arith}
use native.Mathlib.Nat.{zero-add}
use native.Mathlib.Decide.{dec_lt}
use Rattle.meaning.specs.Forest.{Forest, none, some, Term, ◌◂◌, rows, size, ◌⊕◌, Context, hole, node, plug, hole_row}
use Rattle.meaning.specs.Read.{from_in, forest_from_row}
use Rattle.meaning.proofs.Laws.{rows_of, hole_in}

-- what starts at a row lies within
pub from_fits : (R : Forest) (t : ℕ) → t < rows R → t + rows (forest_from_row R t) ≤ rows R
unfolding forest_from_row rows
from_fits none t h = absurd (omega arith)
from_fits (some l us rest) zero h = omega arith
from_fits (some l us rest) (suc t) h = go (dec_lt t (rows us)) (from_fits us t) (from_fits rest (t - rows us))
  where
    go : (e : Dec (t < rows us)) → (t < rows us → t + rows (forest_from_row us t) ≤ rows us) → (t - rows us < rows rest → t - rows us + rows (forest_from_row rest (t - rows us)) ≤ rows rest)
        → suc t + rows (from_in e (forest_from_row us t) (forest_from_row rest (t - rows us))) ≤ suc (rows us + rows rest)
    go (yes e) i o = omega (arith, i e)
    go (no e) i o = omega (arith, o (omega arith))

pub from_past : (R : Forest) (t : ℕ) → rows R ≤ t → rows (forest_from_row R t) ≡ 0
unfolding forest_from_row rows
from_past none t h = refl
from_past (some l us rest) zero h = absurd (omega arith)
from_past (some l us rest) (suc t) h = go (dec_lt t (rows us)) (from_past rest (t - rows us))
  where
    go : (e : Dec (t < rows us)) → (rows rest ≤ t - rows us → rows (forest_from_row rest (t - rows us)) ≡ 0) → rows (from_in e (forest_from_row us t) (forest_from_row rest (t - rows us))) ≡ 0
    go (yes e) o = absurd (omega arith)
    go (no e) o = o (omega arith)

pub from_yes : {A : Type 0} (e : Dec A) (i o : Forest) → A → from_in e i o ≡ i
from_yes (yes a) i o h = refl
from_yes (no n) i o h = absurd (n h)

pub from_no : {A : Type 0} (e : Dec A) (i o : Forest) → (A → ⊥) → from_in e i o ≡ o
from_no (yes a) i o h = absurd (h a)
from_no (no n) i o h = refl

-- rows of what starts at t are rows from t on
pub from_shift : (R : Forest) (t d : ℕ) → d < rows (forest_from_row R t) → forest_from_row R (t + d) ≡ forest_from_row (forest_from_row R t) d
unfolding forest_from_row rows
from_shift none t d h = absurd (omega arith)
from_shift (some l us rest) zero d h = rw (zero-add d)
from_shift (some l us rest) (suc t) d h = let z : suc t + d ≡ suc (t + d) = omega arith in rw z (go (dec_lt t (rows us)) h (from_shift us t d) (from_shift rest (t - rows us) d))
  where
    go : (e : Dec (t < rows us)) → d < rows (from_in e (forest_from_row us t) (forest_from_row rest (t - rows us)))
        → (d < rows (forest_from_row us t) → forest_from_row us (t + d) ≡ forest_from_row (forest_from_row us t) d)
        → (d < rows (forest_from_row rest (t - rows us)) → forest_from_row rest (t - rows us + d) ≡ forest_from_row (forest_from_row rest (t - rows us)) d)
        → from_in (dec_lt (t + d) (rows us)) (forest_from_row us (t + d)) (forest_from_row rest (t + d - rows us)) ≡ forest_from_row (from_in e (forest_from_row us t) (forest_from_row rest (t - rows us))) d
    go (yes e) h i o = from_yes (dec_lt (t + d) (rows us)) _ _ (omega (arith, from_fits us t e)) ∙ i h
    go (no e) h i o =
        let z : t + d - rows us ≡ t - rows us + d = omega arith in
        from_no (dec_lt (t + d) (rows us)) _ _ (λ f. omega arith) ∙ rw z (o h)

from_none : (R : Forest) (l : ℕ) (us rest : Forest) (d : ℕ) (t : ℕ) → forest_from_row R t ≡ some l us rest → d < rows (some l us rest) → forest_from_row R (t + d) ≡ forest_from_row (some l us rest) d
from_none R l us rest d t h k = from_shift R t d (rw h k) ∙ ap (λ (f : Forest). forest_from_row f d) h

-- us stands at the row t of R: it is empty, or what starts there
pub record HereF (R : Forest) (t : ℕ) (us : Forest) : Type 0 where
  pub shows : 0 < rows us → forest_from_row R t ≡ us
  pub inside : t + rows us ≤ rows R

pub record HereT (R : Forest) (t : ℕ) (T : Term) : Type 0 where
  pub rest : Forest
  pub shows : forest_from_row R t ≡ T ◂ rest

here_shift : (R f g : Forest) (t d : ℕ) → HereF R t f → d + rows g ≤ rows f → (0 < rows g → forest_from_row f d ≡ g) → HereF R (t + d) g
here_shift R f g t d h a b =
    record {
      shows = λ z. let e = h.shows (omega arith) in let y : d < rows f = omega arith in from_shift R t d (rw e y) ∙ ap (λ (k : Forest). forest_from_row k d) e ∙ b z;
      inside = omega (arith, h.inside);
    }

-- a term that stands at a row stands within
pub here_in : {R : Forest} {t : ℕ} {T : Term} → HereT R t T → t + rows (forest_from_row R t) ≤ rows R
unfolding rows
here_in {R} {t} {T} h = go (dec_lt t (rows R))
  where
    go : Dec (t < rows R) → t + rows (forest_from_row R t) ≤ rows R
    go (yes e) = from_fits R t e
    go (no e) = let z : 0 < rows (forest_from_row R t) = rw h.shows (omega arith) in absurd (omega (arith, from_past R t (omega arith)))

pub from_zero : (f : Forest) → forest_from_row f 0 ≡ f
unfolding forest_from_row
from_zero none = refl
from_zero (some l us rest) = refl

pub from_drop : (f g : Forest) → 0 < rows g → forest_from_row (f ⊕ g) (rows f) ≡ g
unfolding forest_from_row rows ◌⊕◌
from_drop none g h = from_zero g
from_drop (some l us rest) g h =
    let z : rows us + rows rest - rows us ≡ rows rest = omega arith in
    from_no (dec_lt (rows us + rows rest) (rows us)) _ _ (λ f. omega arith) ∙ rw z (from_drop rest g h)

-- the arguments, what stands to the right, what stands behind a part, what fills a hole
pub here_args : {R : Forest} {t : ℕ} {T : Term} → HereT R t T → HereF R (t + 1) T.args
unfolding rows forest_from_row
here_args {R} {t} {T} h =
    let i = rw h.shows at (here_in h) in
    here_shift R (T ◂ h.rest) T.args t 1 (record { shows = λ z. h.shows; inside = i }) (omega arith)
    (λ z. from_yes (dec_lt 0 (rows T.args)) _ _ z ∙ from_zero T.args)

pub here_first : {R : Forest} {t : ℕ} (T : Term) (rest : Forest) → HereF R t (T ◂ rest) → HereT R t T
unfolding rows
here_first T rest h = record { rest = rest; shows = h.shows (omega arith) }

pub here_drop : {R : Forest} {t : ℕ} (f g : Forest) → HereF R t (f ⊕ g) → HereF R (t + rows f) g
here_drop {R} {t} f g h = here_shift R (f ⊕ g) g t (rows f) h (omega (arith, rows_of f g)) (λ z. from_drop f g z)

pub here_next : {R : Forest} {t : ℕ} (T : Term) (rest : Forest) → HereF R t (T ◂ rest) → HereF R (t + size T) rest
unfolding rows ◌⊕◌
here_next {R} {t} T rest h =
    let z : rows (T ◂ none) ≡ size T = omega arith in
    rw z at (here_drop {R = R} {t = t} (T ◂ none) rest h)

pub from_hole : (c : Context) (T : Term) (rest : Forest) → (right : Forest) × (forest_from_row (plug c T ◂ rest) (hole_row c) ≡ T ◂ right)
unfolding forest_from_row rows plug hole_row
from_hole hole T rest = (rest, refl)
from_hole (node l left c right) T rest =
    let X : Forest = plug c T ◂ right in
    let r = from_hole c T right in
    let q = rows_of left X in
    let i = hole_in c T in
    let a : forest_from_row (left ⊕ X) (rows left) ≡ X = from_drop left X (omega arith) in
    let b : hole_row c < rows X = omega arith in (
      r.0,
      from_yes (dec_lt (rows left + hole_row c) (rows (left ⊕ X))) _ _ (omega arith)
          ∙ from_shift (left ⊕ X) (rows left) (hole_row c) (rw a b) ∙ ap (λ (f : Forest). forest_from_row f (hole_row c)) a ∙ r.1,
    )

pub here_hole : {R : Forest} {t : ℕ} (c : Context) (T : Term) → HereT R t (plug c T) → HereT R (t + hole_row c) T
unfolding rows
here_hole {R} {t} c T h =
    let r = from_hole c T h.rest in
    record { rest = r.0; shows = from_none R _ _ h.rest (hole_row c) t h.shows (omega (arith, hole_in c T)) ∙ r.1 }
