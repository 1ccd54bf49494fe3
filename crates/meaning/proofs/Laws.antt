-- Laws of forests, and of cutting them.
use Prim.Native.Nat.{ℕ, zero, suc, ◌+◌, ◌-◌, ◌<◌, ◌≤◌}
use mathlib.Core.Path.{◌≡◌, refl, ap}
use native.Mathlib.Omega.{arith}
use native.Mathlib.Nat.{zero-add}
use native.Mathlib.Decide.{dec_lt}
use Rattle.meaning.specs.Forest.{Forest, none, some, Term, term, ◌◂◌, rows, terms, ◌⊕◌, Context, hole, node, plug, hole_row}
use Rattle.meaning.specs.Read.{take_t, Cut, cut_in, cut_f, under, cut}

-- what follows the first terms of a sequence
unfoldable pub drop_t : ℕ → Forest → Forest
drop_t zero us = us
drop_t (suc c) none = none
drop_t (suc c) (some l us rest) = drop_t c rest

pub no_rows : (f : Forest) → rows f ≡ 0 → f ≡ none
unfolding rows
no_rows none e = refl
no_rows (some l us rest) e = absurd (omega arith)

-- a cut sequence put together again
abbrev pub glue : Cut → Forest
glue c = c.left ⊕ (plug c.around c.inner ◂ c.right)

-- taking terms off the front
pub take_drop : (d : ℕ) (f : Forest) → take_t d f ⊕ drop_t d f ≡ f
unfolding take_t drop_t ◌⊕◌
take_drop zero f = refl
take_drop (suc d) none = refl
take_drop (suc d) (some l us rest) = rw (take_drop d rest)

pub terms_take : (d : ℕ) (f : Forest) → d ≤ terms f → terms (take_t d f) ≡ d
unfolding take_t terms
terms_take zero f h = refl
terms_take (suc d) none h = omega arith
terms_take (suc d) (some l us rest) h = ap suc (terms_take d rest (omega arith))

pub take_of : (f g : Forest) → take_t (terms f) (f ⊕ g) ≡ f
unfolding take_t terms ◌⊕◌
take_of none g = refl
take_of (some l us rest) g = rw (take_of rest g)

pub drop_of : (f g : Forest) → drop_t (terms f) (f ⊕ g) ≡ g
unfolding drop_t terms ◌⊕◌
drop_of none g = refl
drop_of (some l us rest) g = drop_of rest g

pub terms_of : (f g : Forest) → terms f ≤ terms (f ⊕ g)
unfolding terms ◌⊕◌
terms_of none g = omega arith
terms_of (some l us rest) g = omega (arith, terms_of rest g)

pub terms_few : (f : Forest) → terms f ≤ rows f
unfolding terms rows
terms_few none = omega arith
terms_few (some l us rest) = omega (arith, terms_few rest)

pub rows_of : (f g : Forest) → rows (f ⊕ g) ≡ rows f + rows g
unfolding rows ◌⊕◌
rows_of none g = omega arith
rows_of (some l us rest) g = omega (arith, rows_of rest g)

-- a cut forest is glued again, and its hole is the row asked for
pub cut_glued : (f : Forest) (d : ℕ) → d < rows f → glue (cut_f f d) ≡ f
unfolding cut_f rows ◌⊕◌ plug
cut_glued none d h = absurd (omega arith)
cut_glued (some l us rest) zero h = refl
cut_glued (some l us rest) (suc d) h = go (dec_lt d (rows us)) (cut_glued us d) (cut_glued rest (d - rows us))
  where
    go : (e : Dec (d < rows us)) → (d < rows us → glue (cut_f us d) ≡ us) → (d - rows us < rows rest → glue (cut_f rest (d - rows us)) ≡ rest)
        → glue (cut_in e l us rest (cut_f us d) (cut_f rest (d - rows us))) ≡ some l us rest
    go (yes e) i o = rw (i e)
    go (no e) i o = rw (o (omega arith))

pub cut_row : (f : Forest) (d : ℕ) → d < rows f → rows (cut_f f d).left + hole_row (cut_f f d).around ≡ d
unfolding cut_f rows hole_row
cut_row none d h = absurd (omega arith)
cut_row (some l us rest) zero h = refl
cut_row (some l us rest) (suc d) h = go (dec_lt d (rows us)) (cut_row us d) (cut_row rest (d - rows us))
  where
    go : (e : Dec (d < rows us)) → (d < rows us → rows (cut_f us d).left + hole_row (cut_f us d).around ≡ d)
        → (d - rows us < rows rest → rows (cut_f rest (d - rows us)).left + hole_row (cut_f rest (d - rows us)).around ≡ d - rows us)
        → rows (cut_in e l us rest (cut_f us d) (cut_f rest (d - rows us))).left + hole_row (cut_in e l us rest (cut_f us d) (cut_f rest (d - rows us))).around ≡ suc d
    go (yes e) i o = omega (arith, i e)
    go (no e) i o = omega (arith, o (omega arith))

-- what was glued is cut again at the row of its hole
pub hole_in : (c : Context) (T : Term) → hole_row c ≤ rows (plug c T).args
unfolding hole_row plug rows
hole_in hole T = omega arith
hole_in (node l left c right) T = omega (arith, hole_in c T, rows_of left (plug c T ◂ right))

-- with terms to the left of it
beside : (left : Forest) (c : Context) (T : Term) (right : Forest)
    → cut_f (plug c T ◂ right) (hole_row c) ≡ record { left = none; around = c; inner = T; right = right }
    → cut_f (left ⊕ (plug c T ◂ right)) (rows left + hole_row c) ≡ record { left = left; around = c; inner = T; right = right }
unfolding cut_f rows ◌⊕◌
beside none c T right h = rw (zero-add (hole_row c)) h
beside (some l us rest) c T right h =
    let e : suc (rows us + rows rest) + hole_row c ≡ suc (rows us + (rows rest + hole_row c)) = omega arith in
    let k : rows us + (rows rest + hole_row c) - rows us ≡ rows rest + hole_row c = omega arith in
    rw e (go (dec_lt (rows us + (rows rest + hole_row c)) (rows us)) (rw k (beside rest c T right h)))
  where
    m : ℕ
    m = rows us + (rows rest + hole_row c)

    go : (e : Dec (m < rows us)) → cut_f (rest ⊕ (plug c T ◂ right)) (m - rows us) ≡ record { left = rest; around = c; inner = T; right = right }
        → cut_in e l us (rest ⊕ (plug c T ◂ right)) (cut_f us m) (cut_f (rest ⊕ (plug c T ◂ right)) (m - rows us)) ≡ record { left = some l us rest; around = c; inner = T; right = right }
    go (yes e) i = absurd (omega arith)
    go (no e) i = rw i

pub alone : (c : Context) (T : Term) (right : Forest) → cut_f (plug c T ◂ right) (hole_row c) ≡ record { left = none; around = c; inner = T; right = right }
unfolding cut_f rows hole_row plug
alone hole T right = refl
alone (node l left c right') T right = go (dec_lt (rows left + hole_row c) (rows (left ⊕ (plug c T ◂ right')))) (beside left c T right' (alone c T right'))
  where
    f : Forest
    f = left ⊕ (plug c T ◂ right')

    d : ℕ
    d = rows left + hole_row c

    go : (e : Dec (d < rows f)) → cut_f f d ≡ record { left = left; around = c; inner = T; right = right' }
        → cut_in e l f right (cut_f f d) (cut_f right (d - rows f)) ≡ record { left = none; around = node l left c right'; inner = T; right = right }
    go (yes e) i = rw i
    go (no e) i = absurd (e (omega (arith, hole_in c T, rows_of left (plug c T ◂ right'))))

pub cut_plugs : (T : Term) (d : ℕ) → plug (cut T d).around (cut T d).at ≡ T
unfolding cut plug
cut_plugs T zero = refl
cut_plugs T (suc d) = go (dec_lt d (rows T.args))
  where
    go : (e : Dec (d < rows T.args)) → plug (under e T (cut_f T.args d)).around (under e T (cut_f T.args d)).at ≡ T
    go (yes e) = rw (cut_glued T.args d e)
    go (no e) = refl

pub cut_holds : (T : Term) (d : ℕ) → d ≤ rows T.args → hole_row (cut T d).around ≡ d
unfolding cut hole_row
cut_holds T zero h = refl
cut_holds T (suc d) h = go (dec_lt d (rows T.args))
  where
    go : (e : Dec (d < rows T.args)) → hole_row (under e T (cut_f T.args d)).around ≡ suc d
    go (yes e) = rw (cut_row T.args d e)
    go (no e) = absurd (omega arith)

pub plug_cut : (c : Context) (T : Term) → cut (plug c T) (hole_row c) ≡ record { around = c; at = T }
unfolding cut plug hole_row rows
plug_cut hole T = refl
plug_cut (node l left c right) T = go (dec_lt (rows left + hole_row c) (rows (left ⊕ (plug c T ◂ right))))
  where
    go : (e : Dec (rows left + hole_row c < rows (left ⊕ (plug c T ◂ right))))
        → under e (term l (left ⊕ (plug c T ◂ right))) (cut_f (left ⊕ (plug c T ◂ right)) (rows left + hole_row c)) ≡ record { around = node l left c right; at = T }
    go (yes e) = rw (beside left c T right (alone c T right))
    go (no e) = absurd (e (omega (arith, hole_in c T, rows_of left (plug c T ◂ right))))
