-- The record of a matcher, read off the tree, is the matcher again, and a good record means values of the right kinds.
use Prim.Native.Nat.{ℕ, ◌+◌, ◌-◌, ◌<◌, zero-le}
use mathlib.Core.Path.{◌≡◌, refl, ap, ap₂, ◌∙◌}
use mathlib.Core.Path.{sym as flip}
use mathlib.Core.List.{List, [], ◌∷◌, ◌++◌}
use mathlib.Core.Bool.{Bool, true, false, cond}
use lib.Dec.{eqb}
use lib.ListN.{length}
use native.Mathlib.Omega.{arith}
use Rattle.meaning.specs.Forest.{Forest, none, some, Term, term, ◌◂◌, rows, terms, ◌⊕◌, plug, hole_row, size}
use Rattle.meaning.specs.Read.{take_t, Split, forest_from_row, value_at, read_off, Fits, GoodRecord, values, firsts}
use Rattle.meaning.proofs.Lists.{at_old}
use Rattle.meaning.proofs.Laws.{take_of, terms_of, hole_in, plug_cut}
use Rattle.meaning.proofs.From.{HereF, HereT, here_in, here_args, here_first, here_drop, here_next, here_hole}
use Rattle.meaning.specs.Pattern.{Pattern, symbol, individual, function, context, Patterns, nil, cons, sequence, Kind, an_individual, a_sequence, a_function, a_context, Comes, after, after_t, GoodT, GoodF, Numbered}
use Rattle.meaning.specs.Matcher.{Value, of_individual, of_sequence, of_function, of_context, kind, kinds, at, as_term, as_forest, as_symbol, as_context, apply, apply_all, Solves}
use Rattle.meaning.specs.Record.{Entry, entry, second, numbers, note, firsts_t, firsts_f, record_of}
use Rattle.meaning.proofs.Steps.{kinds_old}
use Rattle.meaning.proofs.Theorems.{complete}

-- the value is read back at its row, and its numbers are good
pub record Stands (R : Forest) (v : Value) (t : ℕ) : Type 0 where
  pub back : value_at (kind v) R t (second v t) ≡ v
  pub fits : Fits (kind v) R t (second v t)

-- what was met so far is read back, and is a good record
record Reads (R : Forest) (B : List Entry) : Type 0 where
  back : read_off (kinds (values B)) R (numbers B) ≡ values B
  fits : GoodRecord (kinds (values B)) R (numbers B)

reads_more : (R : Forest) (B : List Entry) (v : Value) (t : ℕ) → read_off (kinds (values B)) R (numbers B) ≡ values B → value_at (kind v) R t (second v t) ≡ v
    → read_off (kinds (values (B ++ (entry v t ∷ [])))) R (numbers (B ++ (entry v t ∷ []))) ≡ values (B ++ (entry v t ∷ []))
reads_more R [] v t h e = rw e
reads_more R (b ∷ B) v t h e =
    let x : value_at (kind b.value) R b.row (second b.value b.row) ≡ b.value = cc in
    let y : read_off (kinds (values B)) R (numbers B) ≡ values B = cc in
    ap₂ (λ (w : Value) (l : List Value). w ∷ l) x (reads_more R B v t y e)

fits_more : (R : Forest) (B : List Entry) (v : Value) (t : ℕ) → GoodRecord (kinds (values B)) R (numbers B) → Fits (kind v) R t (second v t)
    → GoodRecord (kinds (values (B ++ (entry v t ∷ [])))) R (numbers (B ++ (entry v t ∷ [])))
fits_more R [] v t h e = (e, tt)
fits_more R (b ∷ B) v t h e = (h.0, fits_more R B v t h.1 e)

reads_note : {R : Forest} {B : List Entry} (x : ℕ) (v : Value) (t : ℕ) → Reads R B → Stands R v t → Reads R (note x v t B)
reads_note {R} {B} x v t r e = go (eqb x (length B))
  where
    go : (y : Bool) → Reads R (cond y (B ++ (entry v t ∷ [])) B)
    go true = record { back = reads_more R B v t r.back e.back; fits = fits_more R B v t r.fits e.fits }
    go false = r

module _ (R : Forest) where
  -- a term that stands at a row
  in_tree : {t : ℕ} {T : Term} → HereT R t T → t < rows R
  unfolding rows
  in_tree h = let z = rw h.shows at (here_in h) in omega arith

  -- each kind of value, at its row
  pub reads_tree : (v : Value) (t : ℕ) → kind v ≡ an_individual → HereT R t (as_term v) → Stands R v t
  reads_tree (of_individual l us) t k h = record { back = rw h.shows; fits = (in_tree h, refl) }
  reads_tree (of_sequence f) t k h = let z : ◌≡◌ {A = ℕ} 0 1 = cc in absurd (omega arith)
  reads_tree (of_function l) t k h = let z : ◌≡◌ {A = ℕ} 0 1 = cc in absurd (omega arith)
  reads_tree (of_context c) t k h = let z : ◌≡◌ {A = ℕ} 0 1 = cc in absurd (omega arith)

  pub reads_symbol : (v : Value) (t : ℕ) (us : Forest) → kind v ≡ a_function → HereT R t (term (as_symbol v) us) → Stands R v t
  reads_symbol (of_individual l vs) t us k h = let z : ◌≡◌ {A = ℕ} 0 1 = cc in absurd (omega arith)
  reads_symbol (of_sequence f) t us k h = let z : ◌≡◌ {A = ℕ} 0 1 = cc in absurd (omega arith)
  reads_symbol (of_function l) t us k h = record { back = rw h.shows; fits = (in_tree h, refl) }
  reads_symbol (of_context c) t us k h = let z : ◌≡◌ {A = ℕ} 0 1 = cc in absurd (omega arith)

  pub reads_forest : (v : Value) (t : ℕ) (g : Forest) → kind v ≡ a_sequence → HereF R t (as_forest v ⊕ g) → Stands R v t
  unfolding take_t terms ◌⊕◌ rows
  reads_forest (of_individual l us) t g k h = let z : ◌≡◌ {A = ℕ} 0 1 = cc in absurd (omega arith)
  reads_forest (of_sequence none) t g k h = record { back = refl; fits = (omega (arith, h.inside), zero-le) }
  reads_forest (of_sequence (some l us rest)) t g k h =
      let e = h.shows (omega arith) in
      record { back = ap of_sequence (rw e (take_of (some l us rest) g)); fits = (omega (arith, h.inside), rw e (terms_of (some l us rest) g)) }
  reads_forest (of_function l) t g k h = let z : ◌≡◌ {A = ℕ} 0 1 = cc in absurd (omega arith)
  reads_forest (of_context c) t g k h = let z : ◌≡◌ {A = ℕ} 0 1 = cc in absurd (omega arith)

  pub reads_context : (v : Value) (t : ℕ) (T : Term) → kind v ≡ a_context → HereT R t (plug (as_context v) T) → Stands R v t
  reads_context (of_individual l us) t T k h = let z : ◌≡◌ {A = ℕ} 0 1 = cc in absurd (omega arith)
  reads_context (of_sequence f) t T k h = let z : ◌≡◌ {A = ℕ} 0 1 = cc in absurd (omega arith)
  reads_context (of_function l) t T k h = let z : ◌≡◌ {A = ℕ} 0 1 = cc in absurd (omega arith)
  reads_context (of_context c) t T k h =
      let z : t + hole_row c - t ≡ hole_row c = omega arith in
      record {
        back = rw (h.shows, z) (ap (λ (s : Split). of_context s.around) (plug_cut c T));
        fits = (in_tree h, omega arith, rw h.shows (omega (arith, hole_in c T)));
      }

module _ (Q : List Kind) (σ : List Value) (right : kinds σ ≡ Q) (R : Forest) where
  kind_is : {x : ℕ} {k : Kind} {n : ℕ} → Comes Q x k n → kind (at σ x) ≡ k
  kind_is {x} {k} c =
      let f = kinds_old σ x k (rw right c.kept) in
      let e : at σ x ≡ f.0 = at_old σ x f.1 in
      rw e f.2

  mutual
    unfolding apply after_t GoodT firsts_t

    reads_t : (q : Pattern) (n : ℕ) → GoodT Q q n → (t : ℕ) (B : List Entry) → HereT R t (apply σ q) → Reads R B → Reads R (firsts_t σ q t B)
    reads_t (symbol f ps) n g t B h r = reads_f ps n g (t + 1) B (here_args h) r
    reads_t (individual x) n g t B h r = reads_note x (at σ x) t r (reads_tree R (at σ x) t (kind_is g) h)
    reads_t (function x ps) n g t B h r =
        reads_f ps (after x n) g.1 (t + 1) (note x (at σ x) t B) (here_args h) (reads_note x (at σ x) t r (reads_symbol R (at σ x) t (apply_all σ ps) (kind_is g.0) h))
    reads_t (context x q) n g t B h r =
        reads_t q (after x n) g.1 (t + hole_row (as_context (at σ x))) (note x (at σ x) t B) (here_hole (as_context (at σ x)) (apply σ q) h)
        (reads_note x (at σ x) t r (reads_context R (at σ x) t (apply σ q) (kind_is g.0) h))

    reads_f : (ps : Patterns) (n : ℕ) → GoodF Q ps n → (t : ℕ) (B : List Entry) → HereF R t (apply_all σ ps) → Reads R B → Reads R (firsts_f σ ps t B)
    reads_f nil n g t B h r = r
    reads_f (cons q ps) n g t B h r =
        reads_f ps (after_t q n) g.1 (t + size (apply σ q)) (firsts_t σ q t B) (here_next (apply σ q) (apply_all σ ps) h)
        (reads_t q n g.0 t B (here_first (apply σ q) (apply_all σ ps) h) r)
    reads_f (sequence x ps) n g t B h r =
        reads_f ps (after x n) g.1 (t + rows (as_forest (at σ x))) (note x (at σ x) t B) (here_drop (as_forest (at σ x)) (apply_all σ ps) h)
        (reads_note x (at σ x) t r (reads_forest R (at σ x) t (apply_all σ ps) (kind_is g.0) h))

module _ (Allowed : ℕ → Value → Type 0) (allowed? : (x : ℕ) (v : Value) → Dec (Allowed x v)) {Q : List Kind} {P : Pattern} {T : Term} {σ : List Value} (g : Numbered P Q)
    (s : Solves Allowed Q σ P T) where
  read_firsts : Reads (T ◂ none) (firsts P σ)
  unfolding forest_from_row
  read_firsts =
      reads_t Q σ s.right (T ◂ none) P 0 g.numbered 0 [] (record { rest = none; shows = ap (λ (U : Term). U ◂ none) (flip s.equal) }) (record { back = refl; fits = tt })

  right_kinds : kinds (values (firsts P σ)) ≡ Q
  right_kinds = ap kinds (complete Allowed allowed? g s).1 ∙ s.right

  -- the record of a matcher means the matcher
  pub round : read_off Q (T ◂ none) (record_of P σ) ≡ σ
  round =
      ap (λ (K : List Kind). read_off K (T ◂ none) (record_of P σ)) (flip right_kinds) ∙ read_firsts.back ∙ (complete Allowed allowed? g s).1

  -- and is no bad record
  pub round_good : GoodRecord Q (T ◂ none) (record_of P σ)
  round_good = rw right_kinds at read_firsts.fits
