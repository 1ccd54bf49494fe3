-- A record is good if and only if it means a substitution, and that is the one that is read off the tree.
use Prim.Native.Nat.{ℕ, zero, suc, ◌+◌, ◌-◌, ◌<◌, ◌≤◌}
use mathlib.Core.Path.{◌≡◌, refl, sym, ap, ap₂, subst, ◌∙◌}
use mathlib.Core.List.{List, [], ◌∷◌}
use native.Mathlib.Omega.{arith}
use native.Mathlib.Nat.{zero-add}
use native.Mathlib.Decide.{dec_lt}
use Rattle.meaning.specs.Forest.{Forest, none, some, Term, term, ◌◂◌, ◌⊕◌, rows, terms, size, Context, hole, node, plug, hole_row}
use Rattle.meaning.specs.Pattern.{Pattern, Kind, an_individual, a_sequence, a_function, a_context, Numbered}
use Rattle.meaning.specs.Matcher.{Value, of_individual, of_sequence, of_function, of_context, Solves}
use Rattle.meaning.specs.Record.{record_of}
use Rattle.meaning.specs.Read.{take_t, from_in, forest_from_row, head_term, cut, value_at, read_off, Fits, GoodRecord}
use Rattle.meaning.specs.Means.{PairMeans, a_term, a_symbol, a_context_value, no_terms, the_root, neighbours, RecordMeans, no_pair, one_pair}
use Rattle.meaning.proofs.Laws.{drop_t, rows_of, take_drop, terms_take, cut_plugs, cut_holds}
use Rattle.meaning.proofs.From.{HereT, here_args, here_drop, here_hole}
use Rattle.meaning.proofs.Round.{reads_tree, reads_symbol, reads_forest, reads_context, round, round_good}

-- WHAT IS MEANT IS READ OFF
here_at : {T : Term} (c : Context) (U : Term) → plug c U ≡ T → HereT (T ◂ none) (hole_row c) U
unfolding forest_from_row
here_at {T} c U e = rw (zero-add (hole_row c)) at (here_hole {R = T ◂ none} {t = 0} c U (record { rest = none; shows = ap (λ (X : Term). X ◂ none) (sym e) }))

pair_read : {T : Term} {k : Kind} {a b : ℕ} {v : Value} → PairMeans T k a b v → (value_at k (T ◂ none) a b ≡ v) × Fits k (T ◂ none) a b
unfolding forest_from_row take_t terms rows
pair_read {T} (a_term c U e p q) = let s = reads_tree (T ◂ none) (of_individual U.label U.args) (hole_row c) refl (here_at c U e) in rw (p, q) (s.back, s.fits)
pair_read {T} (a_symbol c U e p q) = let s = reads_symbol (T ◂ none) (of_function U.label) (hole_row c) U.args refl (here_at c U e) in rw (p, q) (s.back, s.fits)
pair_read {T} (a_context_value c d U e p q) = let s = reads_context (T ◂ none) (of_context d) (hole_row c) U refl (here_at c (plug d U) e) in rw (q, p) (s.back, s.fits)
pair_read {T} (no_terms h q) = rw q (refl, (omega (arith, h), omega arith))
pair_read {T} (the_root p q) = rw (p, q) (refl, (omega arith, omega arith))
pair_read {T} (neighbours c l left f right e p q) =
    let s = reads_forest (T ◂ none) (of_sequence f) (hole_row c + 1 + rows left) right refl (here_drop left (f ⊕ right) (here_args (here_at c (term l (left ⊕ f ⊕ right)) e))) in
    rw (p, q) (s.back, s.fits)

pub means_read : {T : Term} {Q : List Kind} {r : List ℕ} {σ : List Value} → RecordMeans T Q r σ → GoodRecord Q (T ◂ none) r × (read_off Q (T ◂ none) r ≡ σ)
means_read no_pair = (tt, refl)
means_read (one_pair p m) =
    let x = pair_read p in
    let y = means_read m in
    ((x.1, y.0), ap₂ (λ (v : Value) (l : List Value). v ∷ l) x.0 y.1)

-- WHAT IS GOOD MEANS SOMETHING
-- at a row of the tree stands what fills a hole
record Placed (T : Term) (a : ℕ) : Type 0 where
  c : Context
  U : Term
  is : plug c U ≡ T
  row : a ≡ hole_row c
  head : head_term (forest_from_row (T ◂ none) a) ≡ U

placed : (T : Term) (a : ℕ) → a < rows (T ◂ none) → Placed T a
unfolding rows
placed T a h =
    let c : Context = (cut T a).around in
    let U : Term = (cut T a).at in
    let e : plug c U ≡ T = cut_plugs T a in
    let p : a ≡ hole_row c = sym (cut_holds T a (omega arith)) in
    let x = here_at c U e in
    record { c = c; U = U; is = e; row = p; head = ap (λ (i : ℕ). head_term (forest_from_row (T ◂ none) i)) p ∙ ap head_term x.shows }

-- the terms from a row on stand in the argument list of some term
record Holder (T : Term) (a : ℕ) (g : Forest) : Type 0 where
  c : Context
  l : ℕ
  left : Forest
  is : plug c (term l (left ⊕ g)) ≡ T
  row : a ≡ hole_row c + 1 + rows left

join_assoc : (f g h : Forest) → (f ⊕ g) ⊕ h ≡ f ⊕ g ⊕ h
unfolding ◌⊕◌
join_assoc none g h = refl
join_assoc (some l us rest) g h = rw (join_assoc rest g h)

-- before stands left of us among the arguments of l
holder : (l : ℕ) (before us : Forest) (d : ℕ) → d < rows us → Holder (term l (before ⊕ us)) (suc (rows before + d)) (forest_from_row us d)
unfolding forest_from_row rows plug hole_row ◌⊕◌
holder l before none d h = absurd (omega arith)
holder l before (some k vs rest) zero h = record { c = hole; l = l; left = before; is = refl; row = omega arith }
holder l before (some k vs rest) (suc d) h = go (dec_lt d (rows vs)) (holder k none vs d) (holder l (before ⊕ (term k vs ◂ none)) rest (d - rows vs))
  where
    go : (e : Dec (d < rows vs)) → (d < rows vs → Holder (term k (none ⊕ vs)) (suc (rows none + d)) (forest_from_row vs d))
        → (d - rows vs < rows rest → Holder (term l ((before ⊕ (term k vs ◂ none)) ⊕ rest)) (suc (rows (before ⊕ (term k vs ◂ none)) + (d - rows vs))) (forest_from_row rest (d - rows vs)))
        → Holder (term l (before ⊕ some k vs rest)) (suc (rows before + suc d)) (from_in e (forest_from_row vs d) (forest_from_row rest (d - rows vs)))
    go (yes e) i o =
        let x = i e in
        record { c = node l before x.c rest; l = x.l; left = x.left; is = ap (λ (X : Term). term l (before ⊕ (X ◂ rest))) x.is; row = omega (arith, x.row) }
    go (no e) i o =
        let x = o (omega arith) in
        record { c = x.c; l = x.l; left = x.left; is = x.is ∙ ap (term l) (join_assoc before (term k vs ◂ none) rest); row = omega (arith, x.row, rows_of before (term k vs ◂ none)) }

sequence_means : (T : Term) (a b : ℕ) → a ≤ rows (T ◂ none) → b ≤ terms (forest_from_row (T ◂ none) a) → PairMeans T a_sequence a b (of_sequence (take_t b (forest_from_row (T ◂ none) a)))
unfolding take_t rows forest_from_row terms ◌⊕◌
sequence_means T a zero h k = no_terms {a = a} (omega (arith, h)) refl
sequence_means T zero (suc zero) h k = the_root refl refl
sequence_means T zero (suc (suc b)) h k = absurd (omega arith)
sequence_means T (suc d) (suc b) h k = go (dec_lt d (rows T.args)) k
  where
    go : (e : Dec (d < rows T.args)) → suc b ≤ terms (from_in e (forest_from_row T.args d) (forest_from_row none (d - rows T.args)))
        → PairMeans T a_sequence (suc d) (suc b) (of_sequence (take_t (suc b) (from_in e (forest_from_row T.args d) (forest_from_row none (d - rows T.args)))))
    go (yes e) k =
        let g : Forest = forest_from_row T.args d in
        let x = holder T.label none T.args d e in
        neighbours {a = suc d} x.c x.l x.left (take_t (suc b) g) (drop_t (suc b) g) (rw (take_drop (suc b) g) x.is) (omega (arith, x.row)) (sym (terms_take (suc b) g k))
    go (no e) k = absurd (omega arith)

pair_means : (T : Term) (k : Kind) (a b : ℕ) → Fits k (T ◂ none) a b → PairMeans T k a b (value_at k (T ◂ none) a b)
pair_means T an_individual a b f = let p = placed T a f.0 in rw p.head (a_term p.c p.U p.is p.row f.1)
pair_means T a_sequence a b f = sequence_means T a b f.0 f.1
pair_means T a_function a b f = let p = placed T a f.0 in rw p.head (a_symbol p.c p.U p.is p.row f.1)
pair_means T a_context a b f =
    let p = placed T a f.0 in
    let inside : b < a + size p.U = rw p.head at f.2 in
    rw p.head
    (a_context_value {a = a} {b = b} p.c (cut p.U (b - a)).around (cut p.U (b - a)).at (rw (cut_plugs p.U (b - a)) p.is) p.row
    (let e = cut_holds p.U (b - a) (omega (arith, f.1)) in omega (arith, f.1)))

pub read_means : (T : Term) (Q : List Kind) (r : List ℕ) → GoodRecord Q (T ◂ none) r → RecordMeans T Q r (read_off Q (T ◂ none) r)
read_means T [] [] g = no_pair
read_means T [] (a ∷ r) g = absurd g
read_means T (k ∷ Q) [] g = absurd g
read_means T (k ∷ Q) (a ∷ []) g = absurd g
read_means T (k ∷ Q) (a ∷ b ∷ r) g = one_pair (pair_means T k a b g.0) (read_means T Q r g.1)

-- THE RECORD OF A MATCHER MEANS THE MATCHER, and no record means two
module _ (Allowed : ℕ → Value → Type 0) (allowed? : (x : ℕ) (v : Value) → Dec (Allowed x v)) {Q : List Kind} {P : Pattern} {T : Term} {σ : List Value} (g : Numbered P Q)
    (s : Solves Allowed Q σ P T) where
  pub matcher_means : RecordMeans T Q (record_of P σ) σ
  matcher_means =
      subst (λ (τ : List Value). RecordMeans T Q (record_of P σ) τ) (round Allowed allowed? g s) (read_means T Q (record_of P σ) (round_good Allowed allowed? g s))

pub one_meaning : {T : Term} {Q : List Kind} {r : List ℕ} {σ τ : List Value} → RecordMeans T Q r σ → RecordMeans T Q r τ → σ ≡ τ
one_meaning m n = sym (means_read m).1 ∙ (means_read n).1
