-- Each pattern row adds so many rows to the instance; together they are all of it.
use Prim.Native.Nat.{ℕ, zero, suc, ◌+◌, ◌-◌, ◌*◌, ◌<◌, ◌≤◌}
use mathlib.Core.Path.{◌≡◌, refl, ap, ◌∙◌}
use mathlib.Core.List.{List}
use lib.ListN.{length, get_or}
use native.Mathlib.Omega.{arith}
use native.Mathlib.Decide.{dec_lt, ℕ_discrete}
use Rattle.meaning.specs.Forest.{Forest, Term, ◌◂◌, rows, size, ◌⊕◌, Context, hole, node, plug}
use Rattle.meaning.specs.Pattern.{Pattern, Patterns, Kind, an_individual, a_sequence, a_function, a_context}
use Rattle.meaning.specs.Matcher.{Value, at, as_term, as_forest, as_context, apply, apply_all}
use Rattle.meaning.proofs.Laws.{rows_of}
use Rattle.pattern.specs.Rows.{code}
use Rattle.pattern.specs.Places.{Variable, PatternAt, at_symbol, at_individual, at_function, at_context, PatternsAt, at_nil, at_cons, at_sequence}
use Rattle.instance.specs.Places.{Ground, meant}
use Rattle.instance.specs.Counting.{beside_hole, adds, row_addition, RowIs, a_symbol, a_variable, RowPre, RowPost, RowsPre, RowsPost}
use Rattle.instance.proofs.Values.{its}

pub plug_adds : (c : Context) (U : Term) → size (plug c U) ≡ beside_hole c + size U
unfolding plug rows beside_hole
plug_adds hole U = omega arith
plug_adds (node l left c right) U = omega (arith, plug_adds c U, rows_of left (plug c U ◂ right))

-- sums
unfoldable pub total : (ℕ → ℕ) → ℕ → ℕ → ℕ
total f a zero = 0
total f a (suc k) = f a + total f (a + 1) k

total_both : (f : ℕ → ℕ) (a j k : ℕ) → total f a (j + k) ≡ total f a j + total f (a + j) k
unfolding total
total_both f a zero k =
    let y : 0 + k ≡ k = omega arith in
    let z : a + 0 ≡ a = omega arith in
    rw (y, z) (omega arith)
total_both f a (suc j) k =
    let y : suc j + k ≡ suc (j + k) = omega arith in
    let z : a + 1 + j ≡ a + suc j = omega arith in
    rw y (omega (arith, rw z at (total_both f (a + 1) j k)))

pub total_more : (f : ℕ → ℕ) (a k : ℕ) → total f a (k + 1) ≡ total f a k + f (a + k)
unfolding total
total_more f a k = omega (arith, total_both f a k 1)

total_none : (f : ℕ → ℕ) (a k : ℕ) → k ≡ 0 → total f a k ≡ 0
unfolding total
total_none f a k e = rw e

total_first : (f : ℕ → ℕ) (a k : ℕ) → 1 ≤ k → total f a k ≡ f a + total f (a + 1) (k - 1)
unfolding total
total_first f a zero h = absurd (omega arith)
total_first f a (suc k) h =
    let z : suc k - 1 ≡ k = omega arith in
    rw z

-- what a row of the pattern adds
abbrev pub adding : List ℕ → List ℕ → List Value → ℕ → ℕ
adding K N σ i = row_addition σ (get_or K i 0) (get_or N i 0)

here : (K N : List ℕ) (σ : List Value) (p k x : ℕ) → get_or K p 0 ≡ k → get_or N p 0 ≡ x → adding K N σ p ≡ row_addition σ k x
here K N σ p k x a b = rw (a, b)

module _ {L S W : List ℕ} {Q : List Kind} {R : Forest} (g : Ground L S W Q R) {x : ℕ} where
  pub adds_individual : Variable Q an_individual x → adds (at (meant W Q R) x) ≡ size (as_term (at (meant W Q R) x))
  adds_individual v = rw (its g v).is

  pub adds_sequence : Variable Q a_sequence x → adds (at (meant W Q R) x) ≡ rows (as_forest (at (meant W Q R) x))
  adds_sequence v = rw (its g v).is

  pub adds_function : Variable Q a_function x → adds (at (meant W Q R) x) ≡ 1
  adds_function v = rw (its g v).is

  pub adds_context : Variable Q a_context x → adds (at (meant W Q R) x) ≡ beside_hole (as_context (at (meant W Q R) x))
  adds_context v = rw (its g v).is

module _ {K N Z L S W : List ℕ} {Q : List Kind} {R : Forest} (g : Ground L S W Q R) where
  mutual
    unfolding apply rows ◌⊕◌

    pub sum_term : {p : ℕ} {q : Pattern} → PatternAt K N Z Q p q → (k : ℕ) → get_or Z p 0 ≡ k → total (adding K N (meant W Q R)) p k ≡ size (apply (meant W Q R) q)
    sum_term {p} (at_symbol {f = f} r a) k e =
        omega (arith, total_first (adding K N (meant W Q R)) p k (omega (arith, r.some)), here K N (meant W Q R) p 0 f r.kinded r.named, sum_list a (k - 1) (omega (arith, r.some)))
    sum_term {p} (at_individual {x = x} r v z) k e =
        omega (arith, total_first (adding K N (meant W Q R)) p k (omega arith), total_none (adding K N (meant W Q R)) (p + 1) (k - 1) (omega arith), here K N (meant W Q R) p (code an_individual) x r.kinded r.named, adds_individual g v)
    sum_term {p} (at_function {x = x} r v a) k e =
        omega (arith, total_first (adding K N (meant W Q R)) p k (omega (arith, r.some)), here K N (meant W Q R) p (code a_function) x r.kinded r.named, adds_function g v, sum_list a (k - 1) (omega (arith, r.some)))
    sum_term {p} (at_context {x = x} {q = q} r v z a) k e =
        omega (arith, total_first (adding K N (meant W Q R)) p k (omega arith), here K N (meant W Q R) p (code a_context) x r.kinded r.named, adds_context g v, sum_term a (k - 1) (omega arith), plug_adds (as_context (at (meant W Q R) x)) (apply (meant W Q R) q))

    pub sum_list : {p e : ℕ} {ps : Patterns} → PatternsAt K N Z Q p e ps → (k : ℕ) → p + k ≡ e → total (adding K N (meant W Q R)) p k ≡ rows (apply_all (meant W Q R) ps)
    sum_list {p} (at_nil h l) k e = total_none (adding K N (meant W Q R)) p k (omega arith)
    sum_list {p} (at_cons {q = q} {ps = ps} a l b) k e =
        let j : ℕ = k - get_or Z p 0 in
        let y : k ≡ get_or Z p 0 + j = omega arith in
        omega (arith, ap (total (adding K N (meant W Q R)) p) y, total_both (adding K N (meant W Q R)) p (get_or Z p 0) j, sum_term a (get_or Z p 0) refl, sum_list b j (omega arith))
    sum_list {p} (at_sequence {x = x} {ps = ps} r v z l b) k e =
        omega (arith, total_first (adding K N (meant W Q R)) p k (omega arith), here K N (meant W Q R) p (code a_sequence) x r.kinded r.named, adds_sequence g v, sum_list b (k - 1) (omega arith), rows_of (as_forest (at (meant W Q R) x)) (apply_all (meant W Q R) ps))

first : {i p : ℕ} {A : Type 0} → Dec (i ≡ p) → p ≤ i → (i ≡ p → A) → (p + 1 ≤ i → A) → A
first (yes e) l f g = f e
first (no n) l f g = g (omega arith)

either : {i e : ℕ} {A : Type 0} → Dec (i < e) → (i < e → A) → (e ≤ i → A) → A
either (yes h) f g = f h
either (no n) f g = g (omega arith)

known : {K N : List ℕ} {Q : List Kind} {p i x : ℕ} (v : Kind) → i ≡ p → get_or K p 0 ≡ code v → get_or N p 0 ≡ x → Variable Q v x → RowIs K N Q i
known v e a b h = rw e (a_variable v a (rw b h))

-- every row of a pattern is a symbol's or a variable's
module _ {K N Z : List ℕ} {Q : List Kind} where
  mutual
    pub row_term : {p : ℕ} {q : Pattern} → PatternAt K N Z Q p q → (i : ℕ) → p ≤ i → i < p + get_or Z p 0 → RowIs K N Q i
    row_term {p} (at_symbol r a) i l h = first (ℕ_discrete i p) l (λ e. rw e (a_symbol r.kinded)) (λ m. row_list a i m h)
    row_term {p} (at_individual r v z) i l h = known an_individual (omega arith) r.kinded r.named v
    row_term {p} (at_function r v a) i l h = first (ℕ_discrete i p) l (λ e. known a_function e r.kinded r.named v) (λ m. row_list a i m h)
    row_term {p} (at_context r v z a) i l h = first (ℕ_discrete i p) l (λ e. known a_context e r.kinded r.named v) (λ m. row_term a i m (omega arith))

    pub row_list : {p e : ℕ} {ps : Patterns} → PatternsAt K N Z Q p e ps → (i : ℕ) → p ≤ i → i < e → RowIs K N Q i
    row_list (at_nil x y) i l h = absurd (omega arith)
    row_list {p} (at_cons a m b) i l h = either (dec_lt i (p + get_or Z p 0)) (λ n. row_term a i l n) (λ n. row_list b i n h)
    row_list {p} (at_sequence r v z m b) i l h = first (ℕ_discrete i p) l (λ e. known a_sequence e r.kinded r.named v) (λ n. row_list b i n h)

-- the rows below `row` add so many
pub record Summed (S K N W : List ℕ) (row sum : ℕ) : Type 0 where
  pub low : row ≤ length K
  pub few : sum ≤ 2048 * row
  pub is : (L : List ℕ) (Q : List Kind) (R : Forest) (Z : List ℕ) (P : Pattern) → Ground L S W Q R → PatternAt K N Z Q 0 P → get_or Z 0 0 ≡ length K
      → sum ≡ total (adding K N (meant W Q R)) 0 row

pub summed_none : {S K N W : List ℕ} → Summed S K N W 0 0
unfolding total
summed_none = record { low = omega arith; few = omega arith; is = λ L Q R Z P g a e. refl }

row_of : {K N Z : List ℕ} {Q : List Kind} {P : Pattern} {row : ℕ} → PatternAt K N Z Q 0 P → get_or Z 0 0 ≡ length K → row < length K → RowIs K N Q row
row_of {row = row} a e h = row_term a row (omega arith) (omega arith)

pub row_pre : {S K N W : List ℕ} {row : ℕ} → RowsPre S K N W → row < length K → RowPre S K N W row
row_pre p h =
    let s = p.some in
    record { in_kind = h; in_name = omega (arith, p.named); some = (s.0, s.1, s.2, s.5, row_of s.6 s.7 h) }

pub summed_more : {S K N W : List ℕ} {row sum r : ℕ} → Summed S K N W row sum → row < length K → RowPost S K N W row r → Summed S K N W (row + 1) (sum + r)
summed_more {S} {K} {N} {W} {row} {sum} {r} s h p =
    record {
      low = omega arith;
      few = omega (arith, s.few, p.few);
      is = λ L Q R Z P g a e.
          let z : 0 + row ≡ row = omega arith in
          omega (arith, s.is L Q R Z P g a e, p.is L Q R g (row_of a e h), rw z at (total_more (adding K N (meant W Q R)) 0 row));
    }

pub summed_all : {S K N W : List ℕ} {row sum : ℕ} → Summed S K N W row sum → length K ≤ row → RowsPost S K N W sum
summed_all {K = K} {N = N} {W = W} {row = row} s h =
    record {
      is = λ L Q R Z P g a e.
          let z : row ≡ length K = omega (arith, s.low) in
          s.is L Q R Z P g a e ∙ sum_term g a row (omega arith);
    }
