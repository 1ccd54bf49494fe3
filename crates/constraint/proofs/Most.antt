-- No more expressions are named than there are variables: 02, #104, refuses a larger table whatever its constraint list.
use Prim.Native.Nat.{ℕ, zero, suc, ◌+◌, ◌≤◌, ◌<◌}
use mathlib.Core.Path.{◌≡◌, sym, ◌∙◌}
use mathlib.Core.List.{List, [], ◌∷◌, ◌++◌, append_assoc}
use lib.ListN.{length, get_or}
use native.Mathlib.Omega.{arith}
use native.Mathlib.Decide.{ℕ_discrete, dec_le}
use Rattle.meaning.specs.Pattern.{Kind}
use Rattle.expression.specs.Expression.{Expression}
use Rattle.expression.specs.Columns.{rows}
use Rattle.expression.proofs.Columns.{table_long}
use Rattle.expression.proofs.Placed.{rows_positive, total, all_many}
use Rattle.expression.proofs.Places.{total_append}
use Rattle.constraint.specs.Obeys.{Constraint}
use Rattle.constraint.specs.Good.{GoodConstraints}
use Rattle.constraint.specs.Named.{VariableNames, AllNamed}
use Rattle.constraint.proofs.Constraints.{numbers_many}
use Rattle.constraint.proofs.Names.{by_variable}

-- how many of the first n numbers are at most a bound
one : {v bound : ℕ} → Dec (v ≤ bound) → ℕ
one (yes h) = 1
one (no h) = 0

unfoldable below : (ℕ → ℕ) → ℕ → ℕ → ℕ
below f zero bound = 0
below f (suc n) bound = one (dec_le (f n) bound) + below f n bound

module _ (f : ℕ → ℕ) where
  below_most : (n bound : ℕ) → below f n bound ≤ n
  unfolding below one
  below_most zero bound = omega arith
  below_most (suc n) bound = go (dec_le (f n) bound) (below_most n bound)
    where
      go : (d : Dec (f n ≤ bound)) → below f n bound ≤ n → one d + below f n bound ≤ suc n
      go (yes h) b = omega arith
      go (no h) b = omega arith

  -- with a higher bound no fewer, and more if one of them lies between
  one_more : {v low high : ℕ} (d : Dec (v ≤ low)) (e : Dec (v ≤ high)) → low ≤ high → one d ≤ one e
  unfolding one
  one_more (yes a) (yes b) h = omega arith
  one_more (yes a) (no b) h = absurd (omega arith)
  one_more (no a) e h = omega arith

  one_between : {v low high : ℕ} (d : Dec (v ≤ low)) (e : Dec (v ≤ high)) → low < v → v ≤ high → one d < one e
  unfolding one
  one_between (yes a) e h k = absurd (omega arith)
  one_between (no a) (yes b) h k = omega arith
  one_between (no a) (no b) h k = absurd (omega arith)

  below_more : (n : ℕ) {low high : ℕ} → low ≤ high → below f n low ≤ below f n high
  unfolding below
  below_more zero h = omega arith
  below_more (suc n) {low} {high} h = omega (arith, one_more (dec_le (f n) low) (dec_le (f n) high) h, below_more n h)

  below_between : (n x : ℕ) {low high : ℕ} → x < n → low < f x → f x ≤ high → below f n low < below f n high
  unfolding below
  below_between zero x l h k = absurd (omega arith)
  below_between (suc n) x {low} {high} l h k = go (ℕ_discrete x n) (λ o. below_between n x o h k)
    where
      go : Dec (x ≡ n) → (x < n → below f n low < below f n high) → one (dec_le (f n) low) + below f n low < one (dec_le (f n) high) + below f n high
      go (yes e) c = omega (arith, one_between (dec_le (f n) low) (dec_le (f n) high) (rw e at h) (rw e at k), below_more n {low = low} {high = high} (omega arith))
      go (no e) c = omega (arith, one_more (dec_le (f n) low) (dec_le (f n) high) (omega arith), c (omega arith))

-- the first numbers of n variables, all that the list has
module _ {all : List Expression} {list : List ℕ} (named : AllNamed all list) (n : ℕ) (long : length list ≤ n + n) where
  abbrev first : ℕ → ℕ
  first x = get_or list (x + x) 0

  -- one name at least for each of es, among the rows that they take
  names_of : (ds es : List Expression) → all ≡ ds ++ es → below first n (total ds) + length es ≤ below first n (total ds + total es)
  names_of ds [] q = omega (arith, below_more first n {low = total ds} {high = total ds + 0} (omega arith))
  names_of ds (e ∷ es) q =
      let m : VariableNames list (total ds) = named.each e (total ds) (record { before = ds; behind = es; among = q; place = sym (table_long ds ∙ all_many rows ds) }) in
      let b = below_between first n m.0 {low = total ds} {high = total ds + rows e} (by_variable list n (total ds) long m) (omega (arith, m.1)) (omega (arith, m.1, rows_positive e)) in
      let t : total (ds ++ (e ∷ [])) ≡ total ds + rows e = omega (arith, total_append ds (e ∷ [])) in
      let h = names_of (ds ++ (e ∷ [])) es (q ∙ sym (append_assoc ds (e ∷ []) es)) in
      let z : total ds + rows e + total es ≡ total ds + (rows e + total es) = omega arith in
      omega (arith, rw (t, z) at h, b)

pub no_more_named : {es : List Expression} {Q : List Kind} {list : List ℕ} {cs : List Constraint} → GoodConstraints es Q list cs → AllNamed es list → length es ≤ length Q
no_more_named {es} {Q} {list} g a =
    let long = numbers_many g in
    let h = names_of a (length Q) (omega arith) [] es (λ i. es) in
    omega (arith, h, below_most (λ x. get_or list (x + x) 0) (length Q) (0 + total es))
