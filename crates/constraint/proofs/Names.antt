-- The check of the names: the marks that it makes of the first numbers, and its walk over the whole expressions. And that a named
-- expression is a variable's constraint.
use Prim.Native.Nat.{ℕ, ◌+◌, ◌-◌, ◌≤◌, ◌<◌}
use mathlib.Core.Path.{◌≡◌, refl, sym, ap, ◌∙◌}
use mathlib.Core.Bool.{Bool, true, false}
use mathlib.Core.List.{List, [], ◌∷◌, ◌++◌}
use lib.ListN.{length, get_or, set, length-set, length-append, replicate, length-replicate, get_or-replicate, get_or-eq_default}
use lib.Seq.{get_or-set_same, get_or-set_other}
use native.Mathlib.Omega.{arith}
use native.Mathlib.Decide.{ℕ_discrete, dec_lt}
use Rattle.meaning.specs.Calls.{Says}
use Rattle.meaning.specs.Pattern.{Kind}
use Rattle.meaning.proofs.Answers.{says_yes, says_no, said_no}
use Rattle.meaning.proofs.Lists.{look_some}
use Rattle.expression.specs.Expression.{Expression}
use Rattle.expression.specs.Rows.{StartsAt}
use Rattle.expression.specs.Columns.{rows, size_rows}
use Rattle.expression.proofs.Columns.{sizes_are}
use Rattle.expression.proofs.Placed.{rows_positive, total}
use Rattle.expression.proofs.Tables.{kind_length}
use Rattle.expression.proofs.Places.{Walked, walk_begins, walk_meets, walk_on, later_start, one_start, start_size, start_in, sizes_length, place_total}
use Rattle.constraint.specs.Obeys.{Constraint, free, bound}
use Rattle.constraint.specs.Good.{GoodConstraints}
use Rattle.constraint.specs.Pair.{NamedPre}
use Rattle.constraint.specs.Named.{VariableNames, AllNamed}
use Rattle.constraint.proofs.Constraints.{numbers_many, pair_at}
use Rattle.constraint.proofs.Pairs.{pair_bound}
use Rattle.constraint.proofs.Values.{pair_low}

-- ---- the marks

-- one of the first n variables has this first number
abbrev FirstIs : List ℕ → ℕ → ℕ → Type 0
FirstIs list n i = (x : ℕ) × (x < n) × (get_or list (x + x) 0 ≡ i)

-- the marks made of the first n variables
pub record NamesMarked (list : List ℕ) (n : ℕ) (marks : List Bool) : Type 0 where
  pub long : length marks ≡ 65
  pub each : (i : ℕ) → i < 65 → Says (get_or marks i false) (FirstIs list n i)

pub marked_none : (list : List ℕ) → NamesMarked list 0 (replicate 65 false)
marked_none list =
    record { long = length-replicate 65 false; each = λ i h. rw (get_or-replicate 65 i false false h) (says_no {P = FirstIs list 0 i} (λ p. omega (arith, p.1))) }

pub marked_one : {list : List ℕ} {n : ℕ} {marks : List Bool} → NamesMarked list n marks → get_or list (n + n) 0 < 65 → NamesMarked list (n + 1) (set marks (get_or list (n + n) 0) true)
marked_one {list} {n} {marks} m h = record { long = length-set marks first true ∙ m.long; each = λ i l. go i l (ℕ_discrete i first) }
  where
    first : ℕ
    first = get_or list (n + n) 0

    go : (i : ℕ) → i < 65 → Dec (i ≡ first) → Says (get_or (set marks first true) i false) (FirstIs list (n + 1) i)
    go i l (yes e) = rw (e, get_or-set_same marks first true false (omega (arith, m.long))) (says_yes (n, omega arith, refl))
    go i l (no d) = rw (get_or-set_other marks first i true false d) (forth, back)
      where
        forth : get_or marks i false ≡ true → FirstIs list (n + 1) i
        forth t = let p = (m.each i l).0 t in (p.0, omega (arith, p.1), p.2)

        back : FirstIs list (n + 1) i → get_or marks i false ≡ true
        back (x, b, e) = earlier (ℕ_discrete x n)
          where
            earlier : Dec (x ≡ n) → get_or marks i false ≡ true
            earlier (yes z) = absurd (d (sym (rw z at e)))
            earlier (no z) = (m.each i l).1 (x, omega arith, e)

-- the variables' first numbers are in the list, and each has a mark
pub first_low : {variables : ℕ} {size list : List ℕ} → NamedPre variables size list → (x : ℕ) → x < variables → (x + x < length list) × (get_or list (x + x) 0 < 65)
first_low pre x h =
    let s = pre.some in
    let k = look_some s.3 x (omega (arith, s.7)) in
    (omega (arith, numbers_many s.6, s.7), omega (arith, pair_low s.5 (pair_at x s.6 k.1)))

-- the list is twice as long as the variables are many, and the table has at most 64 rows
pub lengths_known : {variables : ℕ} {size list : List ℕ} → NamedPre variables size list
    → (length list ≡ variables + variables) × (length size ≤ 64) × ((es : List Expression) × (size ≡ size_rows es))
lengths_known pre =
    let s = pre.some in
    let q = sizes_are s.2 s.5 in
    (omega (arith, numbers_many s.6, s.7), omega (arith, s.5.most, kind_length s.5, sizes_length s.2 q), (s.2, q))

-- ---- the walk

-- a name is a variable's: behind the list there is none
pub by_variable : (list : List ℕ) (n row : ℕ) → length list ≤ n + n → (m : VariableNames list row) → m.0 < n
by_variable list n row long (x, e) = go (dec_lt x n)
  where
    go : Dec (x < n) → x < n
    go (yes h) = h
    go (no h) = absurd (omega (arith, e, get_or-eq_default list 0 {n = x + x} (omega arith)))

-- what starts before the row is named; the walk stands at a first row, or at the end
pub record NamedTo (size list : List ℕ) (row : ℕ) : Type 0 where
  pub each : (es : List Expression) → size ≡ size_rows es → Walked es row × ((e : Expression) (r : ℕ) → StartsAt es e r → r < row → VariableNames list r)

pub named_none : (size list : List ℕ) → NamedTo size list 0
named_none size list = record { each = λ es q. (walk_begins es, λ e r s h. absurd (omega arith)) }

module _ {size list : List ℕ} {row : ℕ} (w : NamedTo size list row) where
  pub named_all : length size ≤ row → (es : List Expression) → size ≡ size_rows es → AllNamed es list
  named_all h es q = record { each = λ e r s. (w.each es q).1 e r s (omega (arith, start_in s, rows_positive e, sizes_length es q)) }

  module _ (h : row < length size) where
    -- the expression at which the walk stands
    here : (es : List Expression) → size ≡ size_rows es → (e : Expression) × StartsAt es e row
    here es q = walk_meets (w.each es q).0 (omega (arith, sizes_length es q))

    pub next_inside : (es : List Expression) → size ≡ size_rows es → (0 < get_or size row 0) × (row + get_or size row 0 ≤ length size)
    next_inside es q =
        let s = here es q in
        (omega (arith, start_size q s.1, rows_positive s.0), omega (arith, start_size q s.1, start_in s.1, sizes_length es q))

    module _ {n : ℕ} {marks : List Bool} (m : NamesMarked list n marks) (l : row + 1 < 65) where
      pub named_one : get_or marks (row + 1) false ≡ true → NamedTo size list (row + get_or size row 0)
      named_one t = record { each = λ es q. let s = here es q in rw (start_size q s.1) (walk_on s.1, λ e r o b. go s.1 o b (dec_lt r row) ((w.each es q).1 e r o)) }
        where
          at : VariableNames list row
          at = let p = (m.each (row + 1) l).0 t in (p.0, omega (arith, p.2))

          go : {es : List Expression} {d e : Expression} {r : ℕ} → StartsAt es d row → StartsAt es e r → r < row + rows d → Dec (r < row) → (r < row → VariableNames list r) → VariableNames list r
          go s o b (yes x) f = f x
          go {r = r} s o b (no x) f = same (dec_lt row r)
            where
              same : Dec (row < r) → VariableNames list r
              same (yes y) = absurd (omega (arith, later_start s o y))
              same (no y) = let z : r ≡ row = omega arith in rw z at

      pub named_not : length list ≤ n + n → get_or marks (row + 1) false ≡ false → (es : List Expression) → size ≡ size_rows es → AllNamed es list → ⊥
      named_not k f es q a =
          let s = here es q in
          let x = a.each s.0 row s.1 in
          said_no (m.each (row + 1) l) f (x.0, by_variable list n row k x, omega (arith, x.1))

-- ---- what the rule says

-- an empty table has none to forget
pub none_forgotten : (list : List ℕ) → AllNamed [] list
none_forgotten list = record { each = λ e row s. absurd (omega (arith, start_in s, rows_positive e)) }

-- one expression is named where a variable's first number is 1
pub one_named : (e : Expression) (list : List ℕ) (x : ℕ) → get_or list (x + x) 0 ≡ 1 → AllNamed (e ∷ []) list
one_named e list x h = record { each = λ d row s. (x, omega (arith, only s.before d s.behind s.among, place_total s)) }
  where
    only : (before : List Expression) (d : Expression) (behind : List Expression) → e ∷ [] ≡ before ++ (d ∷ behind) → total before ≡ 0
    only [] d behind q = refl
    only (b ∷ before) d behind q = absurd (omega (arith, simp length-append at (ap length q)))

-- each is the constraint of a variable
pub named_counts : {es : List Expression} {Q : List Kind} {list : List ℕ} {cs : List Constraint} → GoodConstraints es Q list cs → AllNamed es list → (e : Expression) (row : ℕ) → StartsAt es e row
    → (x : ℕ) × (flag : ℕ) × (get_or cs x free ≡ bound e flag)
named_counts {es} {Q} {list} {cs} g a e row s = go (a.each e row s)
  where
    go : VariableNames list row → (x : ℕ) × (flag : ℕ) × (get_or cs x free ≡ bound e flag)
    go (x, p) =
        let k = look_some Q x (by_variable list (length Q) row (omega (arith, numbers_many g)) (x, p)) in
        let c = pair_bound (pair_at x g k.1) (λ z. omega (arith, z, p)) in
        let z : get_or list (x + x) 0 - 1 ≡ row = omega arith in
        let f : c.0 ≡ e = one_start (rw z at c.2) s in
        (x, get_or list (x + x + 1) 0, rw f at c.1)
