-- The heads of the rows: the parts of a row, and one turn of the loop that lays the rows from the last one up.
use mathlib.Core.Path.{◌≡◌, refl, sym, ap, ap₂, ◌∙◌, subst}
use mathlib.Core.Logic.{⊎_elim}
use mathlib.Core.Bool.{Bool, true}
use Prim.Native.Nat.{ℕ, zero, suc, ◌+◌, ◌≤◌, ◌<◌}
use native.Mathlib.Omega.{arith}
use native.Mathlib.Nat.{eq-or-lt_of_le}
use lib.ListN.{length, set}
use lib.Seq.{get_or-set_same, get_or-set_other}
use Rattle.expression.specs.Rule.{left_of, right_of}
use Rattle.letters.specs.declared.Head.{Head}
use Rattle.letters.specs.declared.Row.{Row}
use Rattle.letters.specs.declared.Tables.{Tables}
use Rattle.letters.specs.Tables.{row_in, name_of, first_of, null_of, cont_of, ends_of}
use Rattle.letters.specs.Following.{head_set, head_null, HeadRow, Shape, PartsAre, followed, Laid}

left_least : (k s : ℕ) → s ≤ left_of k s
left_least zero s = omega arith
left_least (suc zero) s = omega arith
left_least (suc (suc k)) s = omega arith

right_least : (k s z : ℕ) → s ≤ right_of k s z
right_least zero s z = omega arith
right_least (suc zero) s z = omega arith
right_least (suc (suc zero)) s z = omega arith
right_least (suc (suc (suc zero))) s z = omega arith
right_least (suc (suc (suc (suc k)))) s z = omega arith

-- a kind that is none of the first four
pub is_rest : (k : ℕ) → (k ≡ 0 → ⊥) → (k ≡ 1 → ⊥) → (k ≡ 2 → ⊥) → (k ≡ 3 → ⊥) → (j : ℕ) × (k ≡ suc (suc (suc (suc j))))
is_rest zero a b c d = absurd (a refl)
is_rest (suc zero) a b c d = absurd (b refl)
is_rest (suc (suc zero)) a b c d = absurd (c refl)
is_rest (suc (suc (suc zero))) a b c d = absurd (d refl)
is_rest (suc (suc (suc (suc j)))) a b c d = (j, refl)

pub parts_leaf : (k s z : ℕ) → k < 2 → PartsAre k s z s s
parts_leaf zero s z h = (refl, refl)
parts_leaf (suc zero) s z h = (refl, refl)
parts_leaf (suc (suc k)) s z h = absurd (omega arith)

pub parts_two : (k s z : ℕ) → 2 ≤ k → k < 4 → PartsAre k s z (s + 1) (s + 1 + z)
parts_two zero s z g h = absurd (omega arith)
parts_two (suc zero) s z g h = absurd (omega arith)
parts_two (suc (suc zero)) s z g h = (refl, refl)
parts_two (suc (suc (suc zero))) s z g h = (refl, refl)
parts_two (suc (suc (suc (suc k)))) s z g h = absurd (omega arith)

pub parts_one : (k s z : ℕ) → 4 ≤ k → PartsAre k s z (s + 1) (s + 1)
parts_one zero s z h = absurd (omega arith)
parts_one (suc zero) s z h = absurd (omega arith)
parts_one (suc (suc zero)) s z h = absurd (omega arith)
parts_one (suc (suc (suc zero))) s z h = absurd (omega arith)
parts_one (suc (suc (suc (suc k)))) s z h = (refl, refl)

-- ---- one turn of the loop that lays the rows from the last one up

module _ (kind size f f' : ℕ → ℕ) (g g' : ℕ → Bool) (i : ℕ) (F : (j : ℕ) → i < j → f' j ≡ f j) (G : (j : ℕ) → i < j → g' j ≡ g j) where
  -- a row behind i is not touched
  head_same : (s : ℕ) → i < s → HeadRow kind size f g s → HeadRow kind size f' g' s
  head_same s h r =
      let l = left_of (kind s) s in
      let m = right_of (kind s) s (size (s + 1)) in
      let hl : i < l = omega (arith, left_least (kind s) s) in
      let hm : i < m = omega (arith, right_least (kind s) s (size (s + 1))) in (
        F s h ∙ r.0 ∙ ap₂ (λ (x : ℕ) (y : Bool). head_set (kind s) s x y (f m)) (sym (F l hl)) (sym (G l hl))
            ∙ ap (head_set (kind s) s (f' l) (g' l)) (sym (F m hm)),
        G s h ∙ r.1 ∙ ap₂ (head_null (kind s)) (sym (G l hl)) (sym (G m hm)),
      )

  -- the row i has its parts behind it, or does not look at them
  set_same : (k z : ℕ) → head_set k i (f (left_of k i)) (g (left_of k i)) (f (right_of k i z)) ≡ head_set k i (f' (left_of k i)) (g' (left_of k i)) (f' (right_of k i z))
  set_same zero z = refl
  set_same (suc zero) z = refl
  set_same (suc (suc zero)) z = rw (F (i + 1) (omega arith), G (i + 1) (omega arith), F (i + 1 + z) (omega arith))
  set_same (suc (suc (suc zero))) z = rw (F (i + 1) (omega arith), F (i + 1 + z) (omega arith))
  set_same (suc (suc (suc (suc k)))) z = sym (F (i + 1) (omega arith))

  null_same : (k z : ℕ) → head_null k (g (left_of k i)) (g (right_of k i z)) ≡ head_null k (g' (left_of k i)) (g' (right_of k i z))
  null_same zero z = refl
  null_same (suc zero) z = refl
  null_same (suc (suc zero)) z = rw (G (i + 1) (omega arith), G (i + 1 + z) (omega arith))
  null_same (suc (suc (suc zero))) z = rw (G (i + 1) (omega arith), G (i + 1 + z) (omega arith))
  null_same (suc (suc (suc (suc k)))) z = refl

module _ (kind name size : ℕ → ℕ) (tables : Tables) (i n : ℕ) (h : Head) (few : i < length tables.rows)
    (first : h.first ≡ head_set (kind i) i (first_of tables (left_of (kind i) i)) (null_of tables (left_of (kind i) i)) (first_of tables (right_of (kind i) i (size (i + 1)))))
    (null : h.null ≡ head_null (kind i) (null_of tables (left_of (kind i) i)) (null_of tables (right_of (kind i) i (size (i + 1))))) where
  abbrev laid : Row
  laid = record { name = name i; head = h; after = record { next = 0; end = true } }

  abbrev more : Tables
  more = record { rows = set tables.rows i laid }

  pub laid_turn : {before : ℕ} → before ≤ i + 1 → Laid kind name size n tables before → Laid kind name size n more i
  laid_turn b r =
      record {
        names = each (λ s. name_of more s ≡ name s) (ap (λ (x : Row). x.name) own) (λ s g l. ap (λ (x : Row). x.name) (same s (omega arith)) ∙ r.names s (omega arith) l);
        heads = each (HeadRow kind size (first_of more) (null_of more)) here
            (λ s g l. head_same kind size (first_of tables) (first_of more) (null_of tables) (null_of more) i F G s (omega arith) (r.heads s (omega arith) l));
        fresh = each (λ s. (cont_of more s ≡ 0) × (ends_of more s ≡ true)) (ap (λ (x : Row). x.after.next) own, ap (λ (x : Row). x.after.end) own)
            (λ s g l. (
              ap (λ (x : Row). x.after.next) (same s (omega arith)) ∙ (r.fresh s (omega arith) l).0,
              ap (λ (x : Row). x.after.end) (same s (omega arith)) ∙ (r.fresh s (omega arith) l).1,
            ));
      }
    where
      each : (P : ℕ → Type 0) → P i → ((s : ℕ) → i + 1 ≤ s → s < n → P s) → (s : ℕ) → i ≤ s → s < n → P s
      each P own later s g l = ⊎_elim (λ e. subst P e own) (λ k. later s (omega arith) l) (eq-or-lt_of_le g)

      same : (j : ℕ) → i < j → row_in more j ≡ row_in tables j
      same j g = get_or-set_other tables.rows i j laid _ (omega arith)

      F : (j : ℕ) → i < j → first_of more j ≡ first_of tables j
      F j g = ap (λ (x : Row). x.head.first) (same j g)

      G : (j : ℕ) → i < j → null_of more j ≡ null_of tables j
      G j g = ap (λ (x : Row). x.head.null) (same j g)

      own : row_in more i ≡ laid
      own = get_or-set_same tables.rows i laid _ few

      here : HeadRow kind size (first_of more) (null_of more) i
      here = (
        ap (λ (x : Row). x.head.first) own ∙ first ∙ set_same kind size _ _ _ _ i F G (kind i) (size (i + 1)),
        ap (λ (x : Row). x.head.null) own ∙ null ∙ null_same kind size (first_of tables) (first_of more) _ _ i F G (kind i) (size (i + 1)),
      )

pub parts_in : (kind size : ℕ → ℕ) (n s l r : ℕ) → Shape kind size n → s < n → PartsAre (kind s) s (size (s + 1)) l r
    → PartsAre (kind s) s (size (s + 1)) l r × ((l < n) × (r < n))
parts_in kind size n s l r h b k = (k, (rw k.0 (h s b).0, rw k.1 (h s b).1))

-- ---- what comes after the left part

pub follow_keep : {A : Type 0} (k : ℕ) (o l v : A) → (k ≡ 2 → ⊥) → k < 4 → v ≡ followed k o l v
follow_keep zero o l v n h = refl
follow_keep (suc zero) o l v n h = refl
follow_keep (suc (suc zero)) o l v n h = absurd (n refl)
follow_keep (suc (suc (suc zero))) o l v n h = refl
follow_keep (suc (suc (suc (suc k)))) o l v n h = absurd (omega arith)

pub follow_loop : {A : Type 0} (k : ℕ) (o l v : A) → 4 ≤ k → l ≡ followed k o l v
follow_loop zero o l v h = absurd (omega arith)
follow_loop (suc zero) o l v h = absurd (omega arith)
follow_loop (suc (suc zero)) o l v h = absurd (omega arith)
follow_loop (suc (suc (suc zero))) o l v h = absurd (omega arith)
follow_loop (suc (suc (suc (suc k)))) o l v h = refl
