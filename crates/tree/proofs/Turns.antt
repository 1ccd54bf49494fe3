-- The turns of the loop that checks how the rows are nested.
use Prim.Native.Nat.{ℕ, zero, suc, ◌+◌, ◌<◌, ◌≤◌, ◌-◌}
use mathlib.Core.Path.{◌≡◌, refl, ap, ◌∙◌, sym}
use mathlib.Core.Logic.{◌≢◌}
use mathlib.Core.List.{List, [], ◌∷◌}
use lib.ListN.{length, get_or, set, length-set}
use lib.Seq.{get_or-set_same}
use native.Mathlib.Omega.{arith}
use native.Mathlib.Decide.{ℕ_discrete}
use native.Mathlib.Numerals.{add-one}
use Rattle.tree.specs.Shape.{Shape}
use Rattle.tree.specs.Endings.{one, endings, NestedPre}
use Rattle.tree.proofs.Endings.{one_yes, one_no, endings_before}
use Rattle.tree.proofs.Open.{stack, stack_length, stack_set, stack_top, Ends, outer, inner, none_left, not_beyond, not_deep, within, without, Whole, whole_root, whole_close, whole_open}

-- how many of the ends are e
unfoldable pub many : ℕ → List ℕ → ℕ
many e [] = 0
many e (x ∷ xs) = one (ℕ_discrete x e) + many e xs

none_before : {n t e : ℕ} {es : List ℕ} → Ends n e es → t < e → many t es ≡ 0
unfolding many
none_before (outer h) f = refl
none_before {t = t} (inner {e = e} h k) f = omega (arith, one_no (ℕ_discrete e t) (λ z. omega arith), none_before {t = t} k (omega arith))

-- the k of the n open rows that end at the row are closed
record Closed (S E : List ℕ) (n k row : ℕ) : Type 0 where
  fewer : k < n
  whole : Whole S row (stack E (n - k))
  later : row < get_or E (n - k - 1) 0
  kept : (e : ℕ) → row < e → many e (stack E (n - k)) ≡ many e (stack E n)

outermost : {n t : ℕ} → Ends n t [] → t ≡ n
outermost (outer h) = h

closes : {S E : List ℕ} {row : ℕ} (n k : ℕ) → Whole S row (stack E n) → row < length S → n ≤ 64 → k ≡ many row (stack E n) → Closed S E n k row
unfolding stack many
closes zero k w f g h = absurd (omega (arith, outermost w.ends))
closes {S} {E} {row} (suc n) k w f g h =
    elim (ℕ_discrete (get_or E n 0) row) [
      | yes z ↦
          let o = one_yes (ℕ_discrete (get_or E n 0) row) z in
          let c = closes n (k - 1) (whole_close w (sym z) (omega (arith, stack_length E n))) f (omega arith) (omega arith) in
          let y : suc n - k ≡ n - (k - 1) = omega arith in
          record {
            fewer = omega (arith, c.fewer);
            whole = rw y c.whole;
            later = rw y c.later;
            kept = λ e i. rw y (c.kept e i ∙ omega (arith, one_no (ℕ_discrete (get_or E n 0) e) (λ x. omega arith)));
          }
      | no z ↦
          let b = within w.ends in
          let o = none_before {t = row} (without w.ends) (omega arith) in
          let x : k ≡ 0 = omega (arith, one_no (ℕ_discrete (get_or E n 0) row) z) in
          let y : suc n - k ≡ suc n = omega arith in
          let v : suc n - 1 ≡ n = omega arith in
          record { fewer = omega arith; whole = rw y w; later = rw (y, v) (omega arith); kept = λ e i. rw y }
    ]

-- the ends are the first numbers of the array, so many are opened; among them are the ends of all rows before that are not passed, and
-- what is left decides
pub record Seen (S E : List ℕ) (opened row : ℕ) : Type 0 where
  pub room : 64 ≤ length E
  pub low : opened ≤ 64
  pub whole : Whole S row (stack E opened)
  pub still : (e : ℕ) → row ≤ e → many e (stack E opened) ≡ endings S row e

pub seen_root : {S E : List ℕ} → 64 ≤ length E → get_or E 0 0 ≡ length S → get_or S 0 0 ≡ length S → length S ≢ 0 → Seen S E 1 1
unfolding stack many endings
seen_root {S} {E} a b p q =
    let z : get_or E 0 0 ≡ 0 + get_or S 0 0 = omega arith in
    record { room = a; low = omega arith; whole = rw b (whole_root p q); still = λ e h. ap (λ (x : ℕ). one (ℕ_discrete x e) + 0) z }

pushed : (E : List ℕ) (depth after : ℕ) → depth < length E → stack (set E depth after) (suc depth) ≡ after ∷ stack E depth
unfolding stack
pushed E depth after h = cc (get_or-set_same E depth after 0 h, stack_set E depth depth after (omega arith))

module _ {S E : List ℕ} {opened row : ℕ} (seen : Seen S E opened row) where
  pub all_closed : length S ≤ row → Shape S
  all_closed h = seen.whole.back (none_left seen.whole.ends h (omega (arith, stack_length E opened, seen.low)))

  -- at the row some are closed
  module _ {C : List ℕ} {k depth : ℕ} (pre : NestedPre S C) (inside : row < length S) (ek : k ≡ get_or C row 0) (ed : depth ≡ opened - k) where
    closed : Closed S E opened k row
    closed =
        let z = endings_before {row = row} pre.within (length S) (omega arith) (omega arith) in
        closes opened k seen.whole inside seen.low (omega (arith, pre.told.each row (omega arith), seen.still row (omega arith)))

    pub fewer : k < opened
    fewer = closed.fewer

    open_rows : Whole S row (get_or E (depth - 1) 0 ∷ stack E (depth - 1))
    open_rows = rw (sym (stack_top E depth (omega (arith, fewer)))) (rw ed closed.whole)

    holder : row < get_or E (depth - 1) 0
    holder = rw ed closed.later

    -- the next row is opened, or refused
    module _ {after : ℕ} (is : after ≡ row + get_or S row 0) where
      pub beyond_end : get_or E (depth - 1) 0 < after → Shape S → ⊥
      beyond_end h s = omega (arith, not_beyond holder (open_rows.forth s))

      pub too_deep : 64 ≤ depth → Shape S → ⊥
      too_deep e s = omega (arith, not_deep holder (open_rows.forth s), stack_length E (depth - 1))

      module _ (ends : after ≤ get_or E (depth - 1) 0) (low : depth < 64) where
        more : (e : ℕ) → row + 1 ≤ e → many e (after ∷ stack E depth) ≡ endings S (row + 1) e
        unfolding many endings
        more e h =
            rw (add-one row, ed)
            (omega (arith, closed.kept e (omega arith), seen.still e (omega arith), ap (λ (x : ℕ). one (ℕ_discrete x e)) is))

        pub seen_open : Seen S (set E depth after) (depth + 1) (row + 1)
        seen_open =
            let p = pushed E depth after (omega (arith, seen.room)) in
            let w = whole_open open_rows holder (pre.within.each row inside).0 (omega arith) in
            record {
              room = simp length-set seen.room;
              low = omega arith;
              whole = rw (add-one depth, p, stack_top E depth (omega (arith, fewer)), is) w;
              still = λ e h. rw (add-one depth, p) (more e h);
            }
