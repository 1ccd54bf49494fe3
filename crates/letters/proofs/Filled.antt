-- One turn of the loop that fills what comes after the rows, from the first row down; the value of a row is left open.
use mathlib.Core.Path.{◌≡◌, refl, sym, ap, ◌∙◌, subst, fun_ext}
use mathlib.Core.Logic.{⊎_elim}
use mathlib.Core.Bool.{Bool, true}
use mathlib.Core.List.{List, [], ◌∷◌, ◌++◌}
use Prim.Native.Nat.{ℕ, zero, suc, ◌+◌, ◌≤◌, ◌<◌}
use native.Mathlib.Numerals.{add-one}
use native.Mathlib.Nat.{eq-or-lt_of_le, add_assoc, add-zero}
use native.Mathlib.Omega.{arith}
use lib.ListN.{length, get_or, set, length-set, get_or-map}
use lib.Seq.{get_or-set_same, get_or-set_other, map-set_same}
use Rattle.expression.specs.Expression.{Expression, symbol, empty, concatenation, choice, repetition}
use Rattle.expression.specs.Rows.{GoodTable}
use Rattle.expression.specs.Columns.{rows}
use Rattle.expression.proofs.Small.{SymbolsFit, AllFit, small_all}
use Rattle.expression.specs.Rule.{number_at, left_of, right_of}
use Rattle.expression.proofs.Ways.{two_ways, three_ways}
use Rattle.expression.proofs.Placed.{rows_positive, total, Placed, Laid, placed_size}
use Rattle.expression.proofs.Tables.{placed_fits, kind_length, good_laid}
use Rattle.letters.specs.declared.Row.{Row}
use Rattle.letters.specs.declared.State.{State}
use Rattle.letters.specs.declared.Tables.{Tables}
use Rattle.letters.specs.Tables.{row_in, name_of, first_of, null_of, cont_of, ends_of}
use Rattle.letters.specs.Following.{PartsAre, followed, over_set, over_end, loop_set, loop_end, Filled, AllFilled, ContsOf, Fresh, SameHeads}

-- ---- what a turn changes

-- at the row i, of the kind k and with z the size of the row below it: the right part gets what comes after the row, then the
-- left part what is to come after it
pub record Turn {A : Type 0} (over loop : ℕ → A → A) (old new : ℕ → A) (i k z : ℕ) : Type 0 where
  pub other : (j : ℕ) → (j ≡ left_of k i → ⊥) → (j ≡ right_of k i z → ⊥) → new j ≡ old j
  pub left : new (left_of k i) ≡ followed k (over (right_of k i z) (old i)) (loop (right_of k i z) (old i)) (old i)
  pub right : (right_of k i z ≡ left_of k i → ⊥) → new (right_of k i z) ≡ old i

-- .. of what p reads from a list: the right part becomes u, the left part w
pub turn : {A X : Type 0} (over loop : ℕ → A → A) (p : X → A) (xs : List X) (d u w : X) (i k z l r : ℕ) → l ≡ left_of k i → r ≡ right_of k i z
    → l < length xs → r < length xs → p u ≡ p (get_or xs i d)
    → p w ≡ followed k (over r (p (get_or xs i d))) (loop r (p (get_or xs i d))) (p (get_or xs i d))
    → Turn over loop (λ j. p (get_or xs j d)) (λ j. p (get_or (set (set xs r u) l w) j d)) i k z
turn over loop p xs d u w i k z l r pl pr hl hr v q =
    record {
      other = λ j a b. ap p (get_or-set_other (set xs r u) l j w d (λ e. a (e ∙ pl)) ∙ get_or-set_other xs r j u d (λ e. b (e ∙ pr)));
      left = rw (sym pl, sym pr) (ap p (get_or-set_same (set xs r u) l w d (rw (length-set xs r u) hl)) ∙ q);
      right = λ a. rw (sym pr) (ap p (get_or-set_other (set xs r u) l r w d (λ e. a (sym pr ∙ e ∙ pl)) ∙ get_or-set_same xs r u d hr) ∙ v);
    }

module _ {A : Type 0} (over loop : ℕ → A → A) where
  pub filled_here : (after : ℕ → A) (e : Expression) (s i : ℕ) (v : A) → Filled over loop after e s i v → after s ≡ v
  filled_here after (symbol f) s i v h = h
  filled_here after empty s i v h = h
  filled_here after (concatenation a b) s i v h = h.0
  filled_here after (choice a b) s i v h = h.0
  filled_here after (repetition a) s i v h = h.0

  -- where no row has been looked at, only the row itself has its value
  fresh : (after : ℕ → A) (e : Expression) (s i : ℕ) (v : A) → after s ≡ v → i ≤ s → Filled over loop after e s i v
  fresh after (symbol f) s i v q h = q
  fresh after empty s i v q h = q
  fresh after (concatenation a b) s i v q h = (q, λ l. absurd (omega arith))
  fresh after (choice a b) s i v q h = (q, λ l. absurd (omega arith))
  fresh after (repetition a) s i v q h = (q, λ l. absurd (omega arith))

  pub all_fresh : (after : ℕ → A) (v : A) (m : ℕ) → ((j : ℕ) → j < m → after j ≡ v) → (es : List Expression) (s : ℕ) → s + total es ≤ m
      → AllFilled over loop after es s 0 v
  all_fresh after v m h [] s l = tt
  all_fresh after v m h (e ∷ es) s l =
      (fresh after e s 0 v (h s (omega (arith, rows_positive e))) (omega arith), all_fresh after v m h es (s + rows e) (omega arith))

  pub filled_at : (after : ℕ → A) (before behind : List Expression) (e : Expression) (s i : ℕ) (v : A)
      → AllFilled over loop after (before ++ (e ∷ behind)) s i v → Filled over loop after e (s + total before) i v
  filled_at after [] behind e s i v h = rw add-zero h.0
  filled_at after (d ∷ before) behind e s i v h = rw (← add_assoc) (filled_at after before behind e (s + rows d) i v h.1)

  module _ (old new : ℕ → A) (i : ℕ) where
    -- a turn at a row keeps this row and all before it
    keep : (k z : ℕ) → Turn over loop old new i k z → (j : ℕ) → j ≤ i → new j ≡ old j
    keep zero z t j h = ⊎_elim (λ e. rw e t.left) (λ l. t.other j (λ e. omega arith) (λ e. omega arith)) (eq-or-lt_of_le h)
    keep (suc zero) z t j h = ⊎_elim (λ e. rw e t.left) (λ l. t.other j (λ e. omega arith) (λ e. omega arith)) (eq-or-lt_of_le h)
    keep (suc (suc zero)) z t j h = t.other j (λ e. omega arith) (λ e. omega arith)
    keep (suc (suc (suc zero))) z t j h = t.other j (λ e. omega arith) (λ e. omega arith)
    keep (suc (suc (suc (suc k)))) z t j h = t.other j (λ e. omega arith) (λ e. omega arith)

    -- an expression of which the turn changes nothing
    frame : (e : Expression) (s : ℕ) (v : A) → ((j : ℕ) → s ≤ j → j < s + rows e → new j ≡ old j)
        → ((j : ℕ) → s ≤ j → j < s + rows e → j < i + 1 → j < i) → Filled over loop old e s i v → Filled over loop new e s (i + 1) v
    frame (symbol f) s v same far h = same s (omega arith) (omega arith) ∙ h
    frame empty s v same far h = same s (omega arith) (omega arith) ∙ h
    frame (concatenation a b) s v same far h = (
      same s (omega arith) (omega arith) ∙ h.0,
      λ l.
          let x = h.1 (far s (omega arith) (omega arith) l) in (
            frame a (suc s) _ (λ j g k. same j (omega arith) (omega arith)) (λ j g k. far j (omega arith) (omega arith)) x.0,
            frame b (suc s + rows a) _ (λ j g k. same j (omega arith) (omega arith)) (λ j g k. far j (omega arith) (omega arith)) x.1,
          ),
    )
    frame (choice a b) s v same far h = (
      same s (omega arith) (omega arith) ∙ h.0,
      λ l.
          let x = h.1 (far s (omega arith) (omega arith) l) in (
            frame a (suc s) _ (λ j g k. same j (omega arith) (omega arith)) (λ j g k. far j (omega arith) (omega arith)) x.0,
            frame b (suc s + rows a) _ (λ j g k. same j (omega arith) (omega arith)) (λ j g k. far j (omega arith) (omega arith)) x.1,
          ),
    )
    frame (repetition a) s v same far h = (
      same s (omega arith) (omega arith) ∙ h.0,
      λ l.
          frame a (suc s) _ (λ j g k. same j (omega arith) (omega arith)) (λ j g k. far j (omega arith) (omega arith))
          (h.1 (far s (omega arith) (omega arith) l)),
    )

    frame_all : (es : List Expression) (s : ℕ) (v : A) → ((j : ℕ) → s ≤ j → j < s + total es → new j ≡ old j) → i < s
        → AllFilled over loop old es s i v → AllFilled over loop new es s (i + 1) v
    frame_all [] s v same far h = tt
    frame_all (e ∷ es) s v same far h = (
      frame e s v (λ j g k. same j g (omega arith)) (λ j g k l. absurd (omega arith)) h.0,
      frame_all es (s + rows e) v (λ j g k. same j (omega arith) (omega arith)) (omega arith) h.1,
    )

    module _ (kind name size : ℕ → ℕ) (t : Turn over loop old new i (kind i) (size (i + 1))) where
      kept : (j : ℕ) → j ≤ i → new j ≡ old j
      kept = keep (kind i) (size (i + 1)) t

      -- behind an expression that has the row i nothing changes
      beyond : (e : Expression) (s : ℕ) → Placed kind name size e s → SymbolsFit e → s ≤ i → i < s + rows e → (j : ℕ) → s + rows e ≤ j → new j ≡ old j
      beyond e s p m g h j l =
          let f = (placed_fits kind name size (s + rows e) e s p m (omega arith) i g h).sized in
          t.other j (λ q. omega (arith, f.left)) (λ q. omega (arith, f.right))

      -- the row i itself: its parts get their values
      own : (e : Expression) (v : A) → Placed kind name size e i → Filled over loop old e i i v → Filled over loop new e i (i + 1) v
      own (symbol f) v p h = kept i (omega arith) ∙ h
      own empty v p h = kept i (omega arith) ∙ h
      own (concatenation a b) v p h =
          let r = suc i + rows a in
          let u = subst (λ (k : ℕ). Turn over loop old new i k (size (i + 1))) p.0 t in
          let za = placed_size kind name size a (suc i) p.3 in
          let l : new (suc i) ≡ over r v = rw (add-one i, za, h.0) at u.left in
          let m : new r ≡ v = rw (add-one i, za, h.0) at (u.right (λ e. omega (arith, rw (add-one i, za) at e, rows_positive a))) in
          (kept i (omega arith) ∙ h.0, λ x. (fresh new a (suc i) (i + 1) _ l (omega arith), fresh new b r (i + 1) _ m (omega arith)))
      own (choice a b) v p h =
          let r = suc i + rows a in
          let u = subst (λ (k : ℕ). Turn over loop old new i k (size (i + 1))) p.0 t in
          let za = placed_size kind name size a (suc i) p.3 in
          let l : new (suc i) ≡ v = rw (add-one i, h.0) at u.left in
          let m : new r ≡ v = rw (add-one i, za, h.0) at (u.right (λ e. omega (arith, rw (add-one i, za) at e, rows_positive a))) in
          (kept i (omega arith) ∙ h.0, λ x. (fresh new a (suc i) (i + 1) _ l (omega arith), fresh new b r (i + 1) _ m (omega arith)))
      own (repetition a) v p h =
          let u = subst (λ (k : ℕ). Turn over loop old new i k (size (i + 1))) p.0 t in
          let l : new (suc i) ≡ loop (suc i) v = rw (add-one i, h.0) at u.left in
          (kept i (omega arith) ∙ h.0, λ x. fresh new a (suc i) (i + 1) _ l (omega arith))

      own_at : (e : Expression) (s : ℕ) (v : A) → s ≡ i → Placed kind name size e s → Filled over loop old e s i v → Filled over loop new e s (i + 1) v
      own_at e s v q p h =
          subst (λ (x : ℕ). Filled over loop new e x (i + 1) v) (sym q)
          (own e v (subst (λ (x : ℕ). Placed kind name size e x) q p) (subst (λ (x : ℕ). Filled over loop old e x i v) q h))

      inside : (e : Expression) (s : ℕ) (v : A) → Placed kind name size e s → SymbolsFit e → s ≤ i → i < s + rows e
          → Filled over loop old e s i v → Filled over loop new e s (i + 1) v
      inside (symbol f) s v p m g l h = kept s g ∙ h
      inside empty s v p m g l h = kept s g ∙ h
      inside (concatenation a b) s v p m g l h =
          three_ways s (rows a) i g (λ q. own_at (concatenation a b) s v q p h)
          (λ u w. (
            kept s g ∙ h.0,
            λ x. (
              inside a (suc s) _ p.3 m.0 u w (h.1 u).0,
              frame b (suc s + rows a) _ (λ j y z. beyond a (suc s) p.3 m.0 u w j y) (λ j y z k. absurd (omega arith)) (h.1 u).1,
            ),
          ))
          (λ w. (
            kept s g ∙ h.0,
            λ x. (
              frame a (suc s) _ (λ j y z. kept j (omega arith)) (λ j y z k. omega arith) (h.1 (omega arith)).0,
              inside b (suc s + rows a) _ p.4 m.1 w (omega arith) (h.1 (omega arith)).1,
            ),
          ))
      inside (choice a b) s v p m g l h =
          three_ways s (rows a) i g (λ q. own_at (choice a b) s v q p h)
          (λ u w. (
            kept s g ∙ h.0,
            λ x. (
              inside a (suc s) _ p.3 m.0 u w (h.1 u).0,
              frame b (suc s + rows a) _ (λ j y z. beyond a (suc s) p.3 m.0 u w j y) (λ j y z k. absurd (omega arith)) (h.1 u).1,
            ),
          ))
          (λ w. (
            kept s g ∙ h.0,
            λ x. (
              frame a (suc s) _ (λ j y z. kept j (omega arith)) (λ j y z k. omega arith) (h.1 (omega arith)).0,
              inside b (suc s + rows a) _ p.4 m.1 w (omega arith) (h.1 (omega arith)).1,
            ),
          ))
      inside (repetition a) s v p m g l h =
          three_ways s (rows a) i g (λ q. own_at (repetition a) s v q p h)
          (λ u w. (kept s g ∙ h.0, λ x. inside a (suc s) _ p.3 m u w (h.1 u)))
          (λ w. absurd (omega arith))

      -- one turn, for all the expressions
      pub all_turn : (es : List Expression) (s : ℕ) (v : A) → Laid kind name size es s → AllFit es → s ≤ i → i < s + total es
          → AllFilled over loop old es s i v → AllFilled over loop new es s (i + 1) v
      all_turn [] s v d m g l h = absurd (omega arith)
      all_turn (e ∷ es) s v d m g l h =
          two_ways i (s + rows e)
          (λ w. (
            inside e s v d.0 m.0 g w h.0,
            frame_all es (s + rows e) v (λ j y z. beyond e s d.0 m.0 g w j y) w h.1,
          ))
          (λ w. (
            frame e s v (λ j y z. kept j (omega arith)) (λ j y z k. omega arith) h.0,
            all_turn es (s + rows e) v d.1 m.1 w (omega arith) h.1,
          ))

-- ---- the loop over a good table

-- what q reads of the rows stays where it reads the same of the new row
column_kept : {B : Type 0} (q : Row → B) (rows : List Row) (r : ℕ) (u d : Row) → q u ≡ q (get_or rows r d)
    → ◌≡◌ {A = ℕ → B} (λ j. q (get_or (set rows r u) j d)) (λ j. q (get_or rows j d))
column_kept {B} q rows r u d e =
    fun_ext (λ j. sym (get_or-map q (set rows r u) j d) ∙ ap (λ (c : List B). get_or c j (q d)) (map-set_same q rows r u d e) ∙ get_or-map q rows j d)

module _ (tables : Tables) (i l r : ℕ) (left : State) where
  -- the row r with what comes after the row i after it
  abbrev right_row : Row
  right_row = record { name = name_of tables r; head = (row_in tables r).head; after = (row_in tables i).after }

  abbrev right_done : Tables
  right_done = record { rows = set tables.rows r right_row }

  abbrev left_row : Row
  left_row = record { name = name_of right_done l; head = (row_in right_done l).head; after = left }

  abbrev both_done : Tables
  both_done = record { rows = set right_done.rows l left_row }

  pub heads_kept : SameHeads tables both_done
  heads_kept = record { names = both (λ x. x.name) refl refl; firsts = both (λ x. x.head.first) refl refl; nulls = both (λ x. x.head.null) refl refl }
    where
      both : {B : Type 0} (q : Row → B) → q left_row ≡ q (row_in right_done l) → q right_row ≡ q (row_in tables r)
          → ◌≡◌ {A = ℕ → B} (λ j. q (row_in both_done j)) (λ j. q (row_in tables j))
      both q a b = column_kept q right_done.rows l left_row _ a ∙ column_kept q tables.rows r right_row _ b

pub heads_same : {old tables new : Tables} → SameHeads old tables → SameHeads tables new → SameHeads old new
heads_same a b = record { names = b.names ∙ a.names; firsts = b.firsts ∙ a.firsts; nulls = b.nulls ∙ a.nulls }

module _ {kind name size : List ℕ} {es : List Expression} (g : GoodTable kind name size es) (tables : Tables) where
  pub conts_begin : Fresh tables 0 (length kind) → ContsOf (first_of tables) (null_of tables) (cont_of tables) (ends_of tables) es 0
  conts_begin fresh =
      let fits : 0 + total es ≤ length kind = omega (arith, kind_length g) in
      record {
        sets = all_fresh (over_set (first_of tables) (null_of tables)) (loop_set (first_of tables) (null_of tables)) (cont_of tables) 0 (length kind)
            (λ j h. (fresh j (omega arith) h).0) es 0 fits;
        finals = all_fresh (over_end (first_of tables) (null_of tables)) (loop_end (first_of tables) (null_of tables)) (ends_of tables) true (length kind)
            (λ j h. (fresh j (omega arith) h).1) es 0 fits;
      }

  module _ (i l r : ℕ) (left : State) where
    abbrev After : (ℕ → ℕ) → (ℕ → Bool) → ℕ → Tables → Type 0
    After first null j new = ContsOf first null (cont_of new) (ends_of new) es j

    pub conts_turn : i < length kind → length kind ≤ length tables.rows
        → PartsAre (number_at kind i) i (number_at size (i + 1)) l r → (l < length kind) × (r < length kind)
        → left.next ≡ followed (number_at kind i) (over_set (first_of tables) (null_of tables) r (cont_of tables i))
        (loop_set (first_of tables) (null_of tables) r (cont_of tables i)) (cont_of tables i)
        → left.end ≡ followed (number_at kind i) (over_end (first_of tables) (null_of tables) r (ends_of tables i))
        (loop_end (first_of tables) (null_of tables) r (ends_of tables i)) (ends_of tables i)
        → After (first_of tables) (null_of tables) i tables
        → After (first_of (both_done tables i l r left)) (null_of (both_done tables i l r left)) (i + 1) (both_done tables i l r left)
    conts_turn h few parts rows next end t =
        let first = first_of tables in
        let null = null_of tables in
        let new = both_done tables i l r left in
        let tc = turn (over_set first null) (loop_set first null) (λ (x : Row). x.after.next) tables.rows _ (right_row tables i l r left) (left_row tables i l r left) i
        (number_at kind i) (number_at size (i + 1)) l r parts.0 parts.1 (omega (arith, rows.0)) (omega (arith, rows.1)) refl next in
        let te = turn (over_end first null) (loop_end first null) (λ (x : Row). x.after.end) tables.rows _ (right_row tables i l r left) (left_row tables i l r left) i
        (number_at kind i) (number_at size (i + 1)) l r parts.0 parts.1 (omega (arith, rows.0)) (omega (arith, rows.1)) refl end in
        let below : i < 0 + total es = omega (arith, kind_length g) in
        let kept = heads_kept tables i l r left in
        subst (λ (f : ℕ → ℕ). After f (null_of new) (i + 1) new) (sym kept.firsts)
        (subst (λ (f : ℕ → Bool). After first f (i + 1) new) (sym kept.nulls)
        (record {
          sets = all_turn (over_set first null) (loop_set first null) _ _ i (number_at kind) (number_at name) (number_at size) tc es 0 0 (good_laid g) (small_all g) (omega arith) below t.sets;
          finals = all_turn (over_end first null) (loop_end first null) _ _ i (number_at kind) (number_at name) (number_at size) te es 0 true (good_laid g) (small_all g) (omega arith) below t.finals;
        }))
