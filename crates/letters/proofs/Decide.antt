-- The filled tables decide the languages, one letter after another.
use mathlib.Core.Path.{◌≡◌, sym, ap, ◌∙◌, subst}
use mathlib.Core.Bool.{Bool, true, ◌&&◌}
use mathlib.Core.List.{List, [], ◌∷◌, ◌++◌, append_assoc, append-nil}
use Prim.Native.Nat.{ℕ, suc, ◌+◌, ◌≤◌, ◌<◌, ◌^◌}
use native.Mathlib.Numerals.{add-one}
use native.Mathlib.Nat.{zero-add}
use native.Mathlib.Omega.{arith}
use lib.ListN.{length}
use lib.Dec.{eqb}
use lib.Bits.{bit_or}
use borrow.Author.Tests.{eqb-true, eq-eqb}
use Rattle.meaning.specs.Calls.{Says}
use Rattle.expression.specs.Expression.{Expression, symbol, empty, concatenation, choice, repetition, Language, Same, In}
use Rattle.expression.specs.Rows.{GoodTable, StartsAt}
use Rattle.expression.specs.Columns.{rows}
use Rattle.expression.proofs.Placed.{Placed, placed_size}
use Rattle.expression.proofs.Places.{place_total, start_placed, start_within}
use Rattle.letters.specs.Accepts.{Accepts}
use Rattle.letters.specs.State.{RowReads, StateOf, TablesOf}
use Rattle.letters.specs.declared.Tables.{Tables}
use Rattle.letters.specs.Tables.{name_of, first_of, null_of, cont_of, ends_of}
use Rattle.letters.specs.Following.{gate, HeadRow, over_set, over_end, loop_set, loop_end, Filled, AllFilled, ContsOf}
use Rattle.letters.proofs.Automaton.{Local, accepts_sound, accepts_complete}
use Rattle.letters.proofs.OneLetter.{step_set, step_end, step_sound, step_complete}
use Rattle.letters.proofs.Filled.{filled_here, filled_at}
use Rattle.expression.specs.Rule.{number_at}

-- ---- the tables meet the automaton's equations

module _ {Letter : Type 0} (Reads Row : ℕ → Letter → Type 0) (kind name size first cont : ℕ → ℕ) (null ends : ℕ → Bool) (n : ℕ)
    (reads : (i : ℕ) → i < n → (c : Letter) → (Row i c → Reads (name i) c) × (Reads (name i) c → Row i c)) (heads : (i : ℕ) → i < n → HeadRow kind size first null i) where
  abbrev Conts : Expression → ℕ → ℕ → Type 0
  Conts e s k = Filled (over_set first null) (loop_set first null) cont e s n k

  abbrev Ends : Expression → ℕ → Bool → Type 0
  Ends e s f = Filled (over_end first null) (loop_end first null) ends e s n f

  cont_is : (e : Expression) (s k : ℕ) → Conts e s k → cont s ≡ k
  cont_is e s k h = filled_here (over_set first null) (loop_set first null) cont e s n k h

  ends_is : (e : Expression) (s : ℕ) (f : Bool) → Ends e s f → ends s ≡ f
  ends_is e s f h = filled_here (over_end first null) (loop_end first null) ends e s n f h

  second : (a : Expression) (s : ℕ) → Placed kind name size a (suc s) → s + 1 + size (s + 1) ≡ suc s + rows a
  second a s p = rw (add-one s, placed_size kind name size a (suc s) p)

  local : (e : Expression) (s k : ℕ) (f : Bool) → Placed kind name size e s → s + rows e ≤ n → Conts e s k → Ends e s f
      → Local Reads Row first cont null ends e s
  local (symbol x) s k f p l c d =
      let h = rw p.0 at (heads s (omega arith)) in
      (rw p.1 at (reads s (omega arith)), h.0, h.1)
  local empty s k f p l c d =
      let h = rw p.0 at (heads s (omega arith)) in
      (h.0, h.1)
  local (concatenation a b) s k f p l c d =
      let r = suc s + rows a in
      let h = rw (p.0, second a s p.3, add-one s) at (heads s (omega arith)) in
      let c' = c.1 (omega arith) in
      let d' = d.1 (omega arith) in
      let cr = cont_is b r k c'.1 in
      let dr = ends_is b r f d'.1 in (
        local a (suc s) _ _ p.3 (omega arith) c'.0 d'.0,
        local b r k f p.4 (omega arith) c'.1 d'.1,
        h.0,
        h.1,
        cont_is a (suc s) _ c'.0 ∙ ap (λ (x : ℕ). bit_or (first r) (gate (null r) x)) (sym cr),
        ends_is a (suc s) _ d'.0 ∙ ap (λ (x : Bool). null r && x) (sym dr),
        cr ∙ sym c.0,
        dr ∙ sym d.0,
      )
  local (choice a b) s k f p l c d =
      let r = suc s + rows a in
      let h = rw (p.0, second a s p.3, add-one s) at (heads s (omega arith)) in
      let c' = c.1 (omega arith) in
      let d' = d.1 (omega arith) in (
        local a (suc s) k f p.3 (omega arith) c'.0 d'.0,
        local b r k f p.4 (omega arith) c'.1 d'.1,
        h.0,
        h.1,
        cont_is a (suc s) k c'.0 ∙ sym c.0,
        ends_is a (suc s) f d'.0 ∙ sym d.0,
        cont_is b r k c'.1 ∙ sym c.0,
        ends_is b r f d'.1 ∙ sym d.0,
      )
  local (repetition a) s k f p l c d =
      let h = rw (p.0, add-one s) at (heads s (omega arith)) in
      let c' = c.1 (omega arith) in
      let d' = d.1 (omega arith) in (
        local a (suc s) _ f p.3 (omega arith) c' d',
        h.0,
        h.1,
        cont_is a (suc s) _ c' ∙ ap (λ (x : ℕ). bit_or (first (suc s)) x) (sym c.0),
        ends_is a (suc s) f d' ∙ sym d.0,
      )

  -- what is read from an expression's first row on is exactly its language
  module _ (e : Expression) (s : ℕ) (p : Placed kind name size e s) (l : s + rows e ≤ n) (c : Conts e s 0) (d : Ends e s true) where
    pub read_sound : (word : List Letter) → Accepts Row cont ends (first s) (null s) word → Language Reads e word
    read_sound = accepts_sound Reads Row first cont null ends e s (local e s 0 true p l c d) (cont_is e s 0 c) (ends_is e s true d)

    pub read_complete : (word : List Letter) → Language Reads e word → Accepts Row cont ends (first s) (null s) word
    read_complete = accepts_complete Reads Row first cont null ends e s (local e s 0 true p l c d) (cont_is e s 0 c) (ends_is e s true d)

-- ---- for callers

-- the rows with their names, their heads and what comes after them are tables of the expressions
module _ {kind name size : List ℕ} {es : List Expression} (g : GoodTable kind name size es) (tables : Tables)
    (names : (s : ℕ) → s < length kind → name_of tables s ≡ number_at name s)
    (heads : (s : ℕ) → s < length kind → HeadRow (number_at kind) (number_at size) (first_of tables) (null_of tables) s)
    (conts : ContsOf (first_of tables) (null_of tables) (cont_of tables) (ends_of tables) es (length kind)) where
  at_start : {A : Type 0} (over loop : ℕ → A → A) (after : ℕ → A) (v : A) {e : Expression} {row : ℕ} → StartsAt es e row
      → AllFilled over loop after es 0 (length kind) v → Filled over loop after e row (length kind) v
  at_start over loop after v {e} s h =
      subst (λ (j : ℕ). Filled over loop after e j (length kind) v) (zero-add _ ∙ sym (place_total s))
      (filled_at over loop after s.before s.behind e 0 (length kind) v
      (subst (λ (l : List Expression). AllFilled over loop after l 0 (length kind) v) s.among h))

  pub tables_are : TablesOf es tables
  tables_are =
      record {
        starts = λ {e} {row} s.
            let first = first_of tables in
            let null = null_of tables in
            let c = at_start (over_set first null) (loop_set first null) (cont_of tables) 0 s conts.sets in
            let d = at_start (over_end first null) (loop_end first null) (ends_of tables) true s conts.finals in
            let reads : (i : ℕ) → i < length kind → (c : ℕ) → (RowReads tables i c → Same (number_at name i) c) × (Same (number_at name i) c → RowReads tables i c) =
            λ i h c. (λ q. sym (names i h) ∙ q, λ q. names i h ∙ q) in
            record {
              sound = read_sound Same (RowReads tables) (number_at kind) (number_at name) (number_at size) first (cont_of tables)
                  null (ends_of tables) (length kind) reads heads e row (start_placed g s) (start_within g s) c d;
              complete = read_complete Same (RowReads tables) (number_at kind) (number_at name) (number_at size) first (cont_of tables)
                  null (ends_of tables) (length kind) reads heads e row (start_placed g s) (start_within g s) c d;
            };
      }

module _ {tables : Tables} {e : Expression} {word : List ℕ} {next : ℕ} {end : Bool} (state : StateOf tables e word next end) where
  -- a state's end decides the language
  pub decides : Says end (In e word)
  decides = (λ q. rw append-nil at (state.sound [] q), λ i. state.complete [] (rw append-nil i))

  -- one more letter
  pub stepped : (label : ℕ) → next < 2 ^ 64
      → StateOf tables e (word ++ (label ∷ [])) (step_set (λ p. eqb (name_of tables p) label) (cont_of tables) next)
      (step_end (λ p. eqb (name_of tables p) label) (ends_of tables) next)
  stepped label fits =
      let says : (p : ℕ) → Says (eqb (name_of tables p) label) (name_of tables p ≡ label) = λ p. (eqb-true (name_of tables p) label, eq-eqb (name_of tables p) label) in
      record {
        sound = λ more a.
            rw append_assoc
            (state.sound (label ∷ more)
            (step_sound (RowReads tables) (cont_of tables) (ends_of tables) label (λ p. eqb (name_of tables p) label) says more next a end));
        complete = λ more i.
            step_complete (RowReads tables) (cont_of tables) (ends_of tables) label (λ p. eqb (name_of tables p) label) says more next fits end
            (state.complete (label ∷ more) (rw append_assoc at i));
      }
