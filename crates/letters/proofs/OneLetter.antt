-- One letter read, as the walk over the set from its lowest row up: `reads` says which rows read the letter.
use mathlib.Core.Path.{◌≡◌, refl, sym}
use mathlib.Core.Logic.{◌⊎◌, inl, inr, ⊎_elim}
use mathlib.Core.Bool.{Bool, true, false, cond, true≢false, ◌||◌}
use mathlib.Core.List.{List, [], ◌∷◌}
use Prim.Native.Nat.{ℕ, zero, suc, ◌+◌, ◌/◌, ◌%◌, ◌<◌, ◌^◌}
use native.Mathlib.Nat.{zero-add, add-suc, suc-add, add-zero}
use native.Mathlib.Omega.{arith}
use lib.Bits.{bit_or}
use Rattle.meaning.specs.Calls.{Says}
use Rattle.letters.specs.Accepts.{Has, Accepts}
use Rattle.letters.proofs.Sets.{has_or_l, has_or_r, has_zero, has_below}
use Rattle.letters.proofs.Visit.{pick, walk, visit}
use Rattle.letters.proofs.Automaton.{true_or, mono, accepts_or}

-- the row p, if it reads the letter, gives what may come after it
abbrev pub add_set : (ℕ → Bool) → (cont : ℕ → ℕ) → ℕ → ℕ → ℕ
add_set reads cont p n = cond (reads p) (bit_or n (cont p)) n

abbrev pub add_end : (ℕ → Bool) → (ends : ℕ → Bool) → ℕ → Bool → Bool
add_end reads ends p b = cond (reads p) (b || ends p) b

abbrev pub step_set : (ℕ → Bool) → (cont : ℕ → ℕ) → ℕ → ℕ
step_set reads cont s = visit (add_set reads cont) s 0

abbrev pub step_end : (ℕ → Bool) → (ends : ℕ → Bool) → ℕ → Bool
step_end reads ends s = visit (add_end reads ends) s false

or_l : (a b : Bool) → a ≡ true → (a || b) ≡ true
or_l a b e = rw e

module _ {Letter : Type 0} (Row : ℕ → Letter → Type 0) (cont : ℕ → ℕ) (ends : ℕ → Bool) (c : Letter) (reads : ℕ → Bool)
    (says : (p : ℕ) → Says (reads p) (Row p c)) (w : List Letter) where
  abbrev Ac : ℕ → Bool → Type 0
  Ac n b = Accepts Row cont ends n b w

  abbrev A : ℕ → Type 0
  A p = Accepts Row cont ends (cont p) (ends p) w

  none : (v : List Letter) → Accepts Row cont ends 0 false v → ⊥
  none [] e = true≢false (sym e)
  none (x ∷ v) a = has_zero a.0 a.1

  -- one row
  one_sound : (p d n : ℕ) (b : Bool) → d < 2 → Ac (pick d (add_set reads cont p) n) (pick d (add_end reads ends p) b)
      → Ac n b ⊎ ((d ≡ 1) × Row p c × A p)
  one_sound p zero n b h a = inl a
  one_sound p (suc d) n b h a = go (reads p) refl a
    where
      go : (t : Bool) → reads p ≡ t → Ac (cond t (bit_or n (cont p)) n) (cond t (b || ends p) b) → Ac n b ⊎ ((suc d ≡ 1) × Row p c × A p)
      go true e a =
          ⊎_elim (λ x. inl x) (λ x. inr (omega arith, (says p).0 e, x)) (accepts_or Row cont ends n (cont p) b (ends p) w a)
      go false e a = inl a

  one_keep : (p d n : ℕ) (b : Bool) → Ac n b → Ac (pick d (add_set reads cont p) n) (pick d (add_end reads ends p) b)
  one_keep p zero n b a = a
  one_keep p (suc d) n b a = go (reads p)
    where
      go : (t : Bool) → Ac (cond t (bit_or n (cont p)) n) (cond t (b || ends p) b)
      go true = mono Row cont ends (λ q h. has_or_l n (cont p) q h) (λ e. or_l b (ends p) e) w a
      go false = a

  one_add : (p n : ℕ) (b : Bool) → Row p c → A p → Ac (add_set reads cont p n) (add_end reads ends p b)
  one_add p n b e a = rw ((says p).1 e) (mono Row cont ends (λ q h. has_or_r n (cont p) q h) (λ e. true_or b e) w a)

  -- the walk
  walk_sound : (k i s n : ℕ) (b : Bool) → Ac (walk (add_set reads cont) k i s n) (walk (add_end reads ends) k i s b)
      → Ac n b ⊎ ((q : ℕ) × Has s q × Row (i + q) c × A (i + q))
  unfolding walk
  walk_sound zero i s n b a = inl a
  walk_sound (suc k) i s n b a =
      ⊎_elim
      (λ x.
      ⊎_elim (λ y. inl y) (λ y. inr (0, y.0, rw add-zero y.1, rw add-zero y.2)) (one_sound i (s % 2) n b (omega arith) x))
      (λ x. inr (suc x.0, x.1, rw (add-suc, ← suc-add) x.2, rw (add-suc, ← suc-add) x.3))
      (walk_sound k (suc i) (s / 2) _ _ a)

  walk_keep : (k i s n : ℕ) (b : Bool) → Ac n b → Ac (walk (add_set reads cont) k i s n) (walk (add_end reads ends) k i s b)
  unfolding walk
  walk_keep zero i s n b a = a
  walk_keep (suc k) i s n b a = walk_keep k (suc i) (s / 2) _ _ (one_keep i (s % 2) n b a)

  walk_add : (k i s n q : ℕ) (b : Bool) → q < k → Has s q → Row (i + q) c → A (i + q)
      → Ac (walk (add_set reads cont) k i s n) (walk (add_end reads ends) k i s b)
  unfolding walk
  walk_add zero i s n q b l h e a = absurd (omega arith)
  walk_add (suc k) i s n zero b l h e a = walk_keep k (suc i) (s / 2) _ _ (rw h (one_add i n b (rw add-zero at e) (rw add-zero at a)))
  walk_add (suc k) i s n (suc q) b l h e a =
      walk_add k (suc i) (s / 2) _ q _ (omega arith) h (rw (add-suc, ← suc-add) at e) (rw (add-suc, ← suc-add) at a)

  pub step_sound : (s : ℕ) → Ac (step_set reads cont s) (step_end reads ends s) → (b : Bool) → Accepts Row cont ends s b (c ∷ w)
  unfolding visit
  step_sound s a b =
      ⊎_elim (λ x. absurd (none w x)) (λ x. (x.0, x.1, rw zero-add at x.2, rw zero-add at x.3)) (walk_sound 64 0 s 0 false a)

  pub step_complete : (s : ℕ) → s < 2 ^ 64 → (b : Bool) → Accepts Row cont ends s b (c ∷ w) → Ac (step_set reads cont s) (step_end reads ends s)
  unfolding visit
  step_complete s l b a =
      walk_add 64 0 s 0 a.0 false (has_below 64 s a.0 l a.1) a.1 (rw zero-add a.2) (rw zero-add a.3)
