-- The position automaton by continuation sets: a row's `cont` holds the rows that may read directly after what the row
-- matches, and `ends` says whether the word may end there. All is by local equations, a row and its parts; which
-- letters a row reads, and which an expression's symbol, is left open.
use mathlib.Core.Path.{◌≡◌, refl, sym, ap, ◌∙◌, subst, subst₂}
use mathlib.Core.Logic.{◌⊎◌, inl, inr, ⊎_elim}
use mathlib.Core.Bool.{Bool, true, false, ◌&&◌, ◌||◌, true≢false}
use mathlib.Core.List.{List, [], ◌∷◌, ◌++◌, append_assoc, append-nil}
use Prim.Native.Nat.{ℕ, zero, suc, ◌+◌, ◌<◌, ◌^◌}
use native.Mathlib.Omega.{arith}
use lib.ListN.{length, length-append}
use lib.Bits.{bit_or}
use Rattle.expression.specs.Expression.{Expression, symbol, empty, concatenation, choice, repetition, Language, in_symbol, in_empty, in_concatenation, in_first, in_second, in_none, in_more}
use Rattle.expression.specs.Columns.{rows}
use Rattle.letters.specs.Accepts.{Has, Accepts}
use Rattle.letters.specs.Following.{gate}
use Rattle.letters.proofs.Sets.{has_or, has_or_l, has_or_r, has_zero, has_one, one_has}

has_gate : (b : Bool) (x q : ℕ) → Has (gate b x) q → (b ≡ true) × Has x q
has_gate true x q h = (refl, h)
has_gate false x q h = absurd (has_zero q h)

gate_has : (b : Bool) (x q : ℕ) → b ≡ true → Has x q → Has (gate b x) q
gate_has b x q e h = rw e h

and_true : (a b : Bool) → (a && b) ≡ true → (a ≡ true) × (b ≡ true)
and_true true true e = (refl, refl)
and_true true false e = (refl, e)
and_true false true e = (e, refl)
and_true false false e = (e, e)

or_true : (a b : Bool) → (a || b) ≡ true → (a ≡ true) ⊎ (b ≡ true)
or_true true b e = inl refl
or_true false b e = inr e

pub true_or : (a : Bool) {b : Bool} → b ≡ true → (a || b) ≡ true
true_or true e = refl
true_or false e = e

true_and : {a b : Bool} → a ≡ true → b ≡ true → (a && b) ≡ true
true_and e f = rw (e, f)

module _ {Letter : Type 0} (Row : ℕ → Letter → Type 0) (cont : ℕ → ℕ) (ends : ℕ → Bool) where
  abbrev Ac : ℕ → Bool → List Letter → Type 0
  Ac S f w = Accepts Row cont ends S f w

  pub mono : {S S' : ℕ} {f f' : Bool} → ((q : ℕ) → Has S q → Has S' q) → (f ≡ true → f' ≡ true) → (w : List Letter) → Ac S f w → Ac S' f' w
  mono h g [] a = g a
  mono h g (c ∷ w) a = (a.0, h a.0 a.1, a.2, a.3)

  pub same : {S S' : ℕ} {f f' : Bool} → S ≡ S' → f ≡ f' → (w : List Letter) → Ac S f w → Ac S' f' w
  same p q w a = subst₂ (λ (S : ℕ) (f : Bool). Ac S f w) p q a

  pub accepts_or : (n m : ℕ) (b d : Bool) (w : List Letter) → Ac (bit_or n m) (b || d) w → Ac n b w ⊎ Ac m d w
  accepts_or n m b d [] a = or_true b d a
  accepts_or n m b d (x ∷ w) a =
      ⊎_elim (λ h. inl (a.0, h, a.2, a.3)) (λ h. inr (a.0, h, a.2, a.3)) (has_or n m a.0 a.1)

module _ {Letter : Type 0} (Reads Row : ℕ → Letter → Type 0) (first cont : ℕ → ℕ) (null ends : ℕ → Bool) where
  -- what may stand where the row s begins, and whether the word may end there
  abbrev pub start : ℕ → ℕ
  start s = bit_or (first s) (gate (null s) (cont s))

  abbrev pub start_end : ℕ → Bool
  start_end s = null s && ends s

  abbrev A : ℕ → List Letter → Type 0
  A s w = Accepts Row cont ends (cont s) (ends s) w

  abbrev Start : ℕ → List Letter → Type 0
  Start s w = Accepts Row cont ends (start s) (start_end s) w

  -- the equations of a row and its parts
  abbrev pub Local : Expression → ℕ → Type 0
  Local (symbol f) s = ((c : Letter) → (Row s c → Reads f c) × (Reads f c → Row s c)) × (first s ≡ 2 ^ s) × (null s ≡ false)
  Local empty s = (first s ≡ 0) × (null s ≡ true)
  Local (concatenation a b) s =
      Local a (suc s) × Local b (suc s + rows a)
      × (first s ≡ bit_or (first (suc s)) (gate (null (suc s)) (first (suc s + rows a))))
      × (null s ≡ (null (suc s) && null (suc s + rows a)))
      × (cont (suc s) ≡ start (suc s + rows a)) × (ends (suc s) ≡ start_end (suc s + rows a))
      × (cont (suc s + rows a) ≡ cont s) × (ends (suc s + rows a) ≡ ends s)
  Local (choice a b) s =
      Local a (suc s) × Local b (suc s + rows a)
      × (first s ≡ bit_or (first (suc s)) (first (suc s + rows a)))
      × (null s ≡ (null (suc s) || null (suc s + rows a)))
      × (cont (suc s) ≡ cont s) × (ends (suc s) ≡ ends s)
      × (cont (suc s + rows a) ≡ cont s) × (ends (suc s + rows a) ≡ ends s)
  Local (repetition a) s =
      Local a (suc s) × (first s ≡ first (suc s)) × (null s ≡ true)
      × (cont (suc s) ≡ bit_or (first (suc s)) (cont s)) × (ends (suc s) ≡ ends s)

  -- ---- from sets to words

  st_first : (s q : ℕ) → Has (first s) q → Has (start s) q
  st_first s q h = has_or_l (first s) (gate (null s) (cont s)) q h

  st_cont : (s q : ℕ) → null s ≡ true → Has (cont s) q → Has (start s) q
  st_cont s q n h = has_or_r (first s) (gate (null s) (cont s)) q (gate_has (null s) (cont s) q n h)

  st_cases : (s q : ℕ) → Has (start s) q → Has (first s) q ⊎ ((null s ≡ true) × Has (cont s) q)
  st_cases s q h = ⊎_elim (λ a. inl a) (λ b. inr (has_gate (null s) (cont s) q b)) (has_or (first s) (gate (null s) (cont s)) q h)

  null_sound : (e : Expression) (s : ℕ) → Local e s → null s ≡ true → Language Reads e []
  null_sound (symbol x) s l n = absurd (true≢false (sym n ∙ l.2))
  null_sound empty s l n = in_empty
  null_sound (concatenation a b) s l n =
      let h = and_true _ _ (sym l.3 ∙ n) in
      in_concatenation (null_sound a _ l.0 h.0) (null_sound b _ l.1 h.1)
  null_sound (choice a b) s l n =
      ⊎_elim (λ h. in_first (null_sound a _ l.0 h)) (λ h. in_second (null_sound b _ l.1 h)) (or_true _ _ (sym l.3 ∙ n))
  null_sound (repetition a) s l n = in_none

  -- a word that follows the row's beginning is one of the expression and one that follows the row
  abbrev Split : Expression → ℕ → List Letter → List Letter → Type 0
  Split e s pre w = (u : List Letter) × (v : List Letter) × (w ≡ u ++ v) × Language Reads e (pre ++ u) × A s v

  abbrev Sound : Expression → ℕ → Type 0
  Sound e s = (p : ℕ) → Has (first s) p → (x : Letter) → Row p x → (w : List Letter) → A p w → Split e s (x ∷ []) w

  start_sound : (e : Expression) (s : ℕ) → Local e s → Sound e s → (w : List Letter) → Start s w → Split e s [] w
  start_sound e s l so [] a =
      let h = and_true (null s) (ends s) a in
      ([], [], refl, null_sound e s l h.0, h.1)
  start_sound e s l so (c ∷ w) a = go (st_cases s a.0 a.1)
    where
      go : Has (first s) a.0 ⊎ ((null s ≡ true) × Has (cont s) a.0) → Split e s [] (c ∷ w)
      go (inl h) =
          let r = so a.0 h c a.2 w a.3 in
          (c ∷ r.0, r.1, ap (λ (y : List Letter). c ∷ y) r.2, r.3, r.4)
      go (inr g) = ([], c ∷ w, refl, null_sound e s l g.0, (a.0, g.1, a.2, a.3))

  -- the same for a repetition: each turn reads a letter
  repetition_sound : (a : Expression) (s : ℕ) → Local (repetition a) s → Sound a (suc s) → (n p : ℕ) → Has (first (suc s)) p → (x : Letter) → Row p x → (w : List Letter)
      → length w < n → A p w → Split (repetition a) s (x ∷ []) w
  repetition_sound a s l so zero p h x d w b k = absurd (omega arith)
  repetition_sound a s l so (suc n) p h x d w b k =
      let r = so p h x d w k in
      go (repetition_sound a s l so n) r.0 r.1 r.2 r.3 (same Row cont ends l.3 l.4 r.1 r.4)
    where
      more : (u v : List Letter) → w ≡ u ++ v → Language Reads a (x ∷ u) → A s v → Split (repetition a) s (x ∷ []) w
      more u v e i k = (u ++ [], v, e ∙ ap (λ (y : List Letter). y ++ v) (sym (append-nil u)), in_more i in_none, k)

      go : ((p : ℕ) → Has (first (suc s)) p → (x : Letter) → Row p x → (w : List Letter) → length w < n → A p w → Split (repetition a) s (x ∷ []) w)
          → (u v : List Letter) → w ≡ u ++ v → Language Reads a (x ∷ u) → Accepts Row cont ends (bit_or (first (suc s)) (cont s)) (ends s) v → Split (repetition a) s (x ∷ []) w
      go rec u [] e i k = more u [] e i k
      go rec u (c ∷ v) e i k =
          ⊎_elim
          (λ h.
          let r = rec k.0 h c k.2 v (omega (arith, simp length-append at (ap length e))) k.3 in
          (u ++ (c ∷ r.0), r.1, e ∙ cc (r.2, append_assoc u (c ∷ r.0) r.1), in_more i r.3, r.4))
          (λ h. more u (c ∷ v) e i (k.0, h, k.2, k.3))
          (has_or (first (suc s)) (cont s) k.0 k.1)

  sound : (e : Expression) (s : ℕ) → Local e s → Sound e s
  sound (symbol f) s l p h x d w a =
      let e : p ≡ s = has_one s p (rw l.1 at h) in
      ([], w, refl, in_symbol ((l.0 x).0 (subst (λ (y : ℕ). Row y x) e d)), rw e at a)
  sound empty s l p h x d w a = absurd (has_zero p (rw l.0 at h))
  sound (concatenation a b) s l p h x d w k = go (sound a (suc s) l.0) (sound b (suc s + rows a) l.1) (has_or _ _ p (rw l.2 at h))
    where
      go : Sound a (suc s) → Sound b (suc s + rows a) → Has (first (suc s)) p ⊎ Has (gate (null (suc s)) (first (suc s + rows a))) p
          → Split (concatenation a b) s (x ∷ []) w
      go sa sb (inl g) =
          let r = sa p g x d w k in
          let t = start_sound b (suc s + rows a) l.1 sb r.1 (same Row cont ends l.4 l.5 r.1 r.4) in
          (r.0 ++ t.0, t.1, cc (r.2, t.2, append_assoc r.0 t.0 t.1), in_concatenation r.3 t.3, same Row cont ends l.6 l.7 t.1 t.4)
      go sa sb (inr g) =
          let g' = has_gate _ _ p g in
          let r = sb p g'.1 x d w k in
          (r.0, r.1, r.2, in_concatenation (null_sound a _ l.0 g'.0) r.3, same Row cont ends l.6 l.7 r.1 r.4)
  sound (choice a b) s l p h x d w k = go (sound a (suc s) l.0) (sound b (suc s + rows a) l.1) (has_or _ _ p (rw l.2 at h))
    where
      go : Sound a (suc s) → Sound b (suc s + rows a) → Has (first (suc s)) p ⊎ Has (first (suc s + rows a)) p → Split (choice a b) s (x ∷ []) w
      go sa sb (inl g) =
          let r = sa p g x d w k in
          (r.0, r.1, r.2, in_first r.3, same Row cont ends l.4 l.5 r.1 r.4)
      go sa sb (inr g) =
          let r = sb p g x d w k in
          (r.0, r.1, r.2, in_second r.3, same Row cont ends l.6 l.7 r.1 r.4)
  sound (repetition a) s l p h x d w k = repetition_sound a s l (sound a (suc s) l.0) (suc (length w)) p (rw l.1 at h) x d w (omega arith) k

  -- ---- from words to sets

  skip : (s : ℕ) → null s ≡ true → (v : List Letter) → A s v → Start s v
  skip s n = mono Row cont ends (λ q h. st_cont s q n h) (λ e. true_and n e)

  -- what may stand where the row s begins holds what may stand where the row l does
  mono_start : (s l : ℕ) → ((q : ℕ) → Has (first l) q → Has (start s) q)
      → (null l ≡ true → ((q : ℕ) → Has (cont l) q → Has (start s) q) × (ends l ≡ true → start_end s ≡ true))
      → (w : List Letter) → Start l w → Start s w
  mono_start s l f g =
      mono Row cont ends (λ q h. ⊎_elim (f q) (λ n. (g n.0).0 q n.1) (st_cases l q h))
      (λ e.
      let n = and_true (null l) (ends l) e in
      (g n.0).1 n.1)

  complete : {e : Expression} {u : List Letter} → Language Reads e u → (s : ℕ) → Local e s → (v : List Letter) → A s v → Start s (u ++ v)
  complete (in_symbol {c = c} d) s l v k = (s, st_first s s (rw l.1 (one_has s)), (l.0 c).1 d, k)
  complete in_empty s l v k = skip s l.1 v k
  complete (in_concatenation {a} {b} {u = u} {v = u'} i j) s l v k =
      let r = suc s + rows a in
      let kb : Start r (u' ++ v) = complete j r l.1 v (same Row cont ends (sym l.6) (sym l.7) v k) in
      let ka : Start (suc s) (u ++ (u' ++ v)) = complete i (suc s) l.0 (u' ++ v) (same Row cont ends (sym l.4) (sym l.5) (u' ++ v) kb) in
      rw append_assoc
      (mono_start s (suc s) (λ q h. st_first s q (rw l.2 (has_or_l (first (suc s)) _ q h)))
      (λ n. (
        λ q h.
            ⊎_elim (λ h₁. st_first s q (rw l.2 (has_or_r (first (suc s)) _ q (gate_has _ _ q n h₁))))
            (λ m. st_cont s q (l.3 ∙ true_and n m.0) (rw l.6 at m.1))
            (st_cases r q (rw l.4 at h)),
        λ e.
            let m = and_true (null r) (ends r) (sym l.5 ∙ e) in
            true_and (l.3 ∙ true_and n m.0) (sym l.7 ∙ m.1),
      ))
      (u ++ (u' ++ v)) ka)
  complete (in_first {u = u} i) s l v k =
      mono_start s (suc s) (λ q h. st_first s q (rw l.2 (has_or_l (first (suc s)) _ q h)))
      (λ n.
      let m : null s ≡ true = l.3 ∙ rw n in
      (λ q h. st_cont s q m (rw l.4 at h), λ e. true_and m (sym l.5 ∙ e)))
      (u ++ v) (complete i (suc s) l.0 v (same Row cont ends (sym l.4) (sym l.5) v k))
  complete (in_second {a} {u = u} i) s l v k =
      mono_start s (suc s + rows a) (λ q h. st_first s q (rw l.2 (has_or_r (first (suc s)) _ q h)))
      (λ n.
      let m : null s ≡ true = l.3 ∙ true_or (null (suc s)) n in
      (λ q h. st_cont s q m (rw l.6 at h), λ e. true_and m (sym l.7 ∙ e)))
      (u ++ v) (complete i (suc s + rows a) l.1 v (same Row cont ends (sym l.6) (sym l.7) v k))
  complete in_none s l v k = skip s l.2 v k
  complete (in_more {u = u} {v = u'} i j) s l v k =
      let kb : Start s (u' ++ v) = complete j s l v k in
      let kc : A (suc s) (u' ++ v) =
      mono Row cont ends {S = start s} {f = start_end s}
      (λ q h. rw l.3 (⊎_elim (λ h₁. has_or_l (first (suc s)) (cont s) q (rw l.1 at h₁)) (λ m. has_or_r (first (suc s)) (cont s) q m.1) (st_cases s q h)))
      (λ e. l.4 ∙ (and_true (null s) (ends s) e).1) (u' ++ v) kb in
      let ka : Start (suc s) (u ++ (u' ++ v)) = complete i (suc s) l.0 (u' ++ v) kc in
      rw append_assoc
      (mono_start s (suc s) (λ q h. st_first s q (rw l.1 h))
      (λ n. (
        λ q h.
            ⊎_elim (λ h₁. st_first s q (rw l.1 h₁)) (λ h₂. st_cont s q l.2 h₂)
            (has_or (first (suc s)) (cont s) q (rw l.3 at h)),
        λ e. true_and l.2 (sym l.4 ∙ e),
      ))
      (u ++ (u' ++ v)) ka)

  -- ---- the theorem: at a top row, after which nothing comes, the sets read exactly the expression's words
  module _ (e : Expression) (s : ℕ) (l : Local e s) (c0 : cont s ≡ 0) (e1 : ends s ≡ true) where
    pub accepts_sound : (w : List Letter) → Accepts Row cont ends (first s) (null s) w → Language Reads e w
    accepts_sound w a =
        let r = start_sound e s l (sound e s l) w (mono Row cont ends (λ q h. st_first s q h) (λ n. true_and n e1) w a) in
        go r.0 r.1 r.2 r.3 r.4
      where
        go : (u v : List Letter) → w ≡ u ++ v → Language Reads e u → A s v → Language Reads e w
        go u [] q i k = rw (q ∙ append-nil u) i
        go u (c ∷ v) q i k = absurd (has_zero k.0 (rw c0 at k.1))

    pub accepts_complete : (w : List Letter) → Language Reads e w → Accepts Row cont ends (first s) (null s) w
    accepts_complete w i =
        mono Row cont ends {S = start s} {f = start_end s}
        (λ q h. ⊎_elim (λ a. a) (λ m. absurd (has_zero q (rw c0 at m.1))) (st_cases s q h)) (λ n. (and_true (null s) (ends s) n).0) w
        (rw append-nil at (complete i s l [] e1))
