-- A token is many steps of the byte machine.
use mathlib.Core.Path.{◌≡◌, refl, sym, ap, ◌∙◌}
use mathlib.Core.Bool.{Bool, true, false, cond, true≢false}
use mathlib.Core.List.{List, [], ◌∷◌, ◌++◌, append-nil, append_assoc}
use Prim.Native.Nat.{ℕ, zero, suc, ◌+◌, ◌-◌, ◌≤◌, ◌<◌}
use native.Mathlib.Omega.{arith}
use native.Mathlib.Numerals.{add-one}
use lib.Dec.{eqb, ltb}
use lib.ListN.{length, get_or, take, drop, length-take, length-drop, get_or-eq_default}
use lib.Seq.{take-suc, take_all, drop-cons, drop-length, get_or-take, get_or-drop}
use borrow.Author.Tests.{ltb-true, ltb-false, eqb-true, ne_eqb}
use Rattle.grammar.specs.Classes.{white, name_start, name_byte, class_number}
use Rattle.grammar.specs.Grammar.{Bytes, ε, ◌▸◌, ◌⊲◌, Content, nothing, empty_element, element, OutsideAt}
use Rattle.grammar.specs.Machine.{may_follow, Open, State, dead, in_run, after_less, in_name, in_space, after_slash, in_end_name, in_end_space, level, end_tag_state, tag, tail, step, runs, initial, Final, At}
use Rattle.grammar.proofs.Theory.{Live, dies_at, ends_early, not_less, white_no_name}
use Rattle.grammar.specs.Rows.{#}
use Rattle.openings.specs.OpenNames.{Named}
use Rattle.openings.proofs.LastTag.{next_is}
use Rattle.tokens.specs.Tokens.{Passed, Span, bytes, white_at, name_at, run_at, same_at}

-- ONE STEP
pub at_more : {w : List ℕ} {j : ℕ} {z : State} → At w j z → j < length w → At w (j + 1) (step z (get_or w j 0))
at_more {w} {j} {z} a h = record { within = omega arith; is = rw (add-one j) (next_is w j z a.is h) }

pub at_same : {w : List ℕ} {j k : ℕ} {z z' : State} → j ≡ k → z ≡ z' → At w j z → At w k z'
at_same {w} {j} {k} {z} {z'} e f a = record { within = omega (arith, a.within); is = rw (← e) (a.is ∙ f) }

-- a byte other than 0 stands in the document
pub there : (w : List ℕ) (j b : ℕ) → get_or w j 0 ≡ suc b → j < length w
there w j b h = go (ltb j (length w)) refl
  where
    go : (t : Bool) → ltb j (length w) ≡ t → j < length w
    go true e = ltb-true j (length w) e
    go false e = absurd (omega (arith, h, get_or-eq_default w 0 (ltb-false j (length w) e)))

-- .. and the machine takes it
pub at_byte : {w : List ℕ} {j : ℕ} {z : State} (b : ℕ) (z' : State) → At w j z → get_or w j 0 ≡ suc b → step z (suc b) ≡ z' → At w (j + 1) z'
at_byte {w} {j} {z} b z' a h e = at_same refl (ap (step z) h ∙ e) (at_more a (there w j b h))

-- THE PLACE OF CODE 3 is where the machine goes no further
pub refuse : {w : List ℕ} {j : ℕ} {z : State} → At w j z → Live z → (length w ≤ j → Final z → ⊥) → (j < length w → step z (get_or w j 0) ≡ dead) → OutsideAt w j
refuse {w} {j} {z} a l n d = go (ltb j (length w)) refl
  where
    go : (t : Bool) → ltb j (length w) ≡ t → OutsideAt w j
    go true e =
        let h : j < length w = ltb-true j (length w) e in
        dies_at w j h (rw a.is l) (λ k. rw (next_is w j z a.is h ∙ d h) at k)
    go false e =
        let h : length w ≤ j = ltb-false j (length w) e in
        let q : j ≡ length w = omega (arith, a.within) in
        let r : runs initial w ≡ z = ap (runs initial) (sym (take_all j w h)) ∙ a.is in
        rw q (ends_early w (rw r l) (λ k. n h (rw r at k)))

-- MANY STEPS: from the byte m of a token to its byte m + d, the states of the token being z
pub walk : (z : Bytes → State) (w : List ℕ) (a m d : ℕ) →
    ((k : ℕ) → m ≤ k → k < m + d → step (z (bytes w a k)) (get_or w (a + k) 0) ≡ z (bytes w a k ▸ get_or w (a + k) 0)) →
    a + (m + d) ≤ length w → At w (a + m) (z (bytes w a m)) → At w (a + (m + d)) (z (bytes w a (m + d)))
unfolding bytes
walk z w a m zero h p q =
    let e : m ≡ m + 0 = omega arith in
    at_same (omega arith) (ap (λ (k : ℕ). z (bytes w a k)) e) q
walk z w a m (suc d) h p q =
    let r : At w (a + (m + d)) (z (bytes w a (m + d))) = walk z w a m d (λ k u v. h k u (omega arith)) (omega arith) q in
    let e : suc (m + d) ≡ m + suc d = omega arith in
    at_same (omega arith) (h (m + d) (omega arith) (omega arith) ∙ ap (λ (k : ℕ). z (bytes w a k)) e) (at_more r (omega arith))

-- a token from its first byte on
pub walk_all : (z : Bytes → State) (w : List ℕ) (a r : ℕ) → a ≤ r → r ≤ length w →
    ((k : ℕ) → k < r - a → step (z (bytes w a k)) (get_or w (a + k) 0) ≡ z (bytes w a k ▸ get_or w (a + k) 0)) →
    At w a (z ε) → At w r (z (bytes w a (r - a)))
unfolding bytes
walk_all z w a r p q h s =
    let n : 0 + (r - a) ≡ r - a = omega arith in
    at_same (omega arith) (ap (λ (k : ℕ). z (bytes w a k)) n)
    (walk z w a 0 (r - a) (λ k u v. h k (omega arith)) (omega arith) (at_same (omega arith) refl s))

-- A RUN
pub run_walk : {w : List ℕ} {a r : ℕ} (o : List Open) (f : Content) → Passed (run_at (level o) w a) w a r → At w a (in_run o f ε) →
    At w r (in_run o f (bytes w a (r - a)))
unfolding run_at
run_walk {w} {a} {r} o f h s = walk_all (in_run o f) w a r h.from h.within (λ k p. one k (h.each (a + k) (omega arith) (omega arith))) s
  where
    one : (k : ℕ) → may_follow (level o) (bytes w a (a + k - a)) (get_or w (a + k) 0) ≡ true →
        step (in_run o f (bytes w a k)) (get_or w (a + k) 0) ≡ in_run o f (bytes w a k ▸ get_or w (a + k) 0)
    one k e =
        let z : a + k - a ≡ k = omega arith in
        let y : may_follow (level o) (bytes w a k) (get_or w (a + k) 0) ≡ true = rw z at e in
        simp (not_less (level o) (bytes w a k) (get_or w (a + k) 0) y, y)

pub run_refused : {w : List ℕ} {r : ℕ} (o : List Open) (f : Content) (t : Bytes) → At w r (in_run o f t) → (length w ≤ r → Final (in_run o f t) → ⊥) →
    (r < length w → may_follow (level o) t (get_or w r 0) ≡ false) → eqb (get_or w r 0) 60 ≡ false → OutsideAt w r
run_refused o f t s n h e = refuse s tt n (λ p. simp (e, h p))

-- A START TAG
-- the state in the white space g behind a start tag's name
abbrev spaced : List Open → Content → Bytes → Bytes → Bytes → State
spaced o f t n ε = in_name o f t n
spaced o f t n (g ▸ b) = in_space o f t n (g ▸ b)

module _ {w : List ℕ} {a : ℕ} (o : List Open) (f : Content) (t : Bytes) (here : At w a (after_less o f t)) where
  pub start_refused : name_start (get_or w a 0) ≡ false → (get_or w a 0 ≡ 47 → o ≡ []) → OutsideAt w a
  start_refused e k = refuse here tt (λ q x. x) (λ p. simp e (go (eqb (get_or w a 0) 47) refl))
    where
      go : (y : Bool) → eqb (get_or w a 0) 47 ≡ y → cond y (end_tag_state o f t) dead ≡ dead
      go true q = ap (λ (x : List Open). end_tag_state x f t) (k (eqb-true (get_or w a 0) 47 q))
      go false q = refl

  module _ {e : ℕ} (first : name_start (get_or w a 0) ≡ true) (in_w : a < length w) (name : Span (name_at w) w (a + 1) e) where
    pub name_walk : At w e (in_name o f t (bytes w a (e - a)))
    unfolding bytes
    name_walk =
        let p : a + 1 ≤ e = name.passed.from in
        let q : e ≤ length w = name.passed.within in
        let m : 1 + (e - (a + 1)) ≡ e - a = omega arith in
        let z : a + 0 ≡ a = omega arith in
        let s : At w (a + 1) (in_name o f t (bytes w a 1)) = at_same refl (simp (first, z)) (at_more here in_w) in
        at_same (omega arith) (ap (λ (k : ℕ). in_name o f t (bytes w a k)) m)
        (walk (in_name o f t) w a 1 (e - (a + 1)) (λ k u v. simp (name.passed.each (a + k) (omega arith) (omega arith))) (omega arith) s)

    module _ {s : ℕ} (space : Span (white_at w) w e s) where
      abbrev N : Bytes
      N = bytes w a (e - a)

      abbrev G : Bytes
      G = bytes w e (s - e)

      pub space_walk : At w s (spaced o f t N G)
      space_walk =
          walk_all (spaced o f t N) w e s space.passed.from space.passed.within
          (λ k p. one (bytes w e k) (get_or w (e + k) 0) (space.passed.each (e + k) (omega arith) (omega (arith, space.passed.from)))) name_walk
        where
          one : (g : Bytes) (b : ℕ) → white b ≡ true → step (spaced o f t N g) b ≡ spaced o f t N (g ▸ b)
          one ε b h = simp (white_no_name b h, h)
          one (g ▸ c) b h = simp h

      -- the byte behind the white space
      shut : (b : ℕ) → get_or w s 0 ≡ b → s < length w → step (spaced o f t N G) b ≡ tag o f t N G b
      unfolding bytes
      shut b h p = go (s - e) refl
        where
          go : (m : ℕ) → s - e ≡ m → step (spaced o f t N (bytes w e m)) b ≡ tag o f t N (bytes w e m) b
          go zero q =
              let x : e ≡ s = omega (arith, space.passed.from) in
              let y : name_byte b ≡ false = rw (← h, ← x) (name.stop (omega arith)) in
              simp y
          go (suc m) q = refl

      pub opens : get_or w s 0 ≡ 62 → At w (s + 1) (in_run (record { before = f; run = t; name = N; space = G } ∷ o) nothing ε)
      unfolding white class_number
      opens h = at_byte 61 _ space_walk h (shut 62 h (there w s 61 h))

      slashed : get_or w s 0 ≡ 47 → At w (s + 1) (after_slash o f t N G)
      unfolding white class_number
      slashed h = at_byte 46 _ space_walk h (shut 47 h (there w s 46 h))

      pub empties : get_or w s 0 ≡ 47 → get_or w (s + 1) 0 ≡ 62 → At w (s + 2) (in_run o (empty_element f t N G) ε)
      empties h k = at_same (omega arith) refl (at_byte 61 _ (slashed h) k refl)

      pub slash_refused : get_or w s 0 ≡ 47 → (get_or w (s + 1) 0 ≡ 62 → ⊥) → OutsideAt w (s + 1)
      slash_refused h k = refuse (slashed h) tt (λ q x. x) (λ p. simp (ne_eqb (get_or w (s + 1) 0) 62 k))

      pub space_refused : (get_or w s 0 ≡ 62 → ⊥) → (get_or w s 0 ≡ 47 → ⊥) → OutsideAt w s
      space_refused h k =
          refuse space_walk (live G) (λ q. final G)
          (λ p. shut (get_or w s 0) refl p ∙ simp (space.stop p, ne_eqb (get_or w s 0) 62 h, ne_eqb (get_or w s 0) 47 k))
        where
          live : (g : Bytes) → Live (spaced o f t N g)
          live ε = tt
          live (g ▸ b) = tt

          final : (g : Bytes) → Final (spaced o f t N g) → ⊥
          final ε x = x
          final (g ▸ b) x = x

-- AN END TAG
-- the bytes of a name that stands at x
listed : (w : List ℕ) (x n : ℕ) (v : List ℕ) → x + n ≤ length w → bytes w x n ⊲ v ≡ take n (drop x w) ++ v
unfolding bytes
listed w x zero v h = refl
listed w x (suc n) v h =
    let p : n < length (drop x w) = simp length-drop (omega arith) in
    let e : take (suc n) (drop x w) ≡ take n (drop x w) ++ (get_or w (x + n) 0 ∷ []) = take-suc (drop x w) n 0 p ∙ rw (get_or-drop x w n 0) in
    listed w x n (get_or w (x + n) 0 ∷ v) (omega arith) ∙ rw e (sym (append_assoc (take n (drop x w)) (get_or w (x + n) 0 ∷ []) v))

-- the state in the white space h behind an end tag's name
abbrev ending : Open → List Open → Content → Bytes → Bytes → Bytes → State
ending p o f t m ε = in_end_name p o f t m []
ending p o f t m (h ▸ b) = in_end_space p o f t (h ▸ b)

module _ {w : List ℕ} {x a e : ℕ} (p : Open) (o : List Open) (f : Content) (t : Bytes) (here : At w a (in_end_name p o f t ε (p.name ⊲ [])))
    (named : Named w x p.name) (same : Span (same_at w x a) w a e) where
  abbrev L : List ℕ
  L = p.name ⊲ []

  abbrev size : ℕ
  size = # p.name

  list_is : L ≡ take size (drop x w)
  list_is = ap (λ (s : Bytes). s ⊲ []) named.is ∙ listed w x size [] (omega (arith, named.behind)) ∙ append-nil (take size (drop x w))

  list_long : length L ≡ size
  list_long = ap length list_is ∙ simp (length-take, length-drop) (omega (arith, named.behind))

  list_at : (k : ℕ) → k < size → get_or L k 0 ≡ get_or w (x + k) 0
  list_at k h = ap (λ (l : List ℕ). get_or l k 0) list_is ∙ get_or-take size (drop x w) k 0 h ∙ get_or-drop x w k 0

  -- a place of the name has a name byte, and that behind it has none
  name_ended : (k : ℕ) → k ≤ size → name_byte (get_or w (x + k) 0) ≡ true → k < size
  name_ended k h n = go (ltb k size) refl
    where
      go : (y : Bool) → ltb k size ≡ y → k < size
      go true q = ltb-true k size q
      go false q =
          let z : k ≡ size = omega (arith, ltb-false k size q) in
          let s : name_byte (get_or w (x + size) 0) ≡ false = named.span.stop named.behind in
          absurd (true≢false (sym (rw z at n) ∙ s))

  two : (k : ℕ) → same_at w x a (a + k) ≡ true → (name_byte (get_or w (x + k) 0) ≡ true) × (eqb (get_or w (a + k) 0) (get_or w (x + k) 0) ≡ true)
  unfolding same_at
  two k h =
      let z : a + k - a ≡ k = omega arith in
      go (name_byte (get_or w (x + k) 0)) (rw z at h)
    where
      go : (y : Bool) → cond y (eqb (get_or w (a + k) 0) (get_or w (x + k) 0)) false ≡ true → (y ≡ true) × (eqb (get_or w (a + k) 0) (get_or w (x + k) 0) ≡ true)
      go true q = (refl, q)
      go false q = absurd (true≢false (sym q))

  rest : (k : ℕ) → k < size → drop k L ≡ get_or w (x + k) 0 ∷ drop (suc k) L
  rest k h = drop-cons L k 0 (omega (arith, list_long)) ∙ rw (list_at k h)

  same_walk : (d : ℕ) → a + d ≤ e → (d ≤ size) × At w (a + d) (in_end_name p o f t (bytes w a d) (drop d L))
  unfolding bytes
  same_walk zero h = (omega arith, at_same (omega arith) refl here)
  same_walk (suc d) h =
      let r : (d ≤ size) × At w (a + d) (in_end_name p o f t (bytes w a d) (drop d L)) = same_walk d (omega arith) in
      let q : (name_byte (get_or w (x + d) 0) ≡ true) × (eqb (get_or w (a + d) 0) (get_or w (x + d) 0) ≡ true) = two d (same.passed.each (a + d) (omega arith) (omega arith)) in
      let l : d < size = name_ended d r.0 q.0 in (
        omega arith,
        at_same (omega arith) (ap (λ (v : List ℕ). step (in_end_name p o f t (bytes w a d) v) (get_or w (a + d) 0)) (rest d l) ∙ simp q.1)
            (at_more r.1 (omega (arith, same.passed.within))),
      )

  far : (e - a ≤ size) × At w e (in_end_name p o f t (bytes w a (e - a)) (drop (e - a) L))
  far =
      let r : (e - a ≤ size) × At w (a + (e - a)) (in_end_name p o f t (bytes w a (e - a)) (drop (e - a) L)) = same_walk (e - a) (omega (arith, same.passed.from)) in
      (r.0, at_same (omega (arith, same.passed.from)) refl r.1)

  -- the name goes on, and the end tag's does not
  pub end_refused : name_byte (get_or w (x + (e - a)) 0) ≡ true → OutsideAt w e
  unfolding same_at
  end_refused n =
      refuse far.1 tt (λ q y. y)
      (λ q. ap (λ (v : List ℕ). step (in_end_name p o f t (bytes w a (e - a)) v) (get_or w e 0)) (rest (e - a) (name_ended (e - a) far.0 n))
      ∙ simp (differs (same.stop q)))
    where
      differs : cond (name_byte (get_or w (x + (e - a)) 0)) (eqb (get_or w e 0) (get_or w (x + (e - a)) 0)) false ≡ false → eqb (get_or w e 0) (get_or w (x + (e - a)) 0) ≡ false
      differs q = rw n at q

  module _ (whole : name_byte (get_or w (x + (e - a)) 0) ≡ false) where
    all_size : e - a ≡ size
    all_size = go (ltb (e - a) size) refl
      where
        go : (y : Bool) → ltb (e - a) size ≡ y → e - a ≡ size
        go true q = absurd (true≢false (sym (named.span.passed.each (x + (e - a)) (omega arith) (omega (arith, ltb-true (e - a) size q))) ∙ whole))
        go false q = omega (arith, ltb-false (e - a) size q, far.0)

    same_whole : At w e (in_end_name p o f t (bytes w a (e - a)) [])
    same_whole =
        let z : drop (e - a) L ≡ [] = rw (all_size ∙ sym list_long) (drop-length L) in
        at_same refl (ap (in_end_name p o f t (bytes w a (e - a))) z) far.1

    module _ {s : ℕ} (space : Span (white_at w) w e s) where
      abbrev H : Bytes
      H = bytes w e (s - e)

      step_is : (h : Bytes) (b : ℕ) → step (ending p o f t (bytes w a (e - a)) h) b ≡ tail p o f t h b
      step_is ε b = refl
      step_is (h ▸ c) b = refl

      end_walk : At w s (ending p o f t (bytes w a (e - a)) H)
      end_walk =
          walk_all (ending p o f t (bytes w a (e - a))) w e s space.passed.from space.passed.within
          (λ k q. step_is (bytes w e k) (get_or w (e + k) 0) ∙ simp (space.passed.each (e + k) (omega arith) (omega (arith, space.passed.from)))) same_whole

      pub closes : get_or w s 0 ≡ 62 → At w (s + 1) (in_run o (element p.before p.run p.name p.space f t H) ε)
      unfolding white class_number
      closes h = at_byte 61 _ end_walk h (step_is H 62)

      pub close_refused : (get_or w s 0 ≡ 62 → ⊥) → OutsideAt w s
      close_refused h =
          refuse end_walk (live H) (λ q. final H) (λ q. step_is H (get_or w s 0) ∙ simp (space.stop q, ne_eqb (get_or w s 0) 62 h))
        where
          live : (g : Bytes) → Live (ending p o f t (bytes w a (e - a)) g)
          live ε = tt
          live (g ▸ b) = tt

          final : (g : Bytes) → Final (ending p o f t (bytes w a (e - a)) g) → ⊥
          final ε y = y
          final (g ▸ b) y = y
