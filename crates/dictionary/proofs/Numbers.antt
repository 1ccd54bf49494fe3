-- Equal spellings have equal numbers and different spellings different ones; how the next number is found.
use mathlib.Core.Path.{◌≡◌, refl, sym, ap, ◌∙◌}
use mathlib.Core.Bool.{Bool, true, false, cond, ◌&&◌, true≢false}
use mathlib.Core.List.{List, [], ◌∷◌, ◌++◌}
use Prim.Native.Nat.{ℕ, zero, suc, ◌+◌, ◌≤◌, ◌<◌}
use native.Mathlib.Omega.{arith}
use lib.Dec.{eqb, ltb}
use lib.ListN.{length, get_or, take, length-append}
use lib.Seq.{length-take-le, get_or-take}
use borrow.Author.Tests.{eqb-true, eq-eqb, ltb-true, ltb-false, lt-ltb, le-ltb}
use Rattle.dictionary.specs.Numbers.{are_same_bytes, place_of, learn, numbers_of}

-- what is known after all of these: the names of the dictionary, then each new spelling where it first appears
abbrev pub known_after : List (List ℕ) → List (List ℕ) → List (List ℕ)
known_after known [] = known
known_after known (w ∷ ws) = known_after (learn known w) ws

-- the test of equality
same_bytes : (v : List ℕ) → are_same_bytes v v ≡ true
same_bytes [] = refl
same_bytes (b ∷ v) = simp (eq-eqb b b refl, same_bytes v)

pub same_is : (v w : List ℕ) → are_same_bytes v w ≡ true → v ≡ w
same_is [] [] h = refl
same_is [] (b ∷ w) h = absurd (true≢false (sym h))
same_is (a ∷ v) [] h = absurd (true≢false (sym h))
same_is (a ∷ v) (b ∷ w) h = go (eqb a b) refl h (same_is v w)
  where
    go : (t : Bool) → eqb a b ≡ t → t && are_same_bytes v w ≡ true → (are_same_bytes v w ≡ true → v ≡ w) → ◌≡◌ {A = List ℕ} (a ∷ v) (b ∷ w)
    go true e h k = cc (eqb-true a b e, k h)
    go false e h k = absurd (true≢false (sym h))

-- THE PLACE OF A SPELLING
pub place_le : (ns : List (List ℕ)) (w : List ℕ) → place_of ns w ≤ length ns
place_le [] w = omega arith
place_le (n ∷ ns) w = go (are_same_bytes n w) (place_le ns w)
  where
    go : (t : Bool) → place_of ns w ≤ length ns → cond t 0 (suc (place_of ns w)) ≤ suc (length ns)
    go true h = omega arith
    go false h = omega arith

pub place_is : (ns : List (List ℕ)) (w : List ℕ) → place_of ns w < length ns → get_or ns (place_of ns w) [] ≡ w
place_is [] w h = absurd (omega arith)
place_is (n ∷ ns) w h = go (are_same_bytes n w) refl h (λ k. place_is ns w k)
  where
    go : (t : Bool) → are_same_bytes n w ≡ t → cond t 0 (suc (place_of ns w)) < suc (length ns) → (place_of ns w < length ns → get_or ns (place_of ns w) [] ≡ w) →
        get_or (n ∷ ns) (cond t 0 (suc (place_of ns w))) [] ≡ w
    go true e h k = same_is n w e
    go false e h k = k (omega arith)

-- the place of one that stands at j, where none before it is equal
pub place_at : (ns : List (List ℕ)) (w : List ℕ) (j : ℕ) → j < length ns → get_or ns j [] ≡ w → ((i : ℕ) → i < j → get_or ns i [] ≡ w → ⊥) → place_of ns w ≡ j
place_at [] w j p q h = absurd (omega arith)
place_at (n ∷ ns) w zero p q h = rw q (ap (λ (t : Bool). cond t 0 (suc (place_of ns w))) (same_bytes w))
place_at (n ∷ ns) w (suc j) p q h = go (are_same_bytes n w) refl (place_at ns w j (omega arith) q (λ i k e. h (suc i) (omega arith) e))
  where
    go : (t : Bool) → are_same_bytes n w ≡ t → place_of ns w ≡ j → cond t 0 (suc (place_of ns w)) ≡ suc j
    go true e k = absurd (h 0 (omega arith) (same_is n w e))
    go false e k = ap suc k

pub place_none : (ns : List (List ℕ)) (w : List ℕ) → ((i : ℕ) → i < length ns → get_or ns i [] ≡ w → ⊥) → place_of ns w ≡ length ns
place_none [] w h = refl
place_none (n ∷ ns) w h = go (are_same_bytes n w) refl (place_none ns w (λ i k e. h (suc i) (omega arith) e))
  where
    go : (t : Bool) → are_same_bytes n w ≡ t → place_of ns w ≡ length ns → cond t 0 (suc (place_of ns w)) ≡ suc (length ns)
    go true e k = absurd (h 0 (omega arith) (same_is n w e))
    go false e k = ap suc k

pub place_some : (ns : List (List ℕ)) (w : List ℕ) (i : ℕ) → i < length ns → get_or ns i [] ≡ w → place_of ns w ≤ i
place_some [] w i p q = absurd (omega arith)
place_some (n ∷ ns) w zero p q = rw q (ap_le (same_bytes w))
  where
    ap_le : are_same_bytes w w ≡ true → cond (are_same_bytes w w) 0 (suc (place_of ns w)) ≤ 0
    ap_le e = rw e (omega arith)
place_some (n ∷ ns) w (suc i) p q = go (are_same_bytes n w) (place_some ns w i (omega arith) q)
  where
    go : (t : Bool) → place_of ns w ≤ i → cond t 0 (suc (place_of ns w)) ≤ suc i
    go true h = omega arith
    go false h = omega arith

-- what is found stays where it is; what is not is sought in what is added
place_left : (ns ms : List (List ℕ)) (w : List ℕ) → place_of ns w < length ns → place_of (ns ++ ms) w ≡ place_of ns w
place_left [] ms w h = absurd (omega arith)
place_left (n ∷ ns) ms w h = go (are_same_bytes n w) h (λ k. place_left ns ms w k)
  where
    go : (t : Bool) → cond t 0 (suc (place_of ns w)) < suc (length ns) → (place_of ns w < length ns → place_of (ns ++ ms) w ≡ place_of ns w) →
        cond t 0 (suc (place_of (ns ++ ms) w)) ≡ cond t 0 (suc (place_of ns w))
    go true h k = refl
    go false h k = ap suc (k (omega arith))

place_right : (ns ms : List (List ℕ)) (w : List ℕ) → length ns ≤ place_of ns w → place_of (ns ++ ms) w ≡ length ns + place_of ms w
place_right [] ms w h = omega arith
place_right (n ∷ ns) ms w h = go (are_same_bytes n w) h (λ k. place_right ns ms w k)
  where
    go : (t : Bool) → suc (length ns) ≤ cond t 0 (suc (place_of ns w)) → (length ns ≤ place_of ns w → place_of (ns ++ ms) w ≡ length ns + place_of ms w) →
        cond t 0 (suc (place_of (ns ++ ms) w)) ≡ suc (length ns) + place_of ms w
    go true h k = absurd (omega arith)
    go false h k = omega (arith, k (omega arith))

-- WHAT IS KNOWN
pub learn_old : (ns : List (List ℕ)) (w : List ℕ) → place_of ns w < length ns → learn ns w ≡ ns
learn_old ns w h = simp (lt-ltb _ _ h)

pub learn_new : (ns : List (List ℕ)) (w : List ℕ) → length ns ≤ place_of ns w → learn ns w ≡ ns ++ (w ∷ [])
learn_new ns w h = simp (le-ltb _ _ h)

by_learn : (P : List (List ℕ) → Type 0) (ns : List (List ℕ)) (w : List ℕ) → (place_of ns w < length ns → P ns) → (length ns ≤ place_of ns w → P (ns ++ (w ∷ []))) → P (learn ns w)
by_learn P ns w h k = go (ltb (place_of ns w) (length ns)) refl
  where
    go : (t : Bool) → ltb (place_of ns w) (length ns) ≡ t → P (cond t ns (ns ++ (w ∷ [])))
    go true e = h (ltb-true _ _ e)
    go false e = k (ltb-false _ _ e)

pub learn_size : (ns : List (List ℕ)) (x : List ℕ) → (length ns ≤ length (learn ns x)) × (length (learn ns x) ≤ length ns + 1)
learn_size ns x =
    by_learn (λ l. (length ns ≤ length l) × (length l ≤ length ns + 1)) ns x (λ k. (omega arith, omega arith))
    (λ k. (omega (arith, length-append ns (x ∷ [])), omega (arith, length-append ns (x ∷ []))))

learn_keeps : (ns : List (List ℕ)) (x w : List ℕ) → place_of ns w < length ns → place_of (learn ns x) w ≡ place_of ns w
learn_keeps ns x w h = by_learn (λ l. place_of l w ≡ place_of ns w) ns x (λ k. refl) (λ k. place_left ns (x ∷ []) w h)

learn_finds : (ns : List (List ℕ)) (w : List ℕ) → (place_of (learn ns w) w ≡ place_of ns w) × (place_of ns w < length (learn ns w))
learn_finds ns w =
    by_learn (λ l. (place_of l w ≡ place_of ns w) × (place_of ns w < length l)) ns w (λ k. (refl, k))
    (λ k.
    let z : place_of (w ∷ []) w ≡ 0 = simp (same_bytes w) in
    (omega (arith, place_right ns (w ∷ []) w k, z, place_le ns w), omega (arith, length-append ns (w ∷ []), place_le ns w)))

pub known_size : (ns ws : List (List ℕ)) → length (known_after ns ws) ≤ length ns + length ws
known_size ns [] = omega arith
known_size ns (w ∷ ws) = omega (arith, known_size (learn ns w) ws, learn_size ns w)

known_keeps : (ns ws : List (List ℕ)) (w : List ℕ) → place_of ns w < length ns → (place_of (known_after ns ws) w ≡ place_of ns w) × (place_of (known_after ns ws) w < length (known_after ns ws))
known_keeps ns [] w h = (refl, h)
known_keeps ns (x ∷ ws) w h =
    let k : place_of (learn ns x) w ≡ place_of ns w = learn_keeps ns x w h in
    let r : (place_of (known_after (learn ns x) ws) w ≡ place_of (learn ns x) w) × (place_of (known_after (learn ns x) ws) w < length (known_after (learn ns x) ws)) =
    known_keeps (learn ns x) ws w (omega (arith, learn_size ns x)) in
    (r.0 ∙ k, r.1)

-- THE NUMBER OF A ROW is the place of its spelling among all that are known in the end
pub number_place : (ns ws : List (List ℕ)) (r : ℕ) → r < length ws →
    (get_or (numbers_of ns ws) r 0 ≡ place_of (known_after ns ws) (get_or ws r [])) × (get_or (numbers_of ns ws) r 0 < length (known_after ns ws))
number_place ns [] r h = absurd (omega arith)
number_place ns (w ∷ ws) zero h =
    let k : (place_of (learn ns w) w ≡ place_of ns w) × (place_of ns w < length (learn ns w)) = learn_finds ns w in
    let e : (place_of (known_after (learn ns w) ws) w ≡ place_of (learn ns w) w) × (place_of (known_after (learn ns w) ws) w < length (known_after (learn ns w) ws)) =
    known_keeps (learn ns w) ws w (omega (arith, k)) in
    (sym (e.0 ∙ k.0), omega (arith, e, k))
number_place ns (w ∷ ws) (suc r) h = number_place (learn ns w) ws r (omega arith)

pub length_numbers : (ns ws : List (List ℕ)) → length (numbers_of ns ws) ≡ length ws
length_numbers ns [] = refl
length_numbers ns (w ∷ ws) = ap suc (length_numbers (learn ns w) ws)

pub number_below : (ns ws : List (List ℕ)) (r : ℕ) → r < length ws → get_or (numbers_of ns ws) r 0 < length ns + length ws
number_below ns ws r h = omega (arith, known_size ns ws, (number_place ns ws r h).1)

pub number_spelling : (ns ws : List (List ℕ)) (r : ℕ) → r < length ws → get_or (known_after ns ws) (get_or (numbers_of ns ws) r 0) [] ≡ get_or ws r []
number_spelling ns ws r h =
    let p : (get_or (numbers_of ns ws) r 0 ≡ place_of (known_after ns ws) (get_or ws r [])) × (get_or (numbers_of ns ws) r 0 < length (known_after ns ws)) = number_place ns ws r h in
    ap (λ (i : ℕ). get_or (known_after ns ws) i []) p.0 ∙ place_is (known_after ns ws) (get_or ws r []) (omega (arith, p))

-- THE PROMISES: equal spellings, equal numbers; and the other way round
module _ (ns ws : List (List ℕ)) (r s : ℕ) (in_r : r < length ws) (in_s : s < length ws) where
  pub equal_numbers : get_or ws r [] ≡ get_or ws s [] → get_or (numbers_of ns ws) r 0 ≡ get_or (numbers_of ns ws) s 0
  equal_numbers e = (number_place ns ws r in_r).0 ∙ ap (place_of (known_after ns ws)) e ∙ sym (number_place ns ws s in_s).0

  pub equal_spellings : get_or (numbers_of ns ws) r 0 ≡ get_or (numbers_of ns ws) s 0 → get_or ws r [] ≡ get_or ws s []
  equal_spellings e = sym (number_spelling ns ws r in_r) ∙ ap (λ (i : ℕ). get_or (known_after ns ws) i []) e ∙ number_spelling ns ws s in_s

-- a spelling in the dictionary has its place there; another has a number of K or more
pub number_name : (ns ws : List (List ℕ)) (r : ℕ) → r < length ws → place_of ns (get_or ws r []) < length ns → get_or (numbers_of ns ws) r 0 ≡ place_of ns (get_or ws r [])
number_name ns ws r h k = (number_place ns ws r h).0 ∙ (known_keeps ns ws (get_or ws r []) k).0

-- a name keeps its place while spellings are learnt
learn_at : (ns : List (List ℕ)) (x : List ℕ) (i : ℕ) → i < length ns → get_or (learn ns x) i [] ≡ get_or ns i []
learn_at ns x i h = by_learn (λ l. get_or l i [] ≡ get_or ns i []) ns x (λ k. refl) (λ k. append_at ns i h)
  where
    append_at : (l : List (List ℕ)) (i : ℕ) → i < length l → get_or (l ++ (x ∷ [])) i [] ≡ get_or l i []
    append_at [] i h = absurd (omega arith)
    append_at (n ∷ l) zero h = refl
    append_at (n ∷ l) (suc i) h = append_at l i (omega arith)

pub known_at : (ns ws : List (List ℕ)) (i : ℕ) → i < length ns → get_or (known_after ns ws) i [] ≡ get_or ns i []
known_at ns [] i h = refl
known_at ns (w ∷ ws) i h = known_at (learn ns w) ws i (omega (arith, learn_size ns w)) ∙ learn_at ns w i h

pub number_new : (ns ws : List (List ℕ)) (r : ℕ) → r < length ws → ((i : ℕ) → i < length ns → get_or ns i [] ≡ get_or ws r [] → ⊥) → length ns ≤ get_or (numbers_of ns ws) r 0
number_new ns ws r h k = go (ltb (get_or (numbers_of ns ws) r 0) (length ns)) refl
  where
    go : (t : Bool) → ltb (get_or (numbers_of ns ws) r 0) (length ns) ≡ t → length ns ≤ get_or (numbers_of ns ws) r 0
    go true e =
        let below : get_or (numbers_of ns ws) r 0 < length ns = ltb-true _ _ e in
        absurd (k (get_or (numbers_of ns ws) r 0) below (sym (known_at ns ws _ below) ∙ number_spelling ns ws r h))
    go false e = ltb-false _ _ e

-- ROW BY ROW, as the reader goes: what is known learns the next spelling, and a number is the place among what is known before it
pub known_next : (ns ws : List (List ℕ)) (w : List ℕ) → known_after ns (ws ++ (w ∷ [])) ≡ learn (known_after ns ws) w
known_next ns [] w = refl
known_next ns (x ∷ ws) w = known_next (learn ns x) ws w

pub number_at : (ns ws : List (List ℕ)) (r : ℕ) → r < length ws → get_or (numbers_of ns ws) r 0 ≡ place_of (known_after ns (take r ws)) (get_or ws r [])
number_at ns [] r h = absurd (omega arith)
number_at ns (w ∷ ws) zero h = refl
number_at ns (w ∷ ws) (suc r) h = number_at (learn ns w) ws r (omega arith)

-- a spelling that is in neither is in nothing that is learnt of them
learn_other : (ns : List (List ℕ)) (x w : List ℕ) → (x ≡ w → ⊥) → length ns ≤ place_of ns w → length (learn ns x) ≤ place_of (learn ns x) w
learn_other ns x w n h =
    by_learn (λ l. length l ≤ place_of l w) ns x (λ k. h)
    (λ k.
    let z : place_of (x ∷ []) w ≡ 1 = place_none (x ∷ []) w (only n) in
    omega (arith, place_right ns (x ∷ []) w h, z, length-append ns (x ∷ [])))
  where
    only : (x ≡ w → ⊥) → (i : ℕ) → i < 1 → get_or (x ∷ []) i [] ≡ w → ⊥
    only n zero p e = n e
    only n (suc i) p e = omega arith

known_other : (ns ws : List (List ℕ)) (w : List ℕ) → ((i : ℕ) → i < length ws → get_or ws i [] ≡ w → ⊥) → length ns ≤ place_of ns w →
    place_of (known_after ns ws) w ≡ length (known_after ns ws)
known_other ns [] w h k = omega (arith, place_le ns w)
known_other ns (x ∷ ws) w h k = known_other (learn ns x) ws w (λ i p e. h (suc i) (omega arith) e) (learn_other ns x w (h 0 (omega arith)) k)

-- a spelling that first appears at a row, and in no name, gets the next number: K and one for each new spelling before it
pub number_first : (ns ws : List (List ℕ)) (r : ℕ) → r < length ws → ((i : ℕ) → i < length ns → get_or ns i [] ≡ get_or ws r [] → ⊥) →
    ((i : ℕ) → i < r → get_or ws i [] ≡ get_or ws r [] → ⊥) → get_or (numbers_of ns ws) r 0 ≡ length (known_after ns (take r ws))
number_first ns ws r h new first =
    let size : length (take r ws) ≡ r = length-take-le r ws (omega arith) in
    let none : place_of ns (get_or ws r []) ≡ length ns = place_none ns (get_or ws r []) new in
    number_at ns ws r h
    ∙ known_other ns (take r ws) (get_or ws r []) (λ i p e. first i (omega arith) (sym (get_or-take r ws i [] (omega arith)) ∙ e)) (omega arith)
