-- The laws of classes and of the places where tokens end.
use mathlib.Core.Path.{◌≡◌, refl, sym, ap, subst, ◌∙◌}
use mathlib.Core.Bool.{Bool, true, false, cond, ◌&&◌, ◌||◌, not, true≢false}
use mathlib.Core.List.{List}
use Prim.Native.Nat.{ℕ, zero, suc, ◌+◌, ◌-◌, ◌≤◌, ◌<◌}
use native.Mathlib.Omega.{arith}
use native.Mathlib.Decide.{ℕ_discrete}
use lib.Dec.{eqb, ltb}
use lib.ListN.{length, get_or}
use borrow.Author.Count.{below_more}
use borrow.Author.Tests.{eqb-true, eq-eqb, ne_eqb, lt-ltb, le-ltb, lt-leb, ltb-true, ltb-false}
use Rattle.grammar.specs.Classes.{class_number, within, white, name_start, name_byte, text}
use Rattle.grammar.specs.Grammar.{Bytes}
use Rattle.grammar.specs.Tokens.{inner}
use Rattle.grammar.specs.Machine.{may_follow, brackets}
use Rattle.grammar.proofs.InWords.{brackets_one, brackets_last}
use Rattle.tokens.specs.Tokens.{Passed, Span, SpanTo, bytes, plain, plain_at, run_at, is_text_at, same_at}

-- A CLASS c OF A BYTE b TELLS
module _ (c b : ℕ) (is : c ≡ class_number b) where
  pub white_yes : c ≡ 3 → white b ≡ true
  unfolding white
  white_yes h = eq-eqb (class_number b) 3 (sym is ∙ h)

  pub white_not : (c ≡ 3 → ⊥) → white b ≡ false
  unfolding white
  white_not h = ne_eqb (class_number b) 3 (λ e. h (is ∙ e))

  pub name_yes : 3 < c → name_byte b ≡ true
  unfolding name_byte
  name_yes h = lt-ltb 3 (class_number b) (omega (arith, is))

  pub name_not : c ≤ 3 → name_byte b ≡ false
  unfolding name_byte
  name_not h = le-ltb 3 (class_number b) (omega (arith, is))

  pub start_yes : 5 ≤ c → c ≤ 5 → name_start b ≡ true
  unfolding name_start
  start_yes h k = eq-eqb (class_number b) 5 (omega (arith, is))

  pub start_not : c < 5 → name_start b ≡ false
  unfolding name_start
  start_not h = ne_eqb (class_number b) 5 (λ e. omega (arith, is, e))

  -- `>` has a class of its own
  only : c ≡ 1 → b ≡ 62
  unfolding class_number
  only h = eqb-true b 62 (go (ltb 127 b) (eqb b 9 || eqb b 10 || eqb b 32) (within 65 90 b || within 97 122 b || eqb b 95 || eqb b 58) (within 48 57 b || eqb b 45 || eqb b 46) (eqb b 60 || eqb b 38 || ltb b 32) (eqb b 62) (sym is ∙ h))
    where
      go : (u v w x y z : Bool) → ◌≡◌ {A = ℕ} (cond u 0 (cond v 3 (cond w 5 (cond x 4 (cond y 0 (cond z 1 2)))))) 1 → z ≡ true
      go true v w x y z e = absurd (omega (arith, e))
      go false true w x y z e = absurd (omega (arith, e))
      go false false true x y z e = absurd (omega (arith, e))
      go false false false true y z e = absurd (omega (arith, e))
      go false false false false true z e = absurd (omega (arith, e))
      go false false false false false true e = refl
      go false false false false false false e = absurd (omega (arith, e))

  other : (c ≡ 1 → ⊥) → eqb b 62 ≡ false
  unfolding class_number
  other h = ne_eqb b 62 (λ e. h (is ∙ ap class_number e))

  -- what it tells of text behind the bytes s
  pub text_yes : (s : Bytes) → 1 < c → may_follow inner s b ≡ true
  unfolding text
  text_yes s h = simp (other (λ e. omega (arith, h, e)), lt-ltb 0 (class_number b) (omega (arith, is)))

  pub text_not : (s : Bytes) → c ≡ 0 → may_follow inner s b ≡ false
  unfolding text
  text_not s h = simp (other (λ e. omega (arith, h, e)), le-ltb 0 (class_number b) (omega (arith, is)))

  pub text_bracket : (s : Bytes) → c ≡ 1 → may_follow inner s b ≡ not (brackets s)
  unfolding text class_number
  text_bracket s h = rw (only h) (go (brackets s))
    where
      go : (y : Bool) → cond y false true ≡ not y
      go true = refl
      go false = refl

-- the three bytes of white space
pub white_is : (b : ℕ) → white b ≡ ((eqb b 9 || eqb b 10) || eqb b 32)
unfolding white class_number
white_is b =
    go (ltb 127 b) refl (within 65 90 b || within 97 122 b || eqb b 95 || eqb b 58) (within 48 57 b || eqb b 45 || eqb b 46) (eqb b 60 || eqb b 38 || ltb b 32) (eqb b 62)
  where
    other_class : (w x y z : Bool) → eqb (cond w 5 (cond x 4 (cond y 0 (cond z 1 2)))) 3 ≡ false
    other_class true x y z = refl
    other_class false true y z = refl
    other_class false false true z = refl
    other_class false false false true = refl
    other_class false false false false = refl

    one_of : (p q r w x y z : Bool) → eqb (cond (p || q || r) 3 (cond w 5 (cond x 4 (cond y 0 (cond z 1 2))))) 3 ≡ ((p || q) || r)
    one_of true q r w x y z = refl
    one_of false true r w x y z = refl
    one_of false false true w x y z = refl
    one_of false false false w x y z = other_class w x y z

    go : (u : Bool) → ltb 127 b ≡ u → (w x y z : Bool) →
        eqb (cond u 0 (cond (eqb b 9 || eqb b 10 || eqb b 32) 3 (cond w 5 (cond x 4 (cond y 0 (cond z 1 2)))))) 3 ≡ ((eqb b 9 || eqb b 10) || eqb b 32)
    go true e w x y z =
        let h : 127 < b = ltb-true 127 b e in
        simp (ne_eqb b 9 (λ q. omega (arith, q)), ne_eqb b 10 (λ q. omega (arith, q)), ne_eqb b 32 (λ q. omega (arith, q)))
    go false e w x y z = one_of (eqb b 9) (eqb b 10) (eqb b 32) w x y z

-- the bytes of plain text: two of white space, and from 32 to 127 all but three
abbrev plainly : ℕ → Bool
plainly b = (eqb b 9 || eqb b 10) || ((((ltb 31 b && ltb b 128) && not (eqb b 38)) && not (eqb b 60)) && not (eqb b 62))

pub plain_is : (b : ℕ) → plain b ≡ plainly b
unfolding plain class_number
plain_is b = elim (ℕ_discrete b 9) [
  | yes e ↦ rw e refl
  | no e9 ↦ elim (ℕ_discrete b 10) [
    | yes e ↦ rw e refl
    | no e10 ↦ elim (ℕ_discrete b 38) [
      | yes e ↦ rw e refl
      | no e38 ↦ elim (ℕ_discrete b 60) [
        | yes e ↦ rw e refl
        | no e60 ↦ elim (ℕ_discrete b 62) [ yes e ↦ rw e refl | no e62 ↦ go e9 e10 e38 e60 e62 (ltb b 32) refl (ltb 127 b) refl ]
      ]
    ]
  ]
]
  where
    seen : (v w x : Bool) → ltb 1 (cond v 3 (cond w 5 (cond x 4 2))) ≡ true
    seen true w x = refl
    seen false true x = refl
    seen false false true = refl
    seen false false false = refl

    go : (b ≡ 9 → ⊥) → (b ≡ 10 → ⊥) → (b ≡ 38 → ⊥) → (b ≡ 60 → ⊥) → (b ≡ 62 → ⊥) → (low : Bool) → ltb b 32 ≡ low → (high : Bool) → ltb 127 b ≡ high → plain b ≡ plainly b
    go e9 e10 e38 e60 e62 low l true h =
        let q : 127 < b = ltb-true 127 b h in
        simp (h, ne_eqb b 9 e9, ne_eqb b 10 e10, lt-ltb 31 b (omega arith), le-ltb b 128 (omega arith))
    go e9 e10 e38 e60 e62 true l false h =
        let q : b < 32 = ltb-true b 32 l in
        simp (
          h,
          l,
          ne_eqb b 9 e9,
          ne_eqb b 10 e10,
          ne_eqb b 38 e38,
          ne_eqb b 60 e60,
          ne_eqb b 32 (λ e. omega (arith, e)),
          ne_eqb b 95 (λ e. omega (arith, e)),
          ne_eqb b 58 (λ e. omega (arith, e)),
          ne_eqb b 45 (λ e. omega (arith, e)),
          ne_eqb b 46 (λ e. omega (arith, e)),
          lt-leb 65 b (omega arith),
          lt-leb 97 b (omega arith),
          lt-leb 48 b (omega arith),
          le-ltb 31 b (omega arith),
        )
    go e9 e10 e38 e60 e62 false l false h =
        let p : 32 ≤ b = ltb-false b 32 l in
        let q : b ≤ 127 = ltb-false 127 b h in
        simp (h, l, ne_eqb b 9 e9, ne_eqb b 10 e10, ne_eqb b 38 e38, ne_eqb b 60 e60, ne_eqb b 62 e62, lt-ltb 31 b (omega arith), lt-ltb b 128 (omega arith), seen)

pub few_classes : (b : ℕ) → class_number b ≤ 5
unfolding class_number
few_classes b = go (ltb 127 b) (eqb b 9 || eqb b 10 || eqb b 32) (within 65 90 b || within 97 122 b || eqb b 95 || eqb b 58) (within 48 57 b || eqb b 45 || eqb b 46) (eqb b 60 || eqb b 38 || ltb b 32) (eqb b 62)
  where
    go : (u v w x y z : Bool) → cond u 0 (cond v 3 (cond w 5 (cond x 4 (cond y 0 (cond z 1 2))))) ≤ 5
    go true v w x y z = omega arith
    go false true w x y z = omega arith
    go false false true x y z = omega arith
    go false false false true y z = omega arith
    go false false false false true z = omega arith
    go false false false false false true = omega arith
    go false false false false false false = omega arith

-- A LOOP OVER A TOKEN
pub passed_none : (test : ℕ → Bool) (w : List ℕ) (a : ℕ) → a ≤ length w → Passed test w a a
passed_none test w a h = record { from = omega arith; within = h; each = λ k p q. absurd (omega arith) }

pub passed_more : {test : ℕ → Bool} {w : List ℕ} {a i : ℕ} → Passed test w a i → i < length w → test i ≡ true → Passed test w a (i + 1)
passed_more {test} {w} {a} {i} h p e = record {
  from = omega (arith, h.from);
  within = omega arith;
  each = λ k q r. go k q r (ltb k i) refl;
}
  where
    go : (k : ℕ) → a ≤ k → k < i + 1 → (t : Bool) → ltb k i ≡ t → test k ≡ true
    go k q r true u = h.each k q (ltb-true k i u)
    go k q r false u = let z : k ≡ i = omega (arith, ltb-false k i u) in rw z e

-- n places of a turn are behind
pub passed_next : {test : ℕ → Bool} {w : List ℕ} {a : ℕ} (i n : ℕ) → Passed test w a (i + n) → i + n < length w → test (i + n) ≡ true → Passed test w a (i + (n + 1))
passed_next {test} {w} {a} i n h p e = let z : i + n + 1 ≡ i + (n + 1) = omega arith in subst (λ (k : ℕ). Passed test w a k) z (passed_more h p e)

-- many places at once
pub passed_block : {test : ℕ → Bool} {w : List ℕ} {a i : ℕ} (n : ℕ) → Passed test w a i → i + n ≤ length w → ((k : ℕ) → k < n → test (i + k) ≡ true) → Passed test w a (i + n)
passed_block {test} {w} {a} {i} n h p e = record { from = omega (arith, h.from); within = p; each = λ k q r. go k q r (ltb k i) refl }
  where
    go : (k : ℕ) → a ≤ k → k < i + n → (t : Bool) → ltb k i ≡ t → test k ≡ true
    go k q r true u = h.each k q (ltb-true k i u)
    go k q r false u =
        let z : i + (k - i) ≡ k = omega (arith, ltb-false k i u) in
        rw z at (e (k - i) (omega (arith, ltb-false k i u)))

pub passed_then : {test other : ℕ → Bool} {w : List ℕ} {a b r : ℕ} → Passed test w a b → Passed other w b r → ((k : ℕ) → other k ≡ true → test k ≡ true) → Passed test w a r
passed_then {test} {other} {w} {a} {b} {r} h j e = record { from = omega (arith, h.from, j.from); within = j.within; each = λ k q u. go k q u (ltb k b) refl }
  where
    go : (k : ℕ) → a ≤ k → k < r → (t : Bool) → ltb k b ≡ t → test k ≡ true
    go k q u true v = h.each k q (ltb-true k b v)
    go k q u false v = e k (j.each k (ltb-false k b v) u)

pub span_then : {test : ℕ → Bool} {w : List ℕ} {a b r : ℕ} → Passed test w a b → Span test w b r → Span test w a r
span_then h j = record { passed = passed_then h j.passed (λ k e. e); stop = j.stop }

-- up to a limit
pub stops_to : {test : ℕ → Bool} {w : List ℕ} {a limit i : ℕ} → Passed test w a i → i ≤ limit → test i ≡ false → SpanTo test w a limit i
stops_to h l e = record { passed = h; below = l; stop = λ p. e }

pub at_limit : {test : ℕ → Bool} {w : List ℕ} {a limit i : ℕ} → Passed test w a i → i ≤ limit → limit ≤ i → SpanTo test w a limit limit
at_limit {test} {w} {a} {limit} {i} h l e = let z : i ≡ limit = omega arith in record { passed = rw z at h; below = omega arith; stop = λ p. absurd (omega arith) }

pub stops : {test : ℕ → Bool} {w : List ℕ} {a i : ℕ} → Passed test w a i → test i ≡ false → Span test w a i
stops h e = record { passed = h; stop = λ p. e }

pub stopped_early : {test : ℕ → Bool} {w : List ℕ} {a limit i : ℕ} → SpanTo test w a limit i → i < limit → Span test w a i
stopped_early h l = stops h.passed (h.stop l)

pub at_end : {test : ℕ → Bool} {w : List ℕ} {a i : ℕ} → Passed test w a i → length w ≤ i → Span test w a i
at_end h e = record { passed = h; stop = λ p. absurd (omega arith) }

pub through : {test : ℕ → Bool} {w : List ℕ} {a i : ℕ} → Passed test w a i → length w ≤ i → Span test w a (length w)
through {test} {w} {a} {i} h e = let z : i ≡ length w = omega (arith, h.within) in rw z at (at_end h e)

-- the name that stands again
pub same_yes : (w : List ℕ) (name a i k e : ℕ) → k ≡ name + (i - a) → e ≡ get_or w k 0 → name_byte e ≡ true → get_or w i 0 ≡ e → same_at w name a i ≡ true
unfolding same_at
same_yes w name a i k e is_k is_e n h =
    let z : e ≡ get_or w (name + (i - a)) 0 = rw is_k at is_e in
    rw (← z, n) (eq-eqb (get_or w i 0) e h)

pub same_ended : (w : List ℕ) (name a i k e : ℕ) → k ≡ name + (i - a) → e ≡ get_or w k 0 → name_byte e ≡ false → same_at w name a i ≡ false
unfolding same_at
same_ended w name a i k e is_k is_e n =
    let z : e ≡ get_or w (name + (i - a)) 0 = rw is_k at is_e in
    rw (← z, n)

pub same_differs : (w : List ℕ) (name a i k e : ℕ) → k ≡ name + (i - a) → e ≡ get_or w k 0 → name_byte e ≡ true → (get_or w i 0 ≡ e → ⊥) → same_at w name a i ≡ false
unfolding same_at
same_differs w name a i k e is_k is_e n h =
    let z : e ≡ get_or w (name + (i - a)) 0 = rw is_k at is_e in
    rw (← z, n) (ne_eqb (get_or w i 0) e h)

-- THE LAST TWO BYTES OF A RUN
pub brackets_few : (w : List ℕ) (a n : ℕ) → n < 2 → brackets (bytes w a n) ≡ false
unfolding bytes
brackets_few w a zero h = refl
brackets_few w a (suc zero) h = brackets_one (get_or w (a + 0) 0)
brackets_few w a (suc (suc n)) h = absurd (omega arith)

pub brackets_two : (w : List ℕ) (a k : ℕ) → a ≤ k → 2 ≤ k - a →
    brackets (bytes w a (k - a)) ≡ eqb (get_or w (k - 2) 0) 93 && eqb (get_or w (k - 1) 0) 93
unfolding bytes
brackets_two w a k h p = rw (is_n) (go (k - a - 2) (omega arith) (omega arith))
  where
    is_n : k - a ≡ suc (suc (k - a - 2))
    is_n = omega arith

    go : (n : ℕ) → a + n ≡ k - 2 → a + suc n ≡ k - 1 → brackets (bytes w a (suc (suc n))) ≡ eqb (get_or w (k - 2) 0) 93 && eqb (get_or w (k - 1) 0) 93
    go n p q = rw (← p, ← q) (brackets_last (bytes w a n) (get_or w (a + n) 0) (get_or w (a + suc n) 0))

module _ (w : List ℕ) (a k c : ℕ) (is : c ≡ class_number (get_or w k 0)) where
  pub text_at_yes : 1 < c → is_text_at w a k ≡ true
  unfolding run_at
  text_at_yes h = text_yes c (get_or w k 0) is (bytes w a (k - a)) h

  pub text_at_not : c ≡ 0 → is_text_at w a k ≡ false
  unfolding run_at
  text_at_not h = text_not c (get_or w k 0) is (bytes w a (k - a)) h

  pub text_at_bracket : c ≡ 1 → is_text_at w a k ≡ not (brackets (bytes w a (k - a)))
  unfolding run_at
  text_at_bracket h = text_bracket c (get_or w k 0) is (bytes w a (k - a)) h

-- a tag ends a text
pub less_stops : (w : List ℕ) (a k : ℕ) → get_or w k 0 ≡ 60 → is_text_at w a k ≡ false
unfolding class_number
less_stops w a k e = text_at_not w a k (class_number (get_or w k 0)) refl (ap class_number e)

-- plain text is text
pub plain_text : (w : List ℕ) (a k : ℕ) → plain_at w k ≡ true → is_text_at w a k ≡ true
unfolding plain
plain_text w a k h = text_at_yes w a k (class_number (get_or w k 0)) refl (ltb-true 1 (class_number (get_or w k 0)) h)
