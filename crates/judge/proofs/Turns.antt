-- What a run and a tag do, from where their tokens end.
use mathlib.Core.Path.{◌≡◌, refl, sym, ap, ◌∙◌}
use mathlib.Core.Bool.{Bool, true, false, cond, true≢false}
use mathlib.Core.List.{List, [], ◌∷◌}
use Prim.Native.Nat.{ℕ, zero, suc, ◌+◌, ◌-◌, ◌≤◌, ◌<◌}
use native.Mathlib.Omega.{arith}
use lib.Dec.{ltb}
use lib.ListN.{length, get_or, get_or-eq_default}
use borrow.Author.Tests.{ltb-true, ltb-false, eqb-true, eq-eqb, ne_eqb}
use Rattle.grammar.specs.Classes.{white, name_start, name_byte, class_number}
use Rattle.grammar.specs.Grammar.{Bytes, ε, ◌⊲◌, Content, OutsideAt}
use Rattle.grammar.specs.Tokens.{inner, no_element, may_open}
use Rattle.grammar.specs.Rows.{inked, #}
use Rattle.grammar.specs.Machine.{Open, in_run, after_less, in_end_name, level, At}
use Rattle.std.specs.Prelude.{Result, Ok, Err}
use Rattle.judge.specs.declared.tags.Tag.{Tag}
use Rattle.judge.specs.declared.tags.Tag.TheVariants.{Opens, Empty, Closes}
use Rattle.judge.specs.declared.tags.Kind.TheVariants.{Nothing, Start, End}
use Rattle.tokens.specs.Tokens.{Passed, Span, bytes, white_at, name_at, level_of, run_at, is_text_at, same_at}
use Rattle.judge.specs.Tags.{RunTo, closed, Does, Ends, Started, Ended, Top, Tagging, Tagged, KindOf, second_root, root, inner_start, inner_end}
use Rattle.tokens.proofs.Spans.{text_yes, less_stops, start_yes, few_classes}
use Rattle.openings.specs.OpenNames.{Named}
use Rattle.openings.proofs.LastTag.{start_name}
use Rattle.judge.proofs.Machine.{at_byte, at_same, there, refuse, start_refused, opens, empties, slash_refused, space_refused, end_refused, closes, close_refused}

-- A RUN
white_class : (b : ℕ) → white b ≡ true → class_number b ≡ 3
unfolding white
white_class b h = eqb-true (class_number b) 3 h

-- white space is text
pub white_text : {w : List ℕ} {a r : ℕ} → Passed (white_at w) w a r → Passed (is_text_at w a) w a r
unfolding run_at
white_text {w} {a} {r} h = record {
  from = h.from;
  within = h.within;
  each = λ k p q. text_yes (class_number (get_or w k 0)) (get_or w k 0) refl (bytes w a (k - a)) (omega (arith, white_class (get_or w k 0) (h.each k p q)));
}

unmarked : (w : List ℕ) (a n : ℕ) → ((k : ℕ) → k < n → white (get_or w (a + k) 0) ≡ true) → inked (bytes w a n) ≡ false
unfolding bytes
unmarked w a zero h = refl
unmarked w a (suc n) h = simp (h n (omega arith)) (unmarked w a n (λ k p. h k (omega arith)))

marked : (w : List ℕ) (a k n : ℕ) → k < n → white (get_or w (a + k) 0) ≡ false → inked (bytes w a n) ≡ true
unfolding bytes
marked w a k zero p h = absurd (omega arith)
marked w a k (suc n) p h = go (white (get_or w (a + n) 0)) refl (λ q. marked w a k n q h)
  where
    earlier : white (get_or w (a + n) 0) ≡ true → (y : Bool) → ltb k n ≡ y → k < n
    earlier q true r = ltb-true k n r
    earlier q false r =
        let z : k ≡ n = omega (arith, ltb-false k n r) in
        absurd (true≢false (sym q ∙ rw z at h))

    go : (y : Bool) → white (get_or w (a + n) 0) ≡ y → (k < n → inked (bytes w a n) ≡ true) → cond y (inked (bytes w a n)) true ≡ true
    go false q again = refl
    go true q again = again (earlier q (ltb k n) refl)

white_run : {w : List ℕ} {a r : ℕ} → Passed (white_at w) w a r → inked (bytes w a (r - a)) ≡ false
white_run {w} {a} {r} h = unmarked w a (r - a) (λ k p. h.each (a + k) (omega arith) (omega (arith, h.from)))

pub outer_run : {w : List ℕ} {depth a r : ℕ} → depth ≡ 0 → Span (white_at w) w a r → RunTo w depth a r 0
unfolding run_at
outer_run {w} {depth} {a} {r} d h = rw d (record {
  span = record { passed = record { from = h.passed.from; within = h.passed.within; each = h.passed.each }; stop = h.stop };
  makes = simp (white_run h.passed);
  outside = λ e. refl;
  few = omega arith;
})

inner_level : (depth : ℕ) → (depth ≡ 0 → ⊥) → inner ≡ level_of depth
inner_level zero h = absurd (h refl)
inner_level (suc n) h = refl

module _ {w : List ℕ} {depth a m r : ℕ} (d : depth ≡ 0 → ⊥) (h : Span (white_at w) w a m) (k : Span (is_text_at w a) w a r) where
  pub inner_run : m < r → RunTo w depth a r 1
  inner_run p =
      let e : inked (bytes w a (r - a)) ≡ true = marked w a (m - a) (r - a) (omega (arith, h.passed.from)) (rw there_is (h.stop (omega (arith, k.passed.within)))) in
      record { span = rw (← (inner_level depth d)) k; makes = simp e; outside = λ q. absurd (d q); few = omega arith }
    where
      there_is : a + (m - a) ≡ m
      there_is = omega (arith, h.passed.from)

  pub inner_space : r ≤ m → RunTo w depth a r 0
  inner_space p =
      let e : inked (bytes w a (r - a)) ≡ false = unmarked w a (r - a) (λ j q. h.passed.each (a + j) (omega arith) (omega (arith, k.passed.from))) in
      record { span = rw (← (inner_level depth d)) k; makes = simp e; outside = λ q. refl; few = omega arith }

-- white space up to a tag
pub white_only : {w : List ℕ} (depth a : ℕ) {m : ℕ} → Span (white_at w) w a m → get_or w m 0 ≡ 60 → RunTo w depth a m 0
white_only zero a h e = outer_run refl h
white_only {w} (suc n) a {m} h e =
    inner_space (λ q. omega (arith, q)) h
    (record { passed = white_text h.passed; stop = λ p. less_stops w a m e }) (omega arith)

-- A START TAG
pub name_there : (w : List ℕ) (a : ℕ) → name_start (get_or w a 0) ≡ true → a < length w
unfolding name_start class_number
name_there w a h = go (ltb a (length w)) refl
  where
    go : (t : Bool) → ltb a (length w) ≡ t → a < length w
    go true e = ltb-true a (length w) e
    go false e = absurd (true≢false (sym h ∙ ap name_start (get_or-eq_default w 0 (ltb-false a (length w) e))))

pub count : (w : List ℕ) (a n : ℕ) → # (bytes w a n) ≡ n
unfolding bytes
count w a zero = refl
count w a (suc n) = ap suc (count w a n)

name_ends : (w : List ℕ) (a e : ℕ) → a + 1 ≤ e → e ≡ a + # (bytes w a (e - a))
name_ends w a e h = sym (ap (λ (k : ℕ). a + k) (count w a (e - a)) ∙ omega arith)

-- behind a start tag's first test the byte starts a name
pub name_begins : (b : ℕ) {c : ℕ} → c ≡ class_number b → 5 ≤ c → name_start b ≡ true
name_begins b e h = start_yes _ _ e h (rw e (few_classes b))

pub start_none : {w : List ℕ} {a : ℕ} → name_start (get_or w a 0) ≡ false → Started w a (Err a)
start_none e o f t h k = start_refused o f t h e k

module _ {w : List ℕ} {a e s : ℕ} (first : name_start (get_or w a 0) ≡ true) (name : Span (name_at w) w (a + 1) e) (space : Span (white_at w) w e s) where
  name_at_lem : s < length w → Named w a (bytes w a (e - a))
  name_at_lem p =
      let z : a + # (bytes w a (e - a)) ≡ e = sym (name_ends w a e name.passed.from) in
      record {
        is = ap (bytes w a) (sym (count w a (e - a)));
        span = rw z (record {
          passed = record { from = omega (arith, name.passed.from); within = name.passed.within; each = λ k q r. go k q r (ltb a k) refl };
          stop = name.stop;
        });
        behind = rw z (omega (arith, space.passed.from));
      }
    where
      go : (k : ℕ) → a ≤ k → k < e → (y : Bool) → ltb a k ≡ y → name_at w k ≡ true
      go k q r true u = name.passed.each k (omega (arith, ltb-true a k u)) r
      go k q r false u = let z : k ≡ a = omega (arith, ltb-false a k u) in rw z (start_name (get_or w a 0) first)

  before : a < s
  before = omega (arith, name.passed.from, space.passed.from)

  pub start_opens : get_or w s 0 ≡ 62 → Started w a (Ok (Opens e (s + 1)))
  start_opens h o f t k q = (
    omega (arith, before),
    record {
      name = bytes w a (e - a);
      space = bytes w e (s - e);
      named = name_at_lem (there w s 61 h);
      long = name_ends w a e name.passed.from;
      here = opens o f t k first (name_there w a first) name space h;
    },
  )

  pub start_empties : get_or w s 0 ≡ 47 → get_or w (s + 1) 0 ≡ 62 → Started w a (Ok (Empty e (s + 2)))
  start_empties h j o f t k q = (
    omega (arith, before),
    record {
      name = bytes w a (e - a);
      space = bytes w e (s - e);
      named = name_at_lem (there w s 46 h);
      long = name_ends w a e name.passed.from;
      here = empties o f t k first (name_there w a first) name space h j;
    },
  )

  pub start_slash : get_or w s 0 ≡ 47 → (get_or w (s + 1) 0 ≡ 62 → ⊥) → Started w a (Err (s + 1))
  start_slash h j o f t k q = slash_refused o f t k first (name_there w a first) name space h j

  pub start_other : (get_or w s 0 ≡ 62 → ⊥) → (get_or w s 0 ≡ 47 → ⊥) → Started w a (Err s)
  start_other h j o f t k q = space_refused o f t k first (name_there w a first) name space h j

-- AN END TAG
module _ {w : List ℕ} {x a e : ℕ} (same : Span (same_at w x a) w a e) where
  pub end_differs : name_byte (get_or w (x + (e - a)) 0) ≡ true → Ended w x a (Err e)
  end_differs n p o f t h k = end_refused p o f t h k same n

  module _ (whole : name_byte (get_or w (x + (e - a)) 0) ≡ false) {s : ℕ} (space : Span (white_at w) w e s) where
    pub end_closes : get_or w s 0 ≡ 62 → Ended w x a (Ok (Closes (s + 1)))
    end_closes h p o f t k n =
        (omega (arith, same.passed.from, space.passed.from), closed (bytes w e (s - e)) (closes p o f t k n same whole space h))

    pub end_other : (get_or w s 0 ≡ 62 → ⊥) → Ended w x a (Err s)
    end_other h p o f t k n = close_refused p o f t k n same whole space h

-- A TAG
does : (w : List ℕ) (a b : ℕ) (o : List Open) (f : Content) (t : Bytes) → b ≤ a → (r : Result Tag ℕ) → Ends w a o f t r → Does w b o f t r
does w a b o f t h (Err p) k = k
does w a b o f t h (Ok (Opens e r)) k = absurd k
does w a b o f t h (Ok (Empty e r)) k = absurd k
does w a b o f t h (Ok (Closes e)) k = (omega (arith, k.0), k.1)

pub end_within : {w : List ℕ} {depth rows a : ℕ} → KindOf w depth rows a End → (0 < depth) × (a + 2 ≤ length w)
end_within {w} {depth} {rows} {a} (inner_end d e) = (positive depth d, omega (arith, there w (a + 1) 46 e))
  where
    positive : (n : ℕ) → (n ≡ 0 → ⊥) → 0 < n
    positive zero h = absurd (h refl)
    positive (suc n) h = omega arith

module _ {w : List ℕ} {x depth rows a : ℕ} where
  -- a second root
  pub none_stands : KindOf w depth rows a Nothing → Tagged w x depth rows a (Err a)
  none_stands (second_root d r) o f t h = go o h.depth_is h.here
    where
      go : (o : List Open) → depth ≡ length o → At w a (in_run o f t) → OutsideAt w a
      go [] e k =
          let z : no_element f ≡ false = sym (h.none_yet d) ∙ ne_eqb rows 0 (λ q. omega (arith, r, q)) in
          refuse k tt (λ q. absurd (omega (arith, there w a 59 h.less))) (λ q. rw h.less (simp z))
      go (p ∷ o) e k = absurd (omega (arith, d, e))

  module _ {o : List Open} {f : Content} {t : Bytes} (h : Tagging w x depth rows a o f t) where
    pub less : (depth ≡ 0 → rows ≡ 0) → At w (a + 1) (after_less o f t)
    less r = at_byte 59 _ h.here h.less (simp (may o h.depth_is))
      where
        may : (o : List Open) → depth ≡ length o → may_open (level o) f ≡ true
        may [] e = sym (h.none_yet e) ∙ eq-eqb rows 0 (r e)
        may (p ∷ o) e = refl

  pub start_stands : (r : Result Tag ℕ) → KindOf w depth rows a Start → Started w (a + 1) r → Tagged w x depth rows a r
  start_stands r (inner_start d e) s o f t h = s o f t (less h (λ q. absurd (d q))) (λ q. absurd (e q))
  start_stands r (root d e) s o f t h = s o f t (less h (λ q. e)) (λ q. go o h.depth_is)
    where
      go : (o : List Open) → depth ≡ length o → o ≡ []
      go [] y = refl
      go (p ∷ o) y = absurd (omega (arith, d, y))

  pub end_stands : (r : Result Tag ℕ) → KindOf w depth rows a End → Ended w x (a + 2) r → Tagged w x depth rows a r
  unfolding name_start class_number
  end_stands r (inner_end d e) s o f t h = go o h.depth_is h.top (less h (λ q. absurd (d q)))
    where
      go : (o : List Open) → depth ≡ length o → Top w x o → At w (a + 1) (after_less o f t) → Does w (a + 1) o f t r
      go [] y n k = absurd (d y)
      go (p ∷ o) y n k =
          let z : At w (a + 1 + 1) (in_end_name p o f t ε (p.name ⊲ [])) = at_byte 46 _ k e refl in
          does w (a + 2) (a + 1) (p ∷ o) f t (omega arith) r (s p o f t (at_same (omega arith) refl z) n)
