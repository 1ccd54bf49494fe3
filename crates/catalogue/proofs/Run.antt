-- What is answered: by going through the events, and by arithmetic on the lists of all tries and all matches. The two agree.
use mathlib.Core.Path.{◌≡◌, refl, sym, ap, ◌∙◌}
use mathlib.Core.Logic.{◌⊎◌, inl, inr, ⊎_elim, ◌↔◌}
use mathlib.Core.List.{List, [], ◌∷◌}
use mathlib.Core.Bool.{Bool, true, false, cond, true≢false}
use Prim.Native.Nat.{ℕ, zero, suc, ◌+◌, ◌≤◌, ◌<◌, zero-le}
use native.Mathlib.Omega.{arith}
use native.Mathlib.Decide.{ℕ_discrete, dec_lt}
use lib.Dec.{leb, ltb, leb-suc-suc}
use lib.ListN.{length, take}
use borrow.Author.Tests.{le-leb, lt-leb, lt-ltb, le-ltb, eq-eqb, ne_eqb}
use Rattle.meaning.specs.Order.{◌⊏◌, Mem, Ascending}
use Rattle.catalogue.specs.Answer.{Result, upto, place}
use Rattle.catalogue.proofs.Events.{Outcome, need, done, Event, tried, matched, events, Within, Leads, Some, sound, complete, short}
use Rattle.catalogue.proofs.Ascent.{◌≪◌}

abbrev pub stop : ℕ → Result
stop n = record { records = []; ending = n; tries = 0 }

abbrev pub one_try : Result → Result
one_try r = record { records = r.records; ending = r.ending; tries = suc r.tries }

abbrev pub one_match : List ℕ → Result → Result
one_match x r = record { records = x ∷ r.records; ending = r.ending; tries = r.tries }

abbrev pub run : List Event → ℕ → ℕ → Result
run [] budget room = stop 0
run (tried v ∷ es) zero room = stop 2
run (tried v ∷ es) (suc budget) room = one_try (run es budget room)
run (matched v x ∷ es) budget zero = stop 1
run (matched v x ∷ es) budget (suc room) = one_match x (run es budget room)

-- the tries, and the matches with their choices
abbrev pub tries_of : List Event → List (List ℕ)
tries_of [] = []
tries_of (tried v ∷ es) = v ∷ tries_of es
tries_of (matched v r ∷ es) = tries_of es

pub record Match : Type 0 where
  pub choices : List ℕ
  pub values : List ℕ

abbrev pub matches_of : List Event → List Match
matches_of [] = []
matches_of (tried v ∷ es) = matches_of es
matches_of (matched v r ∷ es) = record { choices = v; values = r } ∷ matches_of es

-- the matches by their tries
pub record Placed : Type 0 where
  pub values : List ℕ
  pub tries : ℕ

abbrev pub placed : List (List ℕ) → List Match → List Placed
placed W [] = []
placed W (s ∷ S) = record { values = s.values; tries = place W s.choices } ∷ placed W S

-- how many are reached within the budget
abbrev pub reached : ℕ → List Placed → ℕ
reached budget [] = 0
reached budget (s ∷ S) = cond (leb s.tries budget) (suc (reached budget S)) (reached budget S)

abbrev pub values_of : List Placed → List (List ℕ)
values_of [] = []
values_of (s ∷ S) = s.values ∷ values_of S

-- the tries of the match at a place of the list
abbrev pub tries_at : List Placed → ℕ → ℕ
tries_at [] n = 0
tries_at (s ∷ S) zero = s.tries
tries_at (s ∷ S) (suc n) = tries_at S n

-- from the list S of all matches, the number n of all tries, budget and room alone
abbrev pub answer : List Placed → ℕ → ℕ → ℕ → Result
answer S n budget room =
    cond (ltb room (reached budget S))
    (record { records = take room (values_of S); ending = 1; tries = tries_at S room })
    (cond (ltb budget n)
    (record { records = take (reached budget S) (values_of S); ending = 2; tries = budget })
    (record { records = values_of S; ending = 0; tries = n }))

-- each match with the number of tries before it in the list of events, counted from t
abbrev tag : ℕ → List Event → List Placed
tag t [] = []
tag t (tried v ∷ es) = tag (suc t) es
tag t (matched v x ∷ es) = record { values = x; tries = t } ∷ tag t es

reached_late : (es : List Event) (b t : ℕ) → b < t → reached b (tag t es) ≡ 0
reached_late [] b t h = refl
reached_late (tried v ∷ es) b t h = reached_late es b (suc t) (omega arith)
reached_late (matched v x ∷ es) b t h = rw (lt-leb t b h) (reached_late es b t h)

abbrev later : ℕ → Result → Result
later t r = record { records = r.records; ending = r.ending; tries = t + r.tries }

cons_shape : (x : List ℕ) (R : List (List ℕ)) (t b n : ℕ) (k l : ℕ) (p q : Bool)
    → cond p (record { records = x ∷ take k R; ending = 1; tries = t }) (cond q (record { records = x ∷ take l R; ending = 2; tries = b }) (record { records = x ∷ R; ending = 0; tries = n }))
    ≡ one_match x (cond p (record { records = take k R; ending = 1; tries = t }) (cond q (record { records = take l R; ending = 2; tries = b }) (record { records = R; ending = 0; tries = n })))
cons_shape x R t b n k l true q = refl
cons_shape x R t b n k l false true = refl
cons_shape x R t b n k l false false = refl

answer_cons : (x : List ℕ) (t : ℕ) (L : List Placed) (n b room : ℕ) → t ≤ b
    → answer (record { values = x; tries = t } ∷ L) n b (suc room) ≡ one_match x (answer L n b room)
answer_cons x t L n b room h =
    rw (le-leb t b h, leb-suc-suc (suc room) (reached b L)) (cons_shape x (values_of L) (tries_at L room) b n room (reached b L) (ltb room (reached b L)) (ltb b n))

-- going through the events is the arithmetic, with each match placed by the tries before it in the list
run_tag : (es : List Event) (t c n b room : ℕ) → n ≡ t + length (tries_of es) → b ≡ t + c → later t (run es c room) ≡ answer (tag t es) n b room
run_tag [] t c n b room hn hb = rw (le-ltb room 0 zero-le, le-ltb b n (omega arith)) (ap (λ k. record { records = []; ending = 0; tries = k }) (sym hn))
run_tag (tried v ∷ es) t zero n b room hn hb =
    rw (reached_late es b (suc t) (omega arith), le-ltb room 0 zero-le, lt-ltb b n (omega arith)) (ap (λ k. record { records = []; ending = 2; tries = k }) (sym hb))
run_tag (tried v ∷ es) t (suc c) n b room hn hb =
    ap (λ k. record { records = (run es c room).records; ending = (run es c room).ending; tries = k }) (omega arith) ∙ run_tag es (suc t) c n b room (omega arith) (omega arith)
run_tag (matched v x ∷ es) t c n b zero hn hb = rw (le-leb t b (omega arith), lt-ltb 0 (suc (reached b (tag t es))) (omega arith)) (ap (λ k. record { records = []; ending = 1; tries = k }) (omega arith))
run_tag (matched v x ∷ es) t c n b (suc room) hn hb = ap (one_match x) (run_tag es t c n b room hn hb) ∙ sym (answer_cons x t (tag t es) n b room (omega arith))

pub upto_less : (v w : List ℕ) → v ⊏ w → upto v w ≡ true
upto_less v [] h = absurd h
upto_less [] (y ∷ w) h = refl
upto_less (x ∷ v) (y ∷ w) (inl h) = rw (lt-ltb x y h)
upto_less (x ∷ v) (y ∷ w) (inr h) = rw (le-ltb x y (omega (arith, h.0)), eq-eqb x y h.0, upto_less v w h.1)

pub upto_refl : (v : List ℕ) → upto v v ≡ true
upto_refl [] = refl
upto_refl (x ∷ v) = rw (le-ltb x x (omega arith), eq-eqb x x refl, upto_refl v)

pub upto_more : (v w : List ℕ) → v ⊏ w → upto w v ≡ false
upto_more v [] h = absurd h
upto_more [] (y ∷ w) h = refl
upto_more (x ∷ v) (y ∷ w) (inl h) = rw (le-ltb y x (omega arith), ne_eqb y x (λ e. omega arith))
upto_more (x ∷ v) (y ∷ w) (inr h) = rw (le-ltb y x (omega (arith, h.0)), eq-eqb y x (sym h.0), upto_more v w h.1)

pub upto_only : (v w : List ℕ) → upto v w ≡ true → (v ⊏ w) ⊎ (v ≡ w)
upto_only [] [] e = inr refl
upto_only [] (y ∷ w) e = inl tt
upto_only (x ∷ v) [] e = absurd (true≢false (sym e))
upto_only (x ∷ v) (y ∷ w) e = go (dec_lt x y) (ℕ_discrete x y) (upto_only v w)
  where
    go : Dec (x < y) → Dec (x ≡ y) → (upto v w ≡ true → (v ⊏ w) ⊎ (v ≡ w)) → ((x ∷ v) ⊏ (y ∷ w)) ⊎ (x ∷ v ≡ y ∷ w)
    go (yes h) d i = inl (inl h)
    go (no h) (yes d) i = ⊎_elim (λ l. inl (inr (d, l))) (λ l. inr (cc)) (i (rw (le-ltb x y (omega arith), eq-eqb x y d) at e))
    go (no h) (no d) i = absurd (true≢false (sym (rw (le-ltb x y (omega arith), ne_eqb x y d) at e)))

place_none : (W : List (List ℕ)) (v : List ℕ) → ((u : List ℕ) → Mem u W → v ⊏ u) → place W v ≡ 0
place_none [] v h = refl
place_none (u ∷ W) v h = rw (upto_more v u (h u (inl refl))) (place_none W v (λ u' m. h u' (inr m)))

pub in_tries : (es : List Event) (v : List ℕ) → Mem v (tries_of es) → Mem (tried v) es
in_tries [] v m = m
in_tries (tried u ∷ es) v (inl e) = inl (ap tried e)
in_tries (tried u ∷ es) v (inr m) = inr (in_tries es v m)
in_tries (matched u r ∷ es) v m = inr (in_tries es v m)

tried_inj : (u v : List ℕ) → tried u ≡ tried v → u ≡ v
tried_inj u v e = cc

tried_matched : (u v r : List ℕ) → tried u ≡ matched v r → ⊥
tried_matched u v r e = let z : ◌≡◌ {A = ℕ} 0 1 = cc in omega arith

pub of_tries : (es : List Event) (v : List ℕ) → Mem (tried v) es → Mem v (tries_of es)
of_tries [] v m = m
of_tries (tried u ∷ es) v (inl e) = inl (tried_inj v u e)
of_tries (tried u ∷ es) v (inr m) = inr (of_tries es v m)
of_tries (matched u r ∷ es) v (inl e) = absurd (tried_matched v u r e)
of_tries (matched u r ∷ es) v (inr m) = of_tries es v m

abbrev event_of : Match → Event
event_of s = matched s.choices s.values

pub in_matches : (es : List Event) (s : Match) → Mem s (matches_of es) → Mem (event_of s) es
in_matches [] s m = m
in_matches (tried u ∷ es) s m = inr (in_matches es s m)
in_matches (matched u r ∷ es) s (inl e) = inl (ap event_of e)
in_matches (matched u r ∷ es) s (inr m) = inr (in_matches es s m)

matched_inj : (s : Match) (u r : List ℕ) → event_of s ≡ matched u r → s ≡ record { choices = u; values = r }
matched_inj s u r e = let a : s.choices ≡ u = cc in let b : s.values ≡ r = cc in λ i. record { choices = a i; values = b i }

pub of_matches : (es : List Event) (s : Match) → Mem (event_of s) es → Mem s (matches_of es)
of_matches [] s m = m
of_matches (tried u ∷ es) s (inl e) = absurd (tried_matched u s.choices s.values (sym e))
of_matches (tried u ∷ es) s (inr m) = of_matches es s m
of_matches (matched u r ∷ es) s (inl e) = inl (matched_inj s u r e)
of_matches (matched u r ∷ es) s (inr m) = inr (of_matches es s m)

pub upto_before : (v w r : List ℕ) → tried v ≪ matched w r → upto v w ≡ true
upto_before v w r (inl h) = upto_less v w h
upto_before v w r (inr h) = rw h (upto_refl w)

-- in ascending order a match's place among all tries is the number of tries before it in the list
tag_placed : (es : List Event) (t : ℕ) (W : List (List ℕ)) → Ascending ◌≪◌ es
    → ((w r : List ℕ) → Mem (matched w r) es → place W w ≡ t + place (tries_of es) w) → tag t es ≡ placed W (matches_of es)
tag_placed [] t W a h = refl
tag_placed (tried v ∷ es) t W a h =
    tag_placed es (suc t) W a.1 (λ w r m. h w r (inr m) ∙ rw (upto_before v w r (a.0 (matched w r) m)) (omega arith))
tag_placed (matched v x ∷ es) t W a h =
    let e : t ≡ place W v = omega (arith, h v x (inl refl), place_none (tries_of es) v (λ u m. a.0 (tried u) (in_tries es u m))) in
    let k : tag t es ≡ placed W (matches_of es) = tag_placed es t W a.1 (λ w r m. h w r (inr m)) in
    λ i. record { values = x; tries = e i } ∷ k i

pub run_answer : (es : List Event) (budget room : ℕ) → Ascending ◌≪◌ es → run es budget room ≡ answer (placed (tries_of es) (matches_of es)) (length (tries_of es)) budget room
run_answer es budget room a =
    ap (λ k. record { records = (run es budget room).records; ending = (run es budget room).ending; tries = k }) (omega arith)
    ∙ run_tag es 0 budget (length (tries_of es)) budget room (omega arith) (omega arith)
    ∙ ap (λ L. answer L (length (tries_of es)) budget room) (tag_placed es 0 (tries_of es) a (λ w r m. omega arith))

-- the search-free reading
abbrev pub IsTry : (List ℕ → Outcome) → List ℕ → Type 0
IsTry walk v = Some v × Leads walk [] v

abbrev pub IsMatch : (List ℕ → Outcome) → Match → Type 0
IsMatch walk s = Leads walk [] s.choices × (walk s.choices ≡ done s.values)

abbrev pub ◌before◌ : Match → Match → Type 0
◌before◌ a b = a.choices ⊏ b.choices

pub tries_ascending : (es : List Event) → Ascending ◌≪◌ es → Ascending ◌⊏◌ (tries_of es)
tries_ascending [] a = tt
tries_ascending (tried v ∷ es) a = (λ u m. a.0 (tried u) (in_tries es u m), tries_ascending es a.1)
tries_ascending (matched v r ∷ es) a = tries_ascending es a.1

pub matches_ascending : (es : List Event) → Ascending ◌≪◌ es → Ascending ◌before◌ (matches_of es)
matches_ascending [] a = tt
matches_ascending (tried v ∷ es) a = matches_ascending es a.1
matches_ascending (matched v r ∷ es) a = (λ s m. a.0 (event_of s) (in_matches es s m), matches_ascending es a.1)

-- the events are all tries and all matches
module _ (walk : List ℕ → Outcome) (bound : ℕ) (stops : (v : List ℕ) (x : ℕ) → bound ≤ length v → Within x (walk v) → ⊥) where
  is_try : (v : List ℕ) → Mem (tried v) (events walk bound []) → IsTry walk v
  is_try v m = let f = sound walk bound [] (tried v) m in (rw f.at f.kind, rw f.at f.leads)

  is_match : (s : Match) → Mem (event_of s) (events walk bound []) → IsMatch walk s
  is_match s m = let f = sound walk bound [] (event_of s) m in (rw f.at f.leads, f.kind)

  fits : (v : List ℕ) → Leads walk [] v → length v ≤ bound
  fits v l = omega (arith, short walk bound stops [] v zero-le l)

  pub all_tried : (v : List ℕ) → Mem v (tries_of (events walk bound [])) ↔ IsTry walk v
  all_tried v =
      let es = events walk bound [] in
      (λ m. is_try v (in_tries es v m), λ h. of_tries es v (complete walk bound [] v (tried v) (fits v h.1) h.1 refl h.0))

  pub all_matched : (s : Match) → Mem s (matches_of (events walk bound [])) ↔ IsMatch walk s
  all_matched s =
      let es = events walk bound [] in
      (λ m. is_match s (in_matches es s m), λ h. of_matches es s (complete walk bound [] s.choices (event_of s) (fits s.choices h.0) h.0 refl h.1))

-- what a walk has to be: it asks for a choice only after fewer than bound, of values below limit, and its records have the width
pub record Tame (walk : List ℕ → Outcome) (bound limit width : ℕ) : Type 0 where
  pub asks : (v : List ℕ) (lo n : ℕ) → walk v ≡ need lo n → (length v < bound) × (lo + n ≤ limit)
  pub wide : (v r : List ℕ) → walk v ≡ done r → length r ≡ width
