-- What room and budget leave of two lists, whatever the lists are: the leading part, all of it where the ending is 0, no more tries than
-- the budget, and with more room or budget only more. So it holds of the lister's list and of a page alike.
use Prim.Native.Nat.{ℕ, zero, suc, ◌+◌, ◌≤◌, ◌<◌, ◌/◌, zero-le}
use mathlib.Core.Path.{◌≡◌, refl, ap, sym, subst}
use mathlib.Core.Logic.{inl, inr, ⊎_elim}
use mathlib.Core.Bool.{Bool, true, false, cond}
use mathlib.Core.List.{List, [], ◌∷◌}
use lib.ListN.{length, take, drop, get_or, take-append-drop}
use lib.Seq.{take_all, length-take-le}
use lib.Dec.{leb, ltb}
use native.Mathlib.Omega.{arith}
use native.Mathlib.Decide.{dec_lt, dec_le}
use borrow.Author.Tests.{ltb-true, ltb-false, lt-ltb, le-ltb, le-leb, lt-leb}
use Rattle.meaning.specs.Pattern.{Kind}
use Rattle.meaning.specs.Order.{◌⊏◌, Mem, Ascending, choices}
use Rattle.meaning.specs.Reached.{Begins}
use Rattle.catalogue.specs.Answer.{Result, upto, place, places, within, Room, at_most, unlimited, by_budget, answer, room_of}
use Rattle.catalogue.proofs.Back.{fitting_some}
use Rattle.catalogue.proofs.Ascent.{⊏-trans}
use Rattle.catalogue.proofs.Run.{upto_less, upto_only}
use Rattle.catalogue.proofs.Stays.{fitting_more}

-- what holds of each where it is picked holds of the one that is
picked : (C : Result → Type 0) (b : Bool) (x y : Result) → (b ≡ true → C x) → (b ≡ false → C y) → C (cond b x y)
picked C true x y h k = h refl
picked C false x y h k = k refl

begins_take : (j k : ℕ) (rs : List (List ℕ)) → j ≤ k → Begins (take j rs) (take k rs)
begins_take zero k rs h = record { rest = take k rs; is = refl }
begins_take (suc j) zero rs h = absurd (omega arith)
begins_take (suc j) (suc k) [] h = record { rest = []; is = refl }
begins_take (suc j) (suc k) (r ∷ rs) h = let i = begins_take j k rs (omega arith) in record { rest = i.rest; is = ap (λ l. r ∷ l) i.is }

-- how many solutions a budget reaches
pub within_few : (budget : ℕ) (ns : List ℕ) → within budget ns ≤ length ns
within_few budget [] = omega arith
within_few budget (n ∷ ns) = go (leb n budget) (within_few budget ns)
  where
    go : (b : Bool) → within budget ns ≤ length ns → cond b (suc (within budget ns)) (within budget ns) ≤ suc (length ns)
    go true i = omega arith
    go false i = omega arith

within_more : (b c : ℕ) (ns : List ℕ) → b ≤ c → within b ns ≤ within c ns
within_more b c [] h = omega arith
within_more b c (n ∷ ns) h = go (dec_le n b) (dec_le n c) (within_more b c ns h)
  where
    go : Dec (n ≤ b) → Dec (n ≤ c) → within b ns ≤ within c ns → within b (n ∷ ns) ≤ within c (n ∷ ns)
    go (yes d) (yes e) i = rw (le-leb n b d, le-leb n c e) (omega arith)
    go (yes d) (no e) i = absurd (omega arith)
    go (no d) (yes e) i = rw (lt-leb n b (omega arith), le-leb n c e) (omega arith)
    go (no d) (no e) i = rw (lt-leb n b (omega arith), lt-leb n c (omega arith)) i

within_none : (budget : ℕ) (ns : List ℕ) → ((n : ℕ) → Mem n ns → budget < n) → within budget ns ≡ 0
within_none budget [] h = refl
within_none budget (n ∷ ns) h = rw (lt-leb n budget (h n (inl refl))) (within_none budget ns (λ m i. h m (inr i)))

-- in ascending order those that are reached are the first
within_at : (budget : ℕ) (ns : List ℕ) (k : ℕ) → Ascending ◌≤◌ ns → k < within budget ns → get_or ns k 0 ≤ budget
within_at budget [] k a h = absurd (omega arith)
within_at budget (n ∷ ns) k a h = go (dec_le n budget) k h (λ j. within_at budget ns j a.1)
  where
    go : Dec (n ≤ budget) → (k : ℕ) → k < within budget (n ∷ ns) → ((j : ℕ) → j < within budget ns → get_or ns j 0 ≤ budget) → get_or (n ∷ ns) k 0 ≤ budget
    go (yes d) zero h i = d
    go (yes d) (suc k) h i = i k (omega (arith, rw (le-leb n budget d) at h))
    go (no d) k h i = absurd (omega (arith, within_none budget ns (λ m i. omega (arith, a.0 m i)), rw (lt-leb n budget (omega arith)) at h))

-- the places of solutions among the tries
pub places_many : (Q : List Kind) (ts rs : List (List ℕ)) → length (places Q ts rs) ≡ length rs
places_many Q ts [] = refl
places_many Q ts (r ∷ rs) = ap suc (places_many Q ts rs)

place_few : (ts : List (List ℕ)) (w : List ℕ) → place ts w ≤ length ts
place_few [] w = omega arith
place_few (v ∷ ts) w = go (upto v w) (place_few ts w)
  where
    go : (b : Bool) → place ts w ≤ length ts → cond b (suc (place ts w)) (place ts w) ≤ suc (length ts)
    go true i = omega arith
    go false i = omega arith

place_more : (ts : List (List ℕ)) (v w : List ℕ) → v ⊏ w → place ts v ≤ place ts w
place_more [] v w h = omega arith
place_more (u ∷ ts) v w h = go (upto u v) refl (place_more ts v w h)
  where
    last : (b : Bool) → place ts v ≤ place ts w → place ts v ≤ cond b (suc (place ts w)) (place ts w)
    last true i = omega arith
    last false i = i

    go : (b : Bool) → upto u v ≡ b → place ts v ≤ place ts w → cond b (suc (place ts v)) (place ts v) ≤ place (u ∷ ts) w
    go true e i =
        let f : upto u w ≡ true = upto_less u w (⊎_elim (λ d. ⊏-trans u v w d h) (λ d. rw d h) (upto_only u v e)) in
        rw f (omega arith)
    go false e i = last (upto u w) i

in_places : (Q : List Kind) (ts rs : List (List ℕ)) (n : ℕ) → Mem n (places Q ts rs) → (r : List ℕ) × Mem r rs × (n ≡ place ts (choices Q r))
in_places Q ts [] n m = absurd m
in_places Q ts (r ∷ rs) n (inl e) = (r, inl refl, e)
in_places Q ts (r ∷ rs) n (inr m) = let i = in_places Q ts rs n m in (i.0, inr i.1, i.2)

-- solutions in the order of their choices are reached in that order
pub places_ascend : (Q : List Kind) (ts rs : List (List ℕ)) → Ascending (λ r s. choices Q r ⊏ choices Q s) rs → Ascending ◌≤◌ (places Q ts rs)
places_ascend Q ts [] a = tt
places_ascend Q ts (r ∷ rs) a = (
  λ n m.
      let i = in_places Q ts rs n m in
      rw i.2 (place_more ts (choices Q r) (choices Q i.0) (a.0 i.0 i.1)),
  places_ascend Q ts rs a.1,
)

-- how many records are left of those that the budget reaches
abbrev fits : Room → ℕ → ℕ
fits (at_most room) reached = cond (ltb room reached) room reached
fits unlimited reached = reached

fits_more : (variables m n j k : ℕ) → m ≤ n → j ≤ k → fits (room_of m variables) j ≤ fits (room_of n variables) k
fits_more zero m n j k h i = i
fits_more (suc v) m n j k h i = go (m / (suc v + suc v)) (n / (suc v + suc v)) longer (dec_lt (m / (suc v + suc v)) j) (dec_lt (n / (suc v + suc v)) k)
  where
    longer : m / (suc v + suc v) ≤ n / (suc v + suc v)
    longer = rw (fitting_some m (suc v + suc v) (λ e. omega arith), fitting_some n (suc v + suc v) (λ e. omega arith)) (fitting_more m n (suc v + suc v) h)

    go : (a b : ℕ) → a ≤ b → Dec (a < j) → Dec (b < k) → fits (at_most a) j ≤ fits (at_most b) k
    go a b l (yes d) (yes e) = rw (lt-ltb a j d, lt-ltb b k e) l
    go a b l (yes d) (no e) = rw (lt-ltb a j d, le-ltb b k (omega arith)) (omega arith)
    go a b l (no d) (yes e) = rw (le-ltb a j (omega arith), lt-ltb b k e) (omega arith)
    go a b l (no d) (no e) = rw (le-ltb a j (omega arith), le-ltb b k (omega arith)) i

module _ (Q : List Kind) (rs ts : List (List ℕ)) where
  -- a budget for all tries reaches all solutions
  reaches_all : (budget : ℕ) → length ts ≤ budget → within budget (places Q ts rs) ≡ length rs
  reaches_all budget h = go rs
    where
      go : (l : List (List ℕ)) → within budget (places Q ts l) ≡ length l
      go [] = refl
      go (r ∷ l) = rw (le-leb (place ts (choices Q r)) budget (omega (arith, place_few ts (choices Q r)))) (ap suc (go l))

  answer_records : (budget : ℕ) (room : Room) → (answer Q rs ts budget room).records ≡ take (fits room (within budget (places Q ts rs))) rs
  answer_records budget room = go room
    where
      by_budget_lem : (by_budget Q rs ts budget).records ≡ take (within budget (places Q ts rs)) rs
      by_budget_lem =
          picked (λ x. x.records ≡ take (within budget (places Q ts rs)) rs) (ltb budget (length ts)) _ _ (λ e. refl)
          (λ e. sym (take_all (within budget (places Q ts rs)) rs (omega (arith, reaches_all budget (ltb-false budget (length ts) e)))))

      cut : (b : Bool) (n : ℕ) → (cond b (record { records = take n rs; ending = 1; tries = get_or (places Q ts rs) n 0 }) (by_budget Q rs ts budget)).records ≡ take (cond b n (within budget (places Q ts rs))) rs
      cut true n = refl
      cut false n = by_budget_lem

      go : (r : Room) → (answer Q rs ts budget r).records ≡ take (fits r (within budget (places Q ts rs))) rs
      go (at_most n) = cut (ltb n (within budget (places Q ts rs))) n
      go unlimited = by_budget_lem

  -- more room or budget only lengthens the list
  pub answer_more : (variables b c m n : ℕ) → b ≤ c → m ≤ n → Begins (answer Q rs ts b (room_of m variables)).records (answer Q rs ts c (room_of n variables)).records
  answer_more variables b c m n h k =
      rw (answer_records b (room_of m variables), answer_records c (room_of n variables))
      (begins_take _ _ rs (fits_more variables m n _ _ k (within_more b c (places Q ts rs) h)))

  -- a list that is cut short is the leading part
  pub answer_begins : (budget : ℕ) (room : Room) → Begins (answer Q rs ts budget room).records rs
  answer_begins budget room = rw (answer_records budget room) (record { rest = drop (fits room (within budget (places Q ts rs))) rs; is = sym (take-append-drop (fits room (within budget (places Q ts rs))) rs) })

  -- one that ends complete is all of it, with all tries
  pub answer_whole : (budget : ℕ) (room : Room) {x : Result} → x ≡ answer Q rs ts budget room → x.ending ≡ 0 → (x.records ≡ rs) × (x.tries ≡ length ts)
  answer_whole budget room e = subst C (sym e) (go room)
    where
      C : Result → Type 0
      C x = x.ending ≡ 0 → (x.records ≡ rs) × (x.tries ≡ length ts)

      by_budget_lem : C (by_budget Q rs ts budget)
      by_budget_lem = picked C (ltb budget (length ts)) _ _ (λ t e. absurd (omega arith)) (λ t e. (refl, refl))

      go : (r : Room) → C (answer Q rs ts budget r)
      go (at_most n) = picked C (ltb n (within budget (places Q ts rs))) _ _ (λ t e. absurd (omega arith)) (λ t. by_budget_lem)
      go unlimited = by_budget_lem

  -- the tries never exceed the budget
  pub answer_tries : Ascending ◌≤◌ (places Q ts rs) → (budget : ℕ) (room : Room) → (answer Q rs ts budget room).tries ≤ budget
  answer_tries a budget room = go room
    where
      C : Result → Type 0
      C x = x.tries ≤ budget

      by_budget_lem : C (by_budget Q rs ts budget)
      by_budget_lem = picked C (ltb budget (length ts)) _ _ (λ t. omega arith) (λ t. ltb-false budget (length ts) t)

      go : (r : Room) → C (answer Q rs ts budget r)
      go (at_most n) = picked C (ltb n (within budget (places Q ts rs))) _ _ (λ t. within_at budget (places Q ts rs) n a (ltb-true n (within budget (places Q ts rs)) t)) (λ t. by_budget_lem)
      go unlimited = by_budget_lem

  -- one that ends by room fills it, and takes the tries that reach the next solution
  pub answer_full : (budget : ℕ) (room : Room) {x : Result} → x ≡ answer Q rs ts budget room → x.ending ≡ 1
      → (room ≡ at_most (length x.records)) × (x.tries ≡ get_or (places Q ts rs) (length x.records) 0)
  answer_full budget room e = subst (C room) (sym e) (go room)
    where
      C : Room → Result → Type 0
      C r x = x.ending ≡ 1 → (r ≡ at_most (length x.records)) × (x.tries ≡ get_or (places Q ts rs) (length x.records) 0)

      by_budget_lem : {A : Type 0} → (by_budget Q rs ts budget).ending ≡ 1 → A
      by_budget_lem {A} = picked (λ x. x.ending ≡ 1 → A) (ltb budget (length ts)) _ _ (λ t e. absurd (omega arith)) (λ t e. absurd (omega arith))

      go : (r : Room) → C r (answer Q rs ts budget r)
      go (at_most n) =
          picked (C (at_most n)) (ltb n (within budget (places Q ts rs))) _ _
          (λ t e.
          let many : length (take n rs) ≡ n = length-take-le n rs (omega (arith, ltb-true n (within budget (places Q ts rs)) t, within_few budget (places Q ts rs), places_many Q ts rs)) in
          (ap at_most (sym many), ap (λ k. get_or (places Q ts rs) k 0) (sym many)))
          (λ t. by_budget_lem)
      go unlimited = by_budget_lem

-- without solutions nothing is listed, and the tries alone decide whether it is complete
pub answer_none : (Q : List Kind) (ts : List (List ℕ)) (budget : ℕ) (room : Room) → length ts ≤ budget → (answer Q [] ts budget room).ending ≡ 0
answer_none Q ts budget (at_most n) h = rw (le-ltb n 0 zero-le, le-ltb budget (length ts) h)
answer_none Q ts budget unlimited h = rw (le-ltb budget (length ts) h)
