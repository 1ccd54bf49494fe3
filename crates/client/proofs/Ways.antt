-- The three ways in which a list ends, read off the rules of room and budget.
use Prim.Native.Nat.{ℕ, suc, ◌≤◌, ◌<◌, zero-le}
use mathlib.Core.Path.{◌≡◌, refl}
use mathlib.Core.Logic.{inl, inr}
use mathlib.Core.Bool.{Bool, true, false, cond}
use mathlib.Core.List.{List, [], ◌∷◌}
use lib.ListN.{length, take, get_or}
use lib.Dec.{leb, ltb}
use native.Mathlib.Omega.{arith}
use borrow.Author.Tests.{ltb-true, ltb-false, leb-true, le-leb}
use Rattle.meaning.specs.Pattern.{Kind}
use Rattle.meaning.specs.Order.{choices, Mem}
use Rattle.catalogue.specs.Answer.{Result, upto, place, places, within, Room, at_most, unlimited, by_budget, answer}

pub place_few : (ts : List (List ℕ)) (w : List ℕ) → place ts w ≤ length ts
place_few [] w = zero-le
place_few (v ∷ ts) w = go (upto v w) (place_few ts w)
  where
    go : (b : Bool) → place ts w ≤ length ts → cond b (suc (place ts w)) (place ts w) ≤ suc (length ts)
    go true i = omega arith
    go false i = omega arith

module _ (Q : List Kind) (ts : List (List ℕ)) (budget : ℕ) where
  -- a record that is reached within the budget
  pub record Soon (rs : List (List ℕ)) : Type 0 where
    pub it : List ℕ
    pub listed : Mem it rs
    pub soon : place ts (choices Q it) ≤ budget

  pub soon_within : (rs : List (List ℕ)) → 0 < within budget (places Q ts rs) → Soon rs
  soon_within [] h = absurd (omega arith)
  soon_within (r ∷ rs) h = go (leb (place ts (choices Q r)) budget) refl (soon_within rs) h
    where
      go : (b : Bool) → leb (place ts (choices Q r)) budget ≡ b → (0 < within budget (places Q ts rs) → Soon rs)
          → 0 < cond b (suc (within budget (places Q ts rs))) (within budget (places Q ts rs)) → Soon (r ∷ rs)
      go true e i h = record { it = r; listed = inl refl; soon = leb-true _ _ e }
      go false e i h = let s = i h in record { it = s.it; listed = inr s.listed; soon = s.soon }

  pub within_soon : (rs : List (List ℕ)) (r : List ℕ) → Mem r rs → place ts (choices Q r) ≤ budget → 0 < within budget (places Q ts rs)
  within_soon [] r m h = absurd m
  within_soon (a ∷ rs) r (inl e) h =
      let z : leb (place ts (choices Q a)) budget ≡ true = le-leb (place ts (choices Q a)) budget (rw (← e) h) in
      rw z (omega arith)
  within_soon (a ∷ rs) r (inr m) h = go (leb (place ts (choices Q a)) budget) (within_soon rs r m h)
    where
      go : (b : Bool) → 0 < within budget (places Q ts rs) → 0 < cond b (suc (within budget (places Q ts rs))) (within budget (places Q ts rs))
      go true i = omega arith
      go false i = i

  -- with a budget for all tries all records are reached
  pub within_all : (rs : List (List ℕ)) → length ts ≤ budget → within budget (places Q ts rs) ≡ length rs
  within_all [] h = refl
  within_all (r ∷ rs) h =
      let z : leb (place ts (choices Q r)) budget ≡ true = le-leb (place ts (choices Q r)) budget (omega (arith, place_few ts (choices Q r))) in
      rw (z, within_all rs h)

  pub data Way (rs : List (List ℕ)) (room : Room) (x : Result) : Type 0 where
    full : (n : ℕ) → room ≡ at_most n → n < within budget (places Q ts rs) → x.records ≡ take n rs → x.ending ≡ 1 → Way rs room x
    spent : budget < length ts → x.records ≡ take (within budget (places Q ts rs)) rs → x.ending ≡ 2 → Way rs room x
    done : length ts ≤ budget → x.records ≡ rs → x.ending ≡ 0 → ((n : ℕ) → room ≡ at_most n → length rs ≤ n) → Way rs room x

  by_budget_lem : (rs : List (List ℕ)) (room : Room) → ((n : ℕ) → room ≡ at_most n → within budget (places Q ts rs) ≤ n) → Way rs room (by_budget Q rs ts budget)
  by_budget_lem rs room h = go (ltb budget (length ts)) refl
    where
      go : (b : Bool) → ltb budget (length ts) ≡ b
          → Way rs room (cond b (record { records = take (within budget (places Q ts rs)) rs; ending = 2; tries = budget }) (record { records = rs; ending = 0; tries = length ts }))
      go true e = spent (ltb-true _ _ e) refl refl
      go false e = let k = ltb-false budget (length ts) e in done k refl refl (λ n q. omega (arith, within_all rs k, h n q))

  pub ways : (rs : List (List ℕ)) (room : Room) → Way rs room (answer Q rs ts budget room)
  ways rs unlimited = by_budget_lem rs unlimited (λ n q. let z : ◌≡◌ {A = ℕ} 0 1 = cc in absurd (omega arith))
  ways rs (at_most n) = go (ltb n (within budget (places Q ts rs))) refl
    where
      go : (b : Bool) → ltb n (within budget (places Q ts rs)) ≡ b
          → Way rs (at_most n) (cond b (record { records = take n rs; ending = 1; tries = get_or (places Q ts rs) n 0 }) (by_budget Q rs ts budget))
      go true e = full n refl (ltb-true _ _ e) refl refl
      go false e = by_budget_lem rs (at_most n) (λ k q. let z : n ≡ k = cc in omega (arith, ltb-false n (within budget (places Q ts rs)) e))
