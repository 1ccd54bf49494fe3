-- What follows of a page, whatever the code: of all solutions and all tries it has those behind the record's, there is one answer, and
-- the facts of a list hold of it.
use Prim.Native.Nat.{ℕ, ◌≤◌}
use mathlib.Core.Path.{◌≡◌, refl, ◌∙◌, sym}
use mathlib.Core.Logic.{inl}
use mathlib.Core.List.{List, [], ◌∷◌, ◌++◌}
use lib.ListN.{length}
use native.Mathlib.Omega.{arith}
use Rattle.meaning.specs.Forest.{Term}
use Rattle.meaning.specs.Pattern.{Pattern, Kind, Numbered}
use Rattle.meaning.specs.Matcher.{Value}
use Rattle.meaning.specs.Record.{IsRecord}
use Rattle.meaning.specs.Order.{seconds, choices, ◌⊏◌, Mem}
use Rattle.meaning.specs.Reached.{Begins}
use Rattle.catalogue.specs.Answer.{Result, Room, at_most, unlimited, answer, room_of}
use Rattle.catalogue.specs.Listing.{Solutions, Tries}
use Rattle.catalogue.specs.Page.{solutions_after, tries_after, PageMeant}
use Rattle.catalogue.proofs.Beyond.{cut_at, beyond_ascending, beyond_few}
use Rattle.catalogue.proofs.Cut.{places_ascend, answer_more, answer_begins, answer_whole, answer_tries}
use Rattle.catalogue.proofs.Whole.{last_try, untried}
use Rattle.catalogue.proofs.Facts.{one_solutions, one_tries, by_choices, one_room, at_most_one}

module _ {Allowed : ℕ → Value → Type 0} {Q : List Kind} {P : Pattern} {T : Term} {r : List ℕ} where
  -- there is one answer
  pub one_page : {budget : ℕ} {room : Room} {x y : Result} → PageMeant Allowed Q P T r budget room x → PageMeant Allowed Q P T r budget room y → x ≡ y
  one_page {budget} {room} a b =
      let e = one_solutions a.solutions_are b.solutions_are in
      let f = one_tries a.tries_are b.tries_are in
      a.result ∙ (λ i. answer Q (solutions_after r (e i)) (tries_after Q r (f i)) budget room) ∙ sym b.result

  -- a page that is cut short is the leading part of the solutions behind r
  pub page_leading : {budget : ℕ} {room : Room} {x : Result} (m : PageMeant Allowed Q P T r budget room x) → Begins x.records (solutions_after r m.solutions)
  page_leading {budget} {room} m = rw m.result (answer_begins Q (solutions_after r m.solutions) (tries_after Q r m.tries) budget room)

  -- one that ends complete has all of them, and all tries
  pub page_whole : {budget : ℕ} {room : Room} {x : Result} (m : PageMeant Allowed Q P T r budget room x) → x.ending ≡ 0
      → (x.records ≡ solutions_after r m.solutions) × (x.tries ≡ length (tries_after Q r m.tries))
  page_whole {budget} {room} m = answer_whole Q (solutions_after r m.solutions) (tries_after Q r m.tries) budget room m.result

  -- more room or budget only lengthens it
  pub page_lengthens : {b c : ℕ} (m n : ℕ) {x y : Result} → b ≤ c → m ≤ n → PageMeant Allowed Q P T r b (room_of m (length Q)) x → PageMeant Allowed Q P T r c (room_of n (length Q)) y
      → Begins x.records y.records
  page_lengthens {b} {c} m n h k i j =
      rw (i.result, j.result, one_solutions i.solutions_are j.solutions_are, one_tries i.tries_are j.tries_are)
      (answer_more Q (solutions_after r j.solutions) (tries_after Q r j.tries) (length Q) b c m n h k)

  -- behind the record of a matcher
  pub solutions_follow : {rs : List (List ℕ)} → IsRecord Allowed Q P T r → Solutions Allowed Q P T rs → (earlier : List (List ℕ)) × (rs ≡ earlier ++ (r ∷ solutions_after r rs))
  solutions_follow {rs} i s = cut_at seconds r rs s.ordered ((s.all r).1 i)

module _ (Allowed : ℕ → Value → Type 0) (allowed? : (x : ℕ) (v : Value) → Dec (Allowed x v)) {Q : List Kind} {P : Pattern} (g : Numbered P Q) (T : Term) {r : List ℕ} where
  -- the tries follow the last that leads to the record; without choices there is none
  pub tries_follow : {ts : List (List ℕ)} → IsRecord Allowed Q P T r → Tries Allowed Q P T ts → (choices Q r ≡ [] → ⊥) → (earlier : List (List ℕ)) × (ts ≡ earlier ++ (choices Q r ∷ tries_after Q r ts))
  tries_follow {ts} i t n = cut_at (λ v. v) (choices Q r) ts t.ordered ((t.all (choices Q r)).1 (last_try Allowed allowed? g T i n))

  pub no_tries : {ts : List (List ℕ)} → IsRecord Allowed Q P T r → Tries Allowed Q P T ts → choices Q r ≡ [] → ts ≡ []
  no_tries {ts} i t e = go ts (λ v m. untried Allowed allowed? g T i e ((t.all v).0 m))
    where
      go : (l : List (List ℕ)) → ((v : List ℕ) → Mem v l → ⊥) → l ≡ []
      go [] h = refl
      go (v ∷ l) h = absurd (h v (inl refl))

  -- the tries reported never exceed the budget
  pub page_tries_bound : {budget : ℕ} {room : Room} {x : Result} → PageMeant Allowed Q P T r budget room x → x.tries ≤ budget
  page_tries_bound {budget} {room} m =
      let a = beyond_ascending seconds (λ s u. choices Q s ⊏ choices Q u) (seconds r) m.solutions (by_choices Allowed allowed? g T m.solutions_are) in
      rw m.result (answer_tries Q (solutions_after r m.solutions) (tries_after Q r m.tries) (places_ascend Q (tries_after Q r m.tries) (solutions_after r m.solutions) a) budget room)

-- without variables there is no solution after one, so no room can be wanting
module _ {Allowed : ℕ → Value → Type 0} (allowed? : (x : ℕ) (v : Value) → Dec (Allowed x v)) {P : Pattern} {T : Term} (g : Numbered P []) where
  pub page_unlimited : {r : List ℕ} {budget : ℕ} {x : Result} → PageMeant Allowed [] P T r budget (at_most 1) x → PageMeant Allowed [] P T r budget unlimited x
  page_unlimited {r} {budget} m =
      record {
        solutions = m.solutions;
        tries = m.tries;
        solutions_are = m.solutions_are;
        tries_are = m.tries_are;
        result =
            m.result
            ∙ one_room [] (solutions_after r m.solutions) (tries_after [] r m.tries) budget (omega (arith, beyond_few seconds (seconds r) m.solutions, at_most_one allowed? g m.solutions_are));
      }
