-- What follows from what is meant, whatever the code: there is one answer; a list that is cut short is the leading part; more
-- room or budget only lengthens it; the tries never exceed the budget; a complete list is empty where nothing solves.
use Prim.Native.Nat.{ℕ, ◌≤◌}
use mathlib.Core.Path.{◌≡◌, refl, ap, ◌∙◌, sym}
use mathlib.Core.Logic.{inl, inr}
use mathlib.Core.List.{List, [], ◌∷◌, ◌++◌}
use lib.ListN.{length, drop}
use native.Mathlib.Omega.{arith}
use borrow.Author.Tests.{le-ltb}
use Rattle.meaning.specs.Forest.{Term}
use Rattle.meaning.specs.Pattern.{Pattern, Kind, Numbered}
use Rattle.meaning.specs.Matcher.{Value, Solves}
use Rattle.meaning.specs.Record.{record_of, IsRecord}
use Rattle.meaning.specs.Order.{seconds, choices, ◌⊏◌, Mem, Ascending}
use Rattle.meaning.specs.Reached.{Begins}
use Rattle.meaning.proofs.Theorems.{complete}
use Rattle.meaning.proofs.Tame.{tame_ok}
use Rattle.catalogue.specs.Listing.{Solutions, Tries, Meant, joined, Shown}
use Rattle.catalogue.specs.Answer.{Result, places, within, Room, at_most, unlimited, answer, room_of}
use Rattle.catalogue.proofs.Ascent.{⊏-irrefl, ⊏-trans, unique}
use Rattle.catalogue.proofs.Cut.{within_few, places_many, places_ascend, answer_more, answer_begins, answer_whole, answer_tries}
use Rattle.catalogue.proofs.Whole.{meant, all_solutions, all_chosen}

-- what a call shows of a result is settled where the result is
pub one_shown : {Means : Result → Type 0} {before after after' : List ℕ} {ending records tries ending' records' tries' : ℕ} → ((x y : Result) → Means x → Means y → x ≡ y)
    → Shown Means before ending records tries after → Shown Means before ending' records' tries' after' → (ending ≡ ending') × (records ≡ records') × (tries ≡ tries') × (after ≡ after')
one_shown {before = before} one x y =
    let o = one x.result y.result x.meant y.meant in (
      x.ends ∙ ap (λ (z : Result). z.ending) o ∙ sym y.ends,
      x.counts ∙ ap (λ (z : Result). length z.records) o ∙ sym y.counts,
      x.tried ∙ ap (λ (z : Result). z.tries) o ∙ sym y.tried,
      x.written ∙ ap (λ (z : Result). joined z.records ++ drop (length (joined z.records)) before) o ∙ sym y.written,
    )

module _ {Allowed : ℕ → Value → Type 0} {Q : List Kind} {P : Pattern} {T : Term} where
  pub one_solutions : {rs ss : List (List ℕ)} → Solutions Allowed Q P T rs → Solutions Allowed Q P T ss → rs ≡ ss
  one_solutions {rs} {ss} a b =
      unique (λ r s. seconds r ⊏ seconds s) (λ r. ⊏-irrefl (seconds r)) (λ r s t. ⊏-trans (seconds r) (seconds s) (seconds t)) rs ss a.ordered b.ordered
      (λ r m. (b.all r).1 ((a.all r).0 m)) (λ r m. (a.all r).1 ((b.all r).0 m))

  pub one_tries : {ts us : List (List ℕ)} → Tries Allowed Q P T ts → Tries Allowed Q P T us → ts ≡ us
  one_tries {ts} {us} a b = unique ◌⊏◌ ⊏-irrefl ⊏-trans ts us a.ordered b.ordered (λ v m. (b.all v).1 ((a.all v).0 m)) (λ v m. (a.all v).1 ((b.all v).0 m))

  -- there is one answer
  pub one_answer : {budget : ℕ} {room : Room} {x y : Result} → Meant Allowed Q P T budget room x → Meant Allowed Q P T budget room y → x ≡ y
  one_answer {budget} {room} a b =
      let e = one_solutions a.solutions_are b.solutions_are in
      let f = one_tries a.tries_are b.tries_are in
      a.result ∙ (λ i. answer Q (e i) (f i) budget room) ∙ sym b.result

  -- a list that is cut short is the leading part of all solutions
  pub leading : {budget : ℕ} {room : Room} {x : Result} (m : Meant Allowed Q P T budget room x) → Begins x.records m.solutions
  leading {budget} {room} m = rw m.result (answer_begins Q m.solutions m.tries budget room)

  -- a list that ends complete has all of them
  pub whole : {budget : ℕ} {room : Room} {x : Result} (m : Meant Allowed Q P T budget room x) → x.ending ≡ 0 → x.records ≡ m.solutions
  whole {budget} {room} m e = (answer_whole Q m.solutions m.tries budget room m.result e).0

  -- more room or budget only lengthens it
  pub lengthens : {b c : ℕ} (m n : ℕ) {x y : Result} → b ≤ c → m ≤ n → Meant Allowed Q P T b (room_of m (length Q)) x → Meant Allowed Q P T c (room_of n (length Q)) y → Begins x.records y.records
  lengthens {b} {c} m n h k i j =
      rw (i.result, j.result, one_solutions i.solutions_are j.solutions_are, one_tries i.tries_are j.tries_are) (answer_more Q j.solutions j.tries (length Q) b c m n h k)

  -- a complete list is empty if and only if no substitution solves the problem
  pub empty_none : {budget : ℕ} {room : Room} {x : Result} → Meant Allowed Q P T budget room x → x.ending ≡ 0 → x.records ≡ [] → (σ : List Value) → Solves Allowed Q σ P T → ⊥
  empty_none {x = x} m e n σ s =
      let i : IsRecord Allowed Q P T (record_of P σ) = record { matcher = σ; solves = s; its = refl } in
      rw (sym (whole m e) ∙ n) at ((m.solutions_are.all (record_of P σ)).1 i)

  pub none_empty : {budget : ℕ} {room : Room} {x : Result} → Meant Allowed Q P T budget room x → ((σ : List Value) → Solves Allowed Q σ P T → ⊥) → x.records ≡ []
  none_empty {x = x} m h = go x.records (leading m).rest (leading m).is
    where
      go : (rs more : List (List ℕ)) → m.solutions ≡ rs ++ more → rs ≡ []
      go [] more e = refl
      go (r ∷ rs) more e =
          let i = (m.solutions_are.all r).0 (rw e (inl refl)) in
          absurd (h i.matcher i.solves)

-- where there is at most one, room for one is as good as any
pub one_room : (Q : List Kind) (rs ts : List (List ℕ)) (budget : ℕ) → length rs ≤ 1 → answer Q rs ts budget (at_most 1) ≡ answer Q rs ts budget unlimited
one_room Q rs ts budget few = rw (le-ltb 1 (within budget (places Q ts rs)) (omega (arith, within_few budget (places Q ts rs), places_many Q ts rs)))

-- without variables there is at most one solution, so no room can be wanting
module _ {Allowed : ℕ → Value → Type 0} (allowed? : (x : ℕ) (v : Value) → Dec (Allowed x v)) {P : Pattern} {T : Term} (g : Numbered P []) where
  no_numbers : {r : List ℕ} → IsRecord Allowed [] P T r → r ≡ []
  no_numbers {r} i = sym i.its ∙ go (record_of P i.matcher) (tame_ok Allowed allowed? T _ g (complete Allowed allowed? g i.solves).0).1
    where
      go : (l : List ℕ) → length l ≡ 0 → l ≡ []
      go [] e = refl
      go (a ∷ l) e = absurd (omega arith)

  pub at_most_one : {rs : List (List ℕ)} → Solutions Allowed [] P T rs → length rs ≤ 1
  at_most_one {rs} s = go rs s.ordered (λ r m. no_numbers ((s.all r).0 m))
    where
      go : (l : List (List ℕ)) → Ascending (λ r u. seconds r ⊏ seconds u) l → ((r : List ℕ) → Mem r l → r ≡ []) → length l ≤ 1
      go [] a h = omega arith
      go (r ∷ []) a h = omega arith
      go (r ∷ u ∷ l) a h = absurd (rw (h r (inl refl), h u (inr (inl refl))) at (a.0 u (inl refl)))

  pub meant_unlimited : {budget : ℕ} {x : Result} → Meant Allowed [] P T budget (at_most 1) x → Meant Allowed [] P T budget unlimited x
  meant_unlimited {budget} m =
      record {
        solutions = m.solutions;
        tries = m.tries;
        solutions_are = m.solutions_are;
        tries_are = m.tries_are;
        result = m.result ∙ one_room [] m.solutions m.tries budget (at_most_one m.solutions_are);
      }

module _ (Allowed : ℕ → Value → Type 0) (allowed? : (x : ℕ) (v : Value) → Dec (Allowed x v)) {Q : List Kind} {P : Pattern} (g : Numbered P Q) (T : Term) where
  -- the solutions are in the order of their choices too
  pub by_choices : {rs : List (List ℕ)} → Solutions Allowed Q P T rs → Ascending (λ r s. choices Q r ⊏ choices Q s) rs
  by_choices s = rw (one_solutions s (all_solutions Allowed allowed? g T)) (all_chosen Allowed allowed? g T)

  -- the tries reported never exceed the budget
  pub tries_bound : {budget : ℕ} {room : Room} {x : Result} → Meant Allowed Q P T budget room x → x.tries ≤ budget
  tries_bound {budget} {room} m = rw m.result (answer_tries Q m.solutions m.tries (places_ascend Q m.tries m.solutions (by_choices m.solutions_are)) budget room)
