-- The events that are left where the levels of the search stand are the last of all events; those after a record's own are its page.
use Prim.Native.Nat.{ℕ, zero, suc, ◌+◌, ◌-◌, ◌≤◌, ◌<◌}
use mathlib.Core.Path.{◌≡◌, refl, sym, ap, ◌∙◌}
use mathlib.Core.Logic.{inr}
use mathlib.Core.List.{List, [], ◌∷◌, ◌++◌, append_assoc}
use lib.ListN.{length, take, set, length-set}
use lib.Seq.{set-set, get_or-set_same}
use native.Mathlib.Omega.{arith}
use native.Mathlib.Nat.{add-zero}
use Rattle.meaning.specs.Forest.{Term}
use Rattle.meaning.specs.Pattern.{Pattern, Kind, Numbered}
use Rattle.meaning.specs.Matcher.{Value}
use Rattle.meaning.specs.Record.{IsRecord}
use Rattle.meaning.specs.Order.{seconds, choices, Ascending}
use Rattle.meaning.proofs.Tame.{count}
use Rattle.catalogue.specs.Answer.{at_most}
use Rattle.catalogue.specs.Page.{beyond, PageMeant}
use Rattle.catalogue.specs.Answer as answers
use Rattle.catalogue.proofs.Events.{Outcome, need, Event, tried, matched, snoc, branch, events, mem_right}
use Rattle.catalogue.proofs.Ascent.{◌≪◌, ascending}
use Rattle.catalogue.proofs.Beyond.{split, beyond_part, beyond_cut, ascending_before, ascending_behind}
use Rattle.catalogue.proofs.Run.{run, tries_of, Match, matches_of, in_tries, upto_before, upto_more}
use Rattle.catalogue.proofs.Fill.{Widths, rest, rest_level, rest_next, ahead, ahead_start, ahead_need}
use Rattle.catalogue.proofs.Whole.{records_of, walked, all, all_solutions, all_tries, record_event, run_is}

-- these events are the last of all
pub record Later (whole left : List Event) : Type 0 where
  pub passed : List Event
  pub is : whole ≡ passed ++ left

module _ {whole : List Event} where
  pub later_more : {left : List Event} (front es : List Event) → left ≡ front ++ es → Later whole left → Later whole es
  later_more front es e w = record { passed = w.passed ++ front; is = w.is ∙ ap (λ l. w.passed ++ l) e ∙ sym (append_assoc w.passed front es) }

  pub later_same : {left es : List Event} → left ≡ es → Later whole left → Later whole es
  later_same e w = record { passed = w.passed; is = w.is ∙ ap (λ l. w.passed ++ l) e }

  pub later_widths : {left : List Event} {width : ℕ} → Later whole left → Widths width whole → Widths width left
  later_widths {left} w h v r m = h v r (rw w.is (mem_right (matched v r) w.passed left m))

-- some of a variable's values are passed over
branch_past : (f : List ℕ → List Event) (p : List ℕ) (k lo m n : ℕ) → k + m ≡ n → (front : List Event) × (branch f p lo n ≡ front ++ branch f p (lo + k) m)
branch_past f p zero lo m n e = let z : m ≡ n = omega arith in ([], rw (z, add-zero lo))
branch_past f p (suc k) lo m zero e = absurd (omega arith)
branch_past f p (suc k) lo m (suc n) e =
    let i = branch_past f p k (suc lo) m n (omega arith) in
    let a : suc lo + k ≡ lo + suc k = omega arith in (
      tried (snoc p lo) ∷ (f (snoc p lo) ++ i.0),
      ap (λ l. tried (snoc p lo) ∷ l) (ap (λ l. f (snoc p lo) ++ l) (i.1 ∙ ap (λ (j : ℕ). i.0 ++ branch f p j m) a) ∙ sym (append_assoc (f (snoc p lo)) i.0 (branch f p (lo + suc k) m))),
    )

module _ (walk : List ℕ → Outcome) (bound : ℕ) where
  pub later_start : (vals nexts lefts : List ℕ) → Later (events walk bound []) (ahead walk bound vals nexts lefts 0)
  later_start vals nexts lefts = record { passed = []; is = sym (ahead_start walk bound vals nexts lefts) }

  -- one more variable is asked for and takes the value v: its level stands behind it
  pub later_choice : {whole : List Event} (vals nexts lefts : List ℕ) (d lo n v left : ℕ) → d < bound → d < length vals → d < length nexts → d < length lefts
      → walk (take d vals) ≡ need lo n → lo ≤ v → v + suc left ≡ lo + n → Later whole (ahead walk bound vals nexts lefts d)
      → Later whole (ahead walk bound (set vals d v) (set nexts d (v + 1)) (set lefts d left) (suc d))
  later_choice vals nexts lefts d lo n v left hb hv hn hl asked low high w =
      let f = events walk (bound - suc d) in
      let p = take d vals in
      let b = branch_past f p (v - lo) lo (suc left) n (omega arith) in
      let at : lo + (v - lo) ≡ v = omega arith in
      let one : ahead walk bound vals nexts lefts d ≡ b.0 ++ rest walk bound vals (set nexts d v) (set lefts d (suc left)) (suc d) =
      ahead_need walk bound vals nexts lefts d lo n hb hn hl asked ∙ rest_level walk bound vals nexts lefts d lo n hn hl
      ∙ ap (λ l. l ++ rest walk bound vals nexts lefts d) (b.1 ∙ ap (λ (j : ℕ). b.0 ++ branch f p j (suc left)) at)
      ∙ append_assoc b.0 (branch f p v (suc left)) (rest walk bound vals nexts lefts d)
      ∙ ap (λ l. b.0 ++ l) (sym (rest_level walk bound vals nexts lefts d v (suc left) hn hl)) in
      let two =
      rest_next walk bound vals (set nexts d v) (set lefts d (suc left)) d v left hv (rw (length-set nexts d v) hn) (rw (length-set lefts d (suc left)) hl)
      (get_or-set_same nexts d v 0 hn) (get_or-set_same lefts d (suc left) 0 hl) in
      let goes : List ℕ → List ℕ → List Event = λ x y. (tried (snoc p v) ∷ []) ++ ahead walk bound (set vals d v) x y (suc d) in
      let three : rest walk bound vals (set nexts d v) (set lefts d (suc left)) (suc d) ≡ goes (set nexts d (v + 1)) (set lefts d left) =
      two ∙ ap (λ (x : List ℕ). goes x (set (set lefts d (suc left)) d left)) (set-set nexts d v (v + 1)) ∙ ap (λ (y : List ℕ). goes (set nexts d (v + 1)) y) (set-set lefts d (suc left) left) in
      later_more (tried (snoc p v) ∷ []) _ three (later_more b.0 _ one w)

tries_append : (a b : List Event) → tries_of (a ++ b) ≡ tries_of a ++ tries_of b
tries_append [] b = refl
tries_append (tried v ∷ a) b = ap (λ l. v ∷ l) (tries_append a b)
tries_append (matched v r ∷ a) b = tries_append a b

matches_append : (a b : List Event) → matches_of (a ++ b) ≡ matches_of a ++ matches_of b
matches_append [] b = refl
matches_append (tried v ∷ a) b = matches_append a b
matches_append (matched v r ∷ a) b = ap (λ l. record { choices = v; values = r } ∷ l) (matches_append a b)

records_append : (a b : List Match) → records_of (a ++ b) ≡ records_of a ++ records_of b
records_append [] b = refl
records_append (s ∷ a) b = ap (λ l. s.values ∷ l) (records_append a b)

module _ (Allowed : ℕ → Value → Type 0) (allowed? : (x : ℕ) (v : Value) → Dec (Allowed x v)) {Q : List Kind} {P : Pattern} (g : Numbered P Q) (T : Term) where
  -- every matcher has its place among the events
  pub at_record : {r : List ℕ} → IsRecord Allowed Q P T r → (es : List Event) × Later (all Allowed allowed? g T) (matched (choices Q r) r ∷ es)
  at_record {r} i =
      let s = split (matched (choices Q r) r) (all Allowed allowed? g T) (record_event Allowed allowed? g T i) in
      (s.1, record { passed = s.0; is = s.2 })

  module _ {r : List ℕ} {es : List Event} (w : Later (all Allowed allowed? g T) (matched (choices Q r) r ∷ es)) where
    in_order : Ascending ◌≪◌ (w.passed ++ (matched (choices Q r) r ∷ es))
    in_order = rw (← w.is) (ascending (walked Allowed allowed? g T) (count Q) [])

    its_tries : tries_of (all Allowed allowed? g T) ≡ tries_of w.passed ++ tries_of es
    its_tries = ap tries_of w.is ∙ tries_append w.passed (matched (choices Q r) r ∷ es)

    its_matches : matches_of (all Allowed allowed? g T) ≡ matches_of w.passed ++ (record { choices = choices Q r; values = r } ∷ matches_of es)
    its_matches = ap matches_of w.is ∙ matches_append w.passed (matched (choices Q r) r ∷ es)

    its_records : records_of (matches_of (all Allowed allowed? g T)) ≡ records_of (matches_of w.passed) ++ (r ∷ records_of (matches_of es))
    its_records = ap records_of its_matches ∙ records_append (matches_of w.passed) (record { choices = choices Q r; values = r } ∷ matches_of es)

    -- the tries after the last that leads to the record
    tries_beyond : beyond (λ v. v) (choices Q r) (tries_of (all Allowed allowed? g T)) ≡ tries_of es
    tries_beyond =
        ap (beyond (λ v. v) (choices Q r)) its_tries
        ∙ beyond_part (λ v. v) (choices Q r) (tries_of w.passed) (tries_of es)
        (λ v m. upto_before v (choices Q r) r (ascending_before ◌≪◌ w.passed es (matched (choices Q r) r) in_order (tried v) (in_tries w.passed v m)))
        (λ v m. upto_more (choices Q r) v ((ascending_behind ◌≪◌ w.passed (matched (choices Q r) r ∷ es) in_order).0 (tried v) (in_tries es v m)))

    -- the solutions after the record
    solutions_beyond : beyond seconds (seconds r) (records_of (matches_of (all Allowed allowed? g T))) ≡ records_of (matches_of es)
    solutions_beyond =
        beyond_cut seconds (records_of (matches_of (all Allowed allowed? g T))) (records_of (matches_of w.passed)) (records_of (matches_of es)) r (all_solutions Allowed allowed? g T).ordered its_records

    -- what is run from the events behind the record is the page after it
    pub page_meant : (budget room : ℕ) → PageMeant Allowed Q P T r budget (at_most room) (run es budget room)
    page_meant budget room =
        record {
          solutions = records_of (matches_of (all Allowed allowed? g T));
          tries = tries_of (all Allowed allowed? g T);
          solutions_are = all_solutions Allowed allowed? g T;
          tries_are = all_tries Allowed allowed? g T;
          result =
              run_is Allowed allowed? g T es budget room (ascending_behind ◌≪◌ w.passed (matched (choices Q r) r ∷ es) in_order).1 (λ s m. rw its_matches (mem_right s (matches_of w.passed) _ (inr m)))
              ∙ (λ i. answers.answer Q (sym solutions_beyond i) (sym tries_beyond i) budget (at_most room));
        }
