-- The two counts that the exports narrow fit 32 bits: the lister's records and the instance maker's rows.
use Prim.Native.Nat.{ℕ, zero, suc, ◌+◌, ◌/◌, ◌≤◌, ◌<◌, zero-le}
use mathlib.Core.Path.{◌≡◌, ap, sym, subst}
use mathlib.Core.Logic.{inl, inr}
use mathlib.Core.Bool.{Bool, true, false}
use mathlib.Core.List.{List, [], ◌∷◌, ◌++◌, append_assoc, append-nil}
use lib.ListN.{length, length-append}
use native.Mathlib.Omega.{arith}
use native.Mathlib.Decide.{ℕ_discrete}
use Rattle.std.specs.Prelude as prelude
use Rattle.meaning.specs.declared.refusal.Refusal.{Refusal}
use Rattle.meaning.specs.Forest.{Term, size}
use Rattle.meaning.specs.Pattern.{Pattern, Kind, Numbered}
use Rattle.meaning.specs.Matcher.{Value}
use Rattle.meaning.specs.Record.{IsRecord}
use Rattle.meaning.specs.Order.{seconds}
use Rattle.meaning.specs.Calls.{accept}
use Rattle.meaning.proofs.Tame.{count}
use Rattle.constraint.specs.Obeys.{Allowed}
use Rattle.constraint.proofs.Allowed.{allowed?}
use Rattle.problem.proofs.Posed.{posed}
use Rattle.problem.specs.Problem as problem
use Rattle.catalogue.specs.Answer.{Result, room_of}
use Rattle.catalogue.specs.Listing.{Meant}
use Rattle.catalogue.specs.Page.{PageMeant}
use Rattle.catalogue.proofs.Beyond.{beyond_few}
use Rattle.catalogue.proofs.Later.{at_record, page_meant}
use Rattle.catalogue.proofs.Pages.{one_page, page_leading}
use Rattle.catalogue.proofs.Events.{Outcome, fail, need, done, Event, tried, matched, snoc, branch, after, events}
use Rattle.catalogue.proofs.Run.{run}
use Rattle.catalogue.proofs.Whole.{walked, meant}
use Rattle.catalogue.proofs.Facts.{one_answer, leading, at_most_one}
use Rattle.lister.specs.Listed as lister
use Rattle.lister.specs.Page as page
use Rattle.lister.proofs.Unique.{page_posed}
use Rattle.lister.specs.Listed.{Listed}
use Rattle.instance.specs.Instance as instance
use Rattle.instance.proofs.Whole.{one_instance}

-- between two matches stands a try; the flag says whether a match may come before the first one
data Paced : Bool → List Event → Type 0 where
  ended : {b : Bool} → Paced b []
  trying : {b : Bool} {v : List ℕ} {es : List Event} → Paced true es → Paced b (tried v ∷ es)
  matching : {v r : List ℕ} {es : List Event} → Paced false es → Paced true (matched v r ∷ es)

weaken : {es : List Event} → Paced false es → Paced true es
weaken ended = ended
weaken (trying h) = trying h

module _ (f : List ℕ → List Event) (hf : (p : List ℕ) (es : List Event) → Paced false es → Paced true (f p ++ es)) where
  branch_paced : (p : List ℕ) (lo n : ℕ) (es : List Event) → Paced false es → Paced false (branch f p lo n ++ es)
  branch_paced p lo zero es h = h
  branch_paced p lo (suc n) es h =
      let i = hf (snoc p lo) (branch f p (suc lo) n ++ es) (branch_paced p (suc lo) n es h) in
      trying (subst (λ (fs : List Event). Paced true fs) (sym (append_assoc (f (snoc p lo)) (branch f p (suc lo) n) es)) i)

  after_paced : (p : List ℕ) (o : Outcome) (es : List Event) → Paced false es → Paced true (after f p o ++ es)
  after_paced p fail es h = weaken h
  after_paced p (need lo n) es h = weaken (branch_paced p lo n es h)
  after_paced p (done r) es h = matching h

events_paced : (walk : List ℕ → Outcome) (m : ℕ) (p : List ℕ) (es : List Event) → Paced false es → Paced true (events walk m p ++ es)
events_paced walk zero p es h = after_paced (λ q. []) (λ q fs k. weaken k) p (walk p) es h
events_paced walk (suc m) p es h = after_paced (events walk m) (events_paced walk m) p (walk p) es h

-- as many records as tries, and one more where a match may come first
abbrev spare : Bool → ℕ
spare true = 1
spare false = 0

run_few : {b : Bool} {es : List Event} → Paced b es → (budget room : ℕ) → length (run es budget room).records ≤ budget + spare b
run_few ended budget room = zero-le
run_few (trying h) zero room = zero-le
run_few (trying h) (suc budget) room = omega (arith, run_few h budget room)
run_few (matching h) budget zero = zero-le
run_few (matching h) budget (suc room) = omega (arith, run_few h budget room)

-- where the first event is a match, it is the only one
module _ (k budget room : ℕ) (many : 1 < k) (low : budget < k) where
  after_few : (f : List ℕ → List Event) → ((p : List ℕ) (es : List Event) → Paced false es → Paced true (f p ++ es)) → (p : List ℕ) (o : Outcome) → length (run (after f p o) budget room).records < k
  after_few f hf p fail = omega arith
  after_few f hf p (need lo n) = omega (arith, run_few (rw append-nil at (branch_paced f hf p lo n [] ended)) budget room)
  after_few f hf p (done r) = go room
    where
      go : (room : ℕ) → length (run (matched p r ∷ []) budget room).records < k
      go zero = omega arith
      go (suc room) = omega arith

  events_few : (walk : List ℕ → Outcome) (m : ℕ) → length (run (events walk m []) budget room).records < k
  events_few walk zero = after_few (λ q. []) (λ q fs h. weaken h) [] (walk [])
  events_few walk (suc m) = after_few (events walk m) (events_paced walk m) [] (walk [])

-- fewer records than any number that is above the budget and above 1
meant_few : (A : ℕ → Value → Type 0) (a? : (x : ℕ) (v : Value) → Dec (A x v)) {P : Pattern} {T : Term} {budget : ℕ} {x : Result} (k n : ℕ) → 1 < k → budget < k → (Q : List Kind) → Numbered P Q
    → Meant A Q P T budget (room_of n (length Q)) x → length x.records < k
meant_few A a? {x = x} k n many low [] g m =
    let b = leading m in
    omega (arith, at_most_one a? g m.solutions_are, ap length b.is, length-append x.records b.rest)
meant_few A a? {T = T} {budget = budget} k n many low (q ∷ Q) g m =
    rw (one_answer m (meant A a? g T budget _)) (events_few k budget _ many low (walked A a? g T) (count (q ∷ Q)))

pub records_fit : {l : problem.Lists} {budget : ℕ} {before : List ℕ} {r : Listed} {new : List ℕ} → budget < 4294967296 → lister.Settled l budget before r new → r.records < 4294967296
records_fit {l} {budget} {before} {r} low s = go (ℕ_discrete r.code 0)
  where
    go : Dec (r.code ≡ 0) → r.records < 4294967296
    go (yes e) =
        let p = posed l accept r.code e s.code in
        let x = s.listed e p.T p.P p.Q p.es p.cs p.poses in
        omega (arith, x.counts, meant_few (Allowed p.cs) (allowed? p.cs) 4294967296 (length before) (omega arith) low p.Q p.poses.rest.pattern.numbered x.meant)
    go (no n) = omega (arith, (s.refused n).1)

-- behind a match, of events that are paced, there are no more records than tries
paced_behind : (front es : List Event) (v r : List ℕ) {b : Bool} → Paced b (front ++ (matched v r ∷ es)) → Paced false es
paced_behind [] es v r (matching h) = h
paced_behind (tried u ∷ front) es v r (trying h) = paced_behind front es v r h
paced_behind (matched u q ∷ front) es v r (matching h) = paced_behind front es v r h

page_few : (A : ℕ → Value → Type 0) (a? : (x : ℕ) (v : Value) → Dec (A x v)) {P : Pattern} {T : Term} {list : List ℕ} {budget : ℕ} {x : Result} (k n : ℕ) → 1 < k → budget < k → (Q : List Kind) → Numbered P Q
    → IsRecord A Q P T list → PageMeant A Q P T list budget (room_of n (length Q)) x → length x.records < k
page_few A a? {list = list} {x = x} k n many low [] g i m =
    let b = page_leading m in
    omega (arith, at_most_one a? g m.solutions_are, beyond_few seconds (seconds list) m.solutions, ap length b.is, length-append x.records b.rest)
page_few A a? {T = T} {budget = budget} k n many low (q ∷ Q) g i m =
    let e = at_record A a? g T i in
    let all : Paced true (events (walked A a? g T) (count (q ∷ Q)) []) = rw append-nil at (events_paced (walked A a? g T) (count (q ∷ Q)) [] [] ended) in
    let paced = paced_behind e.1.passed e.0 _ _ (rw e.1.is at all) in
    rw (one_page m (page_meant A a? g T e.1 budget _)) (omega (arith, run_few paced budget (n / (suc (length Q) + suc (length Q)))))

pub page_records_fit : {l : problem.Lists} {list : List ℕ} {budget : ℕ} {before : List ℕ} {r : Listed} {new : List ℕ} → budget < 4294967296 → page.PageSettled l list budget before r new → r.records < 4294967296
page_records_fit {l} {list} {budget} {before} {r} low s = go (ℕ_discrete r.code 0)
  where
    go : Dec (r.code ≡ 0) → r.records < 4294967296
    go (yes e) =
        let p = page_posed l list r.code e s.code in
        let x = s.listed e p.0.T p.0.P p.0.Q p.0.es p.0.cs p.0.poses in
        omega (arith, x.counts, page_few (Allowed p.0.cs) (allowed? p.0.cs) 4294967296 (length before) (omega arith) low p.0.Q p.0.poses.rest.pattern.numbered p.1 x.meant)
    go (no n) = omega (arith, (s.refused n).1)

-- the instance that is made is the one whose rows are few
few_instance : (l : instance.InstanceLists) (m n c : ℕ) → c ≡ 0 → instance.InstanceCodes l m n c → (U : Term) × instance.Instance l U × (size U ≤ 2048)
few_instance l m n c z (inl a) = absurd (omega (arith, a.1))
few_instance l m n c z (inr (_, inl a)) = absurd (omega (arith, a.1))
few_instance l m n c z (inr (_, inr (_, inl a))) = absurd (omega (arith, a.1))
few_instance l m n c z (inr (_, inr (_, inr (_, inl a)))) = absurd (omega (arith, a.1))
few_instance l m n c z (inr (_, inr (_, inr (_, inr (u, _))))) = u

pub rows_fit : {l : instance.InstanceLists} {out_label out_size : List ℕ} {r : prelude.Result ℕ Refusal} {new_label new_size : List ℕ} → instance.InstanceSettled l out_label out_size r new_label new_size → instance.rows_given r ≤ 2048
rows_fit {l} {out_label} {out_size} {r} s = go (ℕ_discrete (instance.code_given r) 0)
  where
    go : Dec (instance.code_given r ≡ 0) → instance.rows_given r ≤ 2048
    go (yes e) =
        let u = few_instance l (length out_label) (length out_size) (instance.code_given r) e s.coded in
        let m = s.accepted e in
        omega (arith, u.2, m.answered, ap size (one_instance m.its u.1))
    go (no n) = omega (arith, (s.refused n).0)
