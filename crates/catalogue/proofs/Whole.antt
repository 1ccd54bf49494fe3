-- The events of the walk give what is meant: all tries and all solutions, in order.
use Prim.Native.Nat.{ℕ, zero, suc, ◌+◌, ◌-◌, ◌≤◌, ◌<◌}
use mathlib.Core.Path.{◌≡◌, refl, ap, ◌∙◌, sym}
use mathlib.Core.Logic.{◌↔◌, inl, inr}
use mathlib.Core.List.{List, [], ◌∷◌}
use lib.ListN.{length, get_or}
use native.Mathlib.Omega.{arith}
use native.Mathlib.Decide.{dec_le}
use Rattle.meaning.specs.Forest.{Term, size}
use Rattle.meaning.specs.Pattern.{Pattern, Kind, Numbered}
use Rattle.meaning.specs.Matcher.{Value, kinds, Solves}
use Rattle.meaning.specs.Record.{numbers, record_of, IsRecord}
use Rattle.meaning.specs.Read.{values}
use Rattle.meaning.specs.Order.{seconds, choices, ◌⊏◌, Mem, Ascending}
use Rattle.meaning.proofs.Walk as W
use Rattle.meaning.proofs.Walk.{Res, ok, walk}
use Rattle.meaning.proofs.Theorems.{complete}
use Rattle.meaning.proofs.Theorems.{sound as walk_sound}
use Rattle.meaning.proofs.Asked.{asked_reached, reached_asked}
use Rattle.meaning.proofs.Honest.{Asked, honest}
use Rattle.meaning.proofs.Tame.{count, tame_need, tame_ok}
use Rattle.catalogue.specs.Listing.{Solutions, Try, Tries, Meant}
use Rattle.catalogue.specs.Answer.{places, within, at_most, answer as answer_of}
use Rattle.catalogue.proofs.Events.{Outcome, fail, need, done, Event, matched, snoc, events, Within, Leads, Some}
use Rattle.catalogue.proofs.Ascent.{◌≪◌, ascending}
use Rattle.catalogue.proofs.Run.{run, tries_of, Match, matches_of, placed, reached, values_of, tries_at, answer, IsTry, IsMatch, Tame, ◌before◌, tries_ascending, matches_ascending, run_answer, in_matches, all_tried, all_matched}
use Rattle.catalogue.proofs.Plain.{plain_try, plain_match, try_plain}
use Rattle.catalogue.proofs.Ranks.{order}

-- a matcher, with its choices and its record
record Matcher (Allowed : ℕ → Value → Type 0) (Q : List Kind) (P : Pattern) (T : Term) (s : Match) : Type 0 where
  matcher : List Value
  solves : Solves Allowed Q matcher P T
  chose : s.choices ≡ choices Q (record_of P matcher)
  records : s.values ≡ record_of P matcher

-- the records of matches, and their places among the tries
abbrev pub records_of : List Match → List (List ℕ)
records_of [] = []
records_of (s ∷ S) = s.values ∷ records_of S

in_records : (S : List Match) (r : List ℕ) → Mem r (records_of S) → (s : Match) × Mem s S × (s.values ≡ r)
in_records [] r m = absurd m
in_records (s ∷ S) r (inl e) = (s, inl refl, sym e)
in_records (s ∷ S) r (inr m) = let h = in_records S r m in (h.0, inr h.1, h.2)

of_records : (S : List Match) (s : Match) → Mem s S → Mem s.values (records_of S)
of_records [] s m = elim m [ ]
of_records (u ∷ S) s (inl e) = inl (ap (λ (m : Match). m.values) e)
of_records (u ∷ S) s (inr m) = inr (of_records S s m)

records_ascending : (R : List ℕ → List ℕ → Type 0) (S : List Match) → Ascending ◌before◌ S → ((s u : Match) → Mem s S → Mem u S → ◌before◌ s u → R s.values u.values)
    → Ascending R (records_of S)
records_ascending R [] a h = tt
records_ascending R (s ∷ S) a h = (first, records_ascending R S a.1 (λ u w m n. h u w (inr m) (inr n)))
  where
    first : (r : List ℕ) → Mem r (records_of S) → R s.values r
    first r m =
        let k = in_records S r m in
        rw k.2 at (h s k.0 (inl refl) (inr k.1) (a.0 k.0 k.1))

module _ (Q : List Kind) (ts : List (List ℕ)) where
  values_are : (S : List Match) → values_of (placed ts S) ≡ records_of S
  values_are [] = refl
  values_are (s ∷ S) = rw (values_are S)

  reached_are : (budget : ℕ) (S : List Match) → ((s : Match) → Mem s S → s.choices ≡ choices Q s.values)
      → reached budget (placed ts S) ≡ within budget (places Q ts (records_of S))
  reached_are budget [] h = refl
  reached_are budget (s ∷ S) h = rw (h s (inl refl), reached_are budget S (λ u m. h u (inr m)))

  tries_are : (n : ℕ) (S : List Match) → ((s : Match) → Mem s S → s.choices ≡ choices Q s.values) → tries_at (placed ts S) n ≡ get_or (places Q ts (records_of S)) n 0
  tries_are n [] h = refl
  tries_are zero (s ∷ S) h = rw (h s (inl refl))
  tries_are (suc n) (s ∷ S) h = tries_are n S (λ u m. h u (inr m))

  answer_is : (budget room : ℕ) (S : List Match) → ((s : Match) → Mem s S → s.choices ≡ choices Q s.values)
      → answer (placed ts S) (length ts) budget room ≡ answer_of Q (records_of S) ts budget (at_most room)
  answer_is budget room S h = rw (values_are S, reached_are budget S h, tries_are room S h)

-- the walk's answer, as the lister takes it
abbrev pub outcome : Res → Outcome
outcome W.fail = fail
outcome (W.need B s lo hi) = need lo (suc hi - lo)
outcome (ok B cs) = done (numbers B)

module _ (Allowed : ℕ → Value → Type 0) (allowed? : (x : ℕ) (v : Value) → Dec (Allowed x v)) {Q : List Kind} {P : Pattern} (g : Numbered P Q) (T : Term) where
  abbrev pub walked : List ℕ → Outcome
  walked cs = outcome (walk Allowed allowed? P T cs)

  pub is_honest : (q : List ℕ) (x : ℕ) → (walked (snoc q x) ≡ fail → ⊥) → Within x (walked q)
  is_honest q x h = go (walk Allowed allowed? P T q) (λ n. h (ap outcome (honest Allowed allowed? x P T q n)))
    where
      range : (lo hi : ℕ) → Dec (lo ≤ x) → Dec (x ≤ hi) → (((lo ≤ x) × (x ≤ hi) → ⊥) → ⊥) → (lo ≤ x) × (x < lo + (suc hi - lo))
      range lo hi (yes a) (yes b) k = omega arith
      range lo hi (yes a) (no b) k = absurd (k (λ p. b p.1))
      range lo hi (no a) b k = absurd (k (λ p. a p.0))

      go : (r : Res) → ((Asked Allowed allowed? x r → ⊥) → ⊥) → Within x (outcome r)
      go W.fail k = k (λ a. a)
      go (W.need B s lo hi) k = range lo hi (dec_le lo x) (dec_le x hi) k
      go (ok B cs) k = k (λ a. a)

  pub is_tame : Tame walked (count Q) (size T) (length Q + length Q)
  is_tame = record { asks = λ v lo n e. asks v lo n (walk Allowed allowed? P T v) refl e; wide = λ v r e. wide v r (walk Allowed allowed? P T v) refl e }
    where
      asks : (v : List ℕ) (lo n : ℕ) (r : Res) → walk Allowed allowed? P T v ≡ r → outcome r ≡ need lo n → (length v < count Q) × (lo + n ≤ size T)
      asks v lo n W.fail h e = let z : ◌≡◌ {A = ℕ} 0 1 = cc in absurd (omega arith)
      asks v lo n (W.need B s l m) h e =
          let t = tame_need Allowed allowed? T v g h in
          let a : l ≡ lo = cc in
          let b : suc m - l ≡ n = cc in
          (t.0, omega arith)
      asks v lo n (ok B cs) h e = let z : ◌≡◌ {A = ℕ} 0 1 = cc in absurd (omega arith)

      wide : (v r : List ℕ) (a : Res) → walk Allowed allowed? P T v ≡ a → outcome a ≡ done r → length r ≡ length Q + length Q
      wide v r W.fail h e = let z : ◌≡◌ {A = ℕ} 0 1 = cc in absurd (omega arith)
      wide v r (W.need B s l m) h e = let z : ◌≡◌ {A = ℕ} 0 1 = cc in absurd (omega arith)
      wide v r (ok B cs) h e = let z : numbers B ≡ r = cc in rw (sym z) (tame_ok Allowed allowed? T v g h).1

  stops : (v : List ℕ) (x : ℕ) → count Q ≤ length v → Within x (walked v) → ⊥
  stops v x h w = go (walk Allowed allowed? P T v) refl w
    where
      go : (r : Res) → walk Allowed allowed? P T v ≡ r → Within x (outcome r) → ⊥
      go W.fail e k = k
      go (W.need B s lo hi) e k = omega (arith, (tame_need Allowed allowed? T v g e).0)
      go (ok B cs) e k = k

  -- tries and matches of the walk are those of the meaning
  try_is : (v : List ℕ) → IsTry walked v ↔ Try Allowed Q P T v
  try_is v = (to, from)
    where
      to : IsTry walked v → Try Allowed Q P T v
      to h = let p = try_plain walked v h in go p.0 p.1 p.2 (walk Allowed allowed? P T p.0) refl p.3
        where
          go : (q : List ℕ) (x : ℕ) → v ≡ snoc q x → (r : Res) → walk Allowed allowed? P T q ≡ r → Within x (outcome r) → Try Allowed Q P T v
          go q x e W.fail h w = absurd w
          go q x e (W.need B s lo hi) h w =
              let a = asked_reached Allowed allowed? {T = T} {cs = q} g h in
              let t = tame_need Allowed allowed? T q g h in
              record { so_far = values B; lo = lo; hi = hi; reached = a.0; value = x; low = w.0; high = omega (arith, t.1, w.1); is = e ∙ ap (λ (l : List ℕ). snoc l x) a.1 }
          go q x e (ok B cs) h w = absurd w

      from : Try Allowed Q P T v → IsTry walked v
      from t =
          let a = reached_asked Allowed allowed? g t.reached in
          let w : Within t.value (walked (choices (kinds t.so_far) (record_of P t.so_far))) = rw a.1.1 (t.low, omega (arith, t.low, t.high)) in
          rw t.is (plain_try walked is_honest (choices (kinds t.so_far) (record_of P t.so_far)) t.value w)

  match_is : (s : Match) → IsMatch walked s ↔ Matcher Allowed Q P T s
  match_is s = (λ h. to (walk Allowed allowed? P T s.choices) refl h.1, from)
    where
      to : (r : Res) → walk Allowed allowed? P T s.choices ≡ r → outcome r ≡ done s.values → Matcher Allowed Q P T s
      to W.fail h e = let z : ◌≡◌ {A = ℕ} 0 1 = cc in absurd (omega arith)
      to (W.need B s lo hi) h e = let z : ◌≡◌ {A = ℕ} 0 1 = cc in absurd (omega arith)
      to (ok B cs) h e =
          let f = walk_sound Allowed allowed? {T = T} {cs = s.choices} g h in
          let n : numbers B ≡ s.values = cc in
          record { matcher = values B; solves = f.solves; chose = f.chose ∙ ap (λ (r : List ℕ). choices Q r) f.records; records = sym n ∙ f.records }

      from : Matcher Allowed Q P T s → IsMatch walked s
      from m =
          let c = complete Allowed allowed? g m.solves in
          plain_match walked is_honest s (ap walked m.chose ∙ ap outcome c.0 ∙ ap done (sym m.records))

  record_is : {r : List ℕ} → IsRecord Allowed Q P T r → IsMatch walked (record { choices = choices Q r; values = r })
  record_is {r} i =
      (match_is (record { choices = choices Q r; values = r })).1
      (record { matcher = i.matcher; solves = i.solves; chose = ap (λ (q : List ℕ). choices Q q) (sym i.its); records = sym i.its })

  -- the last try that leads to a matcher has all its choices; where a matcher has none, nothing is tried
  pub last_try : {r : List ℕ} → IsRecord Allowed Q P T r → (choices Q r ≡ [] → ⊥) → Try Allowed Q P T (choices Q r)
  last_try {r} i n = (try_is (choices Q r)).0 (some (choices Q r) n, (record_is i).0)
    where
      some : (v : List ℕ) → (v ≡ [] → ⊥) → Some v
      some [] n = n refl
      some (x ∷ v) n = tt

  pub untried : {r v : List ℕ} → IsRecord Allowed Q P T r → choices Q r ≡ [] → Try Allowed Q P T v → ⊥
  untried {r} {v} i e t = let h = (try_is v).1 t in go v h.0 h.1
    where
      go : (v : List ℕ) → Some v → Leads walked [] v → ⊥
      go [] s l = s
      go (x ∷ v) s l = rw (sym (ap walked e) ∙ (record_is i).1) at l.0

  -- the events of the walk
  abbrev pub all : List Event
  all = events walked (count Q) []

  its_matcher : (s : Match) → Mem s (matches_of all) → Matcher Allowed Q P T s
  its_matcher s m = (match_is s).0 ((all_matched walked (count Q) stops s).0 m)

  pub all_solutions : Solutions Allowed Q P T (records_of (matches_of all))
  all_solutions =
      record {
        ordered =
            records_ascending (λ r s. seconds r ⊏ seconds s) (matches_of all) (matches_ascending all (ascending walked (count Q) []))
            (λ s u m n h.
            let x = its_matcher s m in
            let y = its_matcher u n in
            rw (x.records, y.records) (order Allowed allowed? g x.solves y.solves (rw (x.chose, y.chose) at h)));
        all = λ r. (
          λ m.
              let k = in_records (matches_of all) r m in
              let x = its_matcher k.0 k.1 in
              record { matcher = x.matcher; solves = x.solves; its = sym x.records ∙ k.2 },
          λ i.
              let s : Match = record { choices = choices Q r; values = r } in
              of_records (matches_of all) s ((all_matched walked (count Q) stops s).1 (record_is i)),
        );
      }

  -- they are in the order of their choices too
  pub all_chosen : Ascending (λ r s. choices Q r ⊏ choices Q s) (records_of (matches_of all))
  all_chosen =
      records_ascending (λ r s. choices Q r ⊏ choices Q s) (matches_of all) (matches_ascending all (ascending walked (count Q) []))
      (λ s u m n h.
      let x = its_matcher s m in
      let y = its_matcher u n in
      rw (x.records, y.records, ← x.chose, ← y.chose) h)

  pub all_tries : Tries Allowed Q P T (tries_of all)
  all_tries =
      record {
        ordered = tries_ascending all (ascending walked (count Q) []);
        all = λ v. (λ m. (try_is v).0 ((all_tried walked (count Q) stops v).0 m), λ h. (all_tried walked (count Q) stops v).1 ((try_is v).1 h));
      }

  -- the event of a matcher
  pub record_event : {r : List ℕ} → IsRecord Allowed Q P T r → Mem (matched (choices Q r) r) all
  record_event {r} i = in_matches all (record { choices = choices Q r; values = r }) ((all_matched walked (count Q) stops _).1 (record_is i))

  -- what is run from some of the events is answered by their tries and matches
  pub run_is : (es : List Event) (budget room : ℕ) → Ascending ◌≪◌ es → ((s : Match) → Mem s (matches_of es) → Mem s (matches_of all))
      → run es budget room ≡ answer_of Q (records_of (matches_of es)) (tries_of es) budget (at_most room)
  run_is es budget room a part =
      run_answer es budget room a
      ∙ answer_is Q (tries_of es) budget room (matches_of es) (λ s m. let x = its_matcher s (part s m) in x.chose ∙ ap (λ (q : List ℕ). choices Q q) (sym x.records))

  -- the events of the walk give what is meant
  pub meant : (budget room : ℕ) → Meant Allowed Q P T budget (at_most room) (run all budget room)
  meant budget room =
      record {
        solutions = records_of (matches_of all);
        tries = tries_of all;
        solutions_are = all_solutions;
        tries_are = all_tries;
        result = run_is all budget room (ascending walked (count Q) []) (λ s m. m);
      }
