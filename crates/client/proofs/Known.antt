-- What a client learns from a list that keeps the lister's promise.
use Prim.Native.Nat.{ℕ, zero, suc, ◌+◌, ◌≤◌, ◌<◌}
use mathlib.Core.Path.{◌≡◌, refl, ap, ◌∙◌, sym, subst}
use mathlib.Core.List.{List, [], ◌∷◌}
use lib.ListN.{length, take}
use native.Mathlib.Nat.{div_self}
use native.Mathlib.Omega.{arith}
use Rattle.meaning.specs.Forest.{Term}
use Rattle.meaning.specs.Pattern.{Pattern, Kind}
use Rattle.meaning.specs.Matcher.{Value, Solves}
use Rattle.meaning.specs.Record.{record_of, IsRecord}
use Rattle.meaning.specs.Order.{choices, Mem}
use Rattle.catalogue.specs.Listing.{Tries, Meant, Listing}
use Rattle.catalogue.specs.Answer.{Result, places, within, at_most, room_of}
use Rattle.catalogue.proofs.Facts.{one_answer}
use Rattle.client.specs.Solvable.{Found, Absent, Unknown}
use Rattle.client.specs.Promises.{ForOne}
use Rattle.client.proofs.Ways.{place_few, Soon, soon_within, within_soon, within_all, Way, full, spent, done, ways}

-- of a list with an element the first ones are some
first_ones : (k : ℕ) (rs : List (List ℕ)) (r : List ℕ) → Mem r rs → 0 < k → length (take k rs) ≡ 0 → ⊥
first_ones zero rs r i h e = omega arith
first_ones (suc k) [] r i h e = i
first_ones (suc k) (a ∷ rs) r i h e = omega arith

some_taken : (k : ℕ) (rs : List (List ℕ)) → (length (take k rs) ≡ 0 → ⊥) → 0 < k
some_taken zero rs h = absurd (h refl)
some_taken (suc k) rs h = omega arith

-- a list of twice the variables has room for one record
pub for_one : (v : ℕ) → ForOne (v + v) v
for_one zero = tt
for_one (suc v) = ap at_most (div_self {n = suc v + suc v} (omega arith))

not_full : (lent v : ℕ) → ForOne lent v → room_of lent v ≡ at_most 0 → ⊥
not_full lent zero o e = let z : ◌≡◌ {A = ℕ} 0 1 = cc in omega arith
not_full lent (suc v) o e = let z : ◌≡◌ {A = ℕ} 0 1 = cc in omega arith

module _ {Allowed : ℕ → Value → Type 0} {Q : List Kind} {P : Pattern} {T : Term} {budget : ℕ} {before : List ℕ} {ending records tries : ℕ} {after : List ℕ}
    (h : Listing Allowed Q P T budget before ending records tries after) where
  abbrev m : Meant Allowed Q P T budget (room_of (length before) (length Q)) h.result
  m = h.meant

  -- the way the list ended, by any list of all tries
  pub way : (ts : List (List ℕ)) → Tries Allowed Q P T ts → Way Q ts budget m.solutions (room_of (length before) (length Q)) h.result
  way ts u =
      subst (λ (x : Result). Way Q ts budget m.solutions (room_of (length before) (length Q)) x)
      (one_answer (record { solutions = m.solutions; tries = ts; solutions_are = m.solutions_are; tries_are = u; result = refl }) m)
      (ways Q ts budget m.solutions (room_of (length before) (length Q)))

  pub found : (records ≡ 0 → ⊥) → Found Allowed Q P T budget
  found z = reached (soon_within Q m.tries budget m.solutions (go (way m.tries m.tries_are)))
    where
      go : Way Q m.tries budget m.solutions (room_of (length before) (length Q)) h.result → 0 < within budget (places Q m.tries m.solutions)
      go (full n e w d f) = omega arith
      go (spent b d f) = some_taken _ m.solutions (λ e. z (h.counts ∙ ap length d ∙ e))
      go (done b d f g) =
          let e : records ≡ length m.solutions = h.counts ∙ ap length d in
          omega (arith, within_all Q m.tries budget m.solutions b)

      reached : Soon Q m.tries budget m.solutions → Found Allowed Q P T budget
      reached s =
          let i = (m.solutions_are.all s.it).0 s.listed in
          record { matcher = i.matcher; solves = i.solves; tries = m.tries; tries_are = m.tries_are; reached = rw i.its s.soon }

  pub unknown : records ≡ 0 → ending ≡ 2 → Unknown Allowed Q P T budget
  unknown z t = record { more = λ ts u. more ts (way ts u); not_found = λ f. none f (way f.tries f.tries_are) }
    where
      two : h.result.ending ≡ 2
      two = sym h.ends ∙ t

      more : (ts : List (List ℕ)) → Way Q ts budget m.solutions (room_of (length before) (length Q)) h.result → budget < length ts
      more ts (full n e w d f) = absurd (omega (arith, two))
      more ts (spent b d f) = b
      more ts (done b d f g) = absurd (omega (arith, two))

      none : (f : Found Allowed Q P T budget) → Way Q f.tries budget m.solutions (room_of (length before) (length Q)) h.result → ⊥
      none f (full n e w d g) = omega (arith, two)
      none f (done b d g k) = omega (arith, two)
      none f (spent b d g) =
          let i : IsRecord Allowed Q P T (record_of P f.matcher) = record { matcher = f.matcher; solves = f.solves; its = refl } in
          let l = (m.solutions_are.all (record_of P f.matcher)).1 i in
          let s = within_soon Q f.tries budget m.solutions (record_of P f.matcher) l f.reached in
          first_ones _ m.solutions (record_of P f.matcher) l s (sym (ap length d) ∙ sym h.counts ∙ z)

  -- a complete list without a record
  pub absent : records ≡ 0 → ending ≡ 0 → Absent Allowed Q P T budget
  absent z t = go (way m.tries m.tries_are)
    where
      nought : h.result.ending ≡ 0
      nought = sym h.ends ∙ t

      none : length m.tries ≤ budget → records ≡ length m.solutions → (σ : List Value) → Solves Allowed Q σ P T → ⊥
      none b e σ s =
          let l = (m.solutions_are.all (record_of P σ)).1 (record { matcher = σ; solves = s; its = refl }) in
          let k = place_few m.tries (choices Q (record_of P σ)) in
          omega (arith, within_soon Q m.tries budget m.solutions (record_of P σ) l (omega arith), within_all Q m.tries budget m.solutions b)

      go : Way Q m.tries budget m.solutions (room_of (length before) (length Q)) h.result → Absent Allowed Q P T budget
      go (full n e w d f) = absurd (omega (arith, nought))
      go (spent b d f) = absurd (omega (arith, nought))
      go (done b d f g) = record { none = none b (h.counts ∙ ap length d); tries = m.tries; tries_are = m.tries_are; enough = b }

  -- with room for one, a list without a record was not cut by room
  pub complete : ForOne (length before) (length Q) → records ≡ 0 → (ending ≡ 2 → ⊥) → ending ≡ 0
  complete o z t = go (way m.tries m.tries_are)
    where
      go : Way Q m.tries budget m.solutions (room_of (length before) (length Q)) h.result → ending ≡ 0
      go (full zero e w d f) = absurd (not_full (length before) (length Q) o e)
      go (full (suc n) e w d f) =
          let s = soon_within Q m.tries budget m.solutions (omega arith) in
          absurd (first_ones (suc n) m.solutions s.it s.listed (omega arith) (sym (ap length d) ∙ sym h.counts ∙ z))
      go (spent b d f) = absurd (t (h.ends ∙ f))
      go (done b d f g) = h.ends ∙ f
