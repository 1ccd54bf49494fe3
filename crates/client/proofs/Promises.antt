-- The client's promises hold, by the lister's contract alone.
use Prim.Native.Nat.{ℕ, ◌≤◌}
use mathlib.Core.Path.{◌≡◌, refl, ap, ◌∙◌, sym}
use mathlib.Core.Logic.{◌↔◌}
use mathlib.Core.List.{List, [], ◌∷◌}
use lib.ListN.{length}
use native.Mathlib.Omega.{arith}
use Rattle.std.specs.Prelude.{Result, Ok, Err}
use Rattle.meaning.specs.Forest.{Term}
use Rattle.meaning.specs.Pattern.{Pattern, Kind, Numbered}
use Rattle.meaning.specs.Matcher.{Value, Solves}
use Rattle.meaning.specs.Calls.{accept}
use Rattle.meaning.specs.declared.refusal.Refusal.{Refusal}
use Rattle.meaning.proofs.OneCode.{one_accept}
use Rattle.meaning.proofs.Refusals.{code_some, one_refusal}
use Rattle.constraint.specs.Obeys.{Constraint, Allowed}
use Rattle.constraint.proofs.Allowed.{allowed?}
use Rattle.problem.specs.Problem.{Lists}
use Rattle.problem.proofs.Posed.{Posed, posed, codes_high, one_codes}
use Rattle.catalogue.specs.Listing.{Solutions, Listing}
use Rattle.catalogue.specs.Answer.{at_most, room_of}
use Rattle.catalogue.proofs.Facts.{at_most_one}
use Rattle.client.specs.Solvable.{Answer, Refused, Yes, No, Open, answer, told, code_of, Settled}
use Rattle.client.specs.Promises.{ForOne, RoomForOne, OneAnswer, Decides, DecidesTold, Client}
use Rattle.client.specs.declared.HasMatcher.{HasMatcher}
use Rattle.client.specs.declared.HasMatcher.TheVariants as HasMatcher
use Rattle.client.proofs.Ways.{Way, full, spent, done}
use Rattle.client.proofs.Known.{way, found, absent}

-- room for one is room for all solutions of a complete list
few : {P : Pattern} {T : Term} (cs : List Constraint) {rs : List (List ℕ)} (lent : ℕ) (Q : List Kind) → Numbered P Q → Solutions (Allowed cs) Q P T rs → ForOne lent (length Q)
    → ((n : ℕ) → room_of lent (length Q) ≡ at_most n → length rs ≤ n) → length rs ≤ 1
few cs lent [] g s o h = at_most_one (allowed? cs) g s
few cs lent (k ∷ Q) g s o h = h 1 o

room_for_one : RoomForOne
room_for_one l budget before after r T P Q es cs s e w o z =
    let h = s.listed e T P Q es cs w in
    record {
      has = (λ n. let f = found h n in (f.matcher, f.solves), λ p n. (absent h n z).none p.0 p.1);
      one = one h (way h h.meant.tries h.meant.tries_are);
    }
  where
    one : (h : Listing (Allowed cs) Q P T budget before r.ending r.records r.tries after)
        → Way Q h.meant.tries budget h.meant.solutions (room_of (length before) (length Q)) h.result → r.records ≤ 1
    one h (full n u v d f) = absurd (omega (arith, sym f ∙ sym h.ends ∙ z))
    one h (spent b d f) = absurd (omega (arith, sym f ∙ sym h.ends ∙ z))
    one h (done b d f g) = omega (arith, few cs (length before) Q w.rest.pattern.numbered h.meant.solutions_are o g, h.counts, ap length d)

module _ (l : Lists) (budget : ℕ) where
  one_code : (r s : Answer) → Settled l budget r → Settled l budget s → code_of r ≡ code_of s
  one_code r s a b = one_codes l accept one_accept (code_of r) (code_of s) a.code b.code

  -- a refusal is no other answer
  never : {A : Type 0} (c : ℕ) → Settled l budget (Refused c) → c ≡ 0 → A
  never c a e = let w = posed l accept c e a.code in absurd (a.answered e w.T w.P w.Q w.es w.cs w.poses)

  yes_and_no : {A : Type 0} → Settled l budget Yes → Settled l budget No → A
  yes_and_no a b =
      let w = posed l accept 0 refl a.code in
      let f = a.answered refl w.T w.P w.Q w.es w.cs w.poses in
      absurd ((b.answered refl w.T w.P w.Q w.es w.cs w.poses).none f.matcher f.solves)

  yes_and_open : {A : Type 0} → Settled l budget Yes → Settled l budget Open → A
  yes_and_open a b =
      let w = posed l accept 0 refl a.code in
      absurd ((b.answered refl w.T w.P w.Q w.es w.cs w.poses).not_found (a.answered refl w.T w.P w.Q w.es w.cs w.poses))

  no_and_open : {A : Type 0} → Settled l budget No → Settled l budget Open → A
  no_and_open a b =
      let w = posed l accept 0 refl a.code in
      let n = a.answered refl w.T w.P w.Q w.es w.cs w.poses in
      let k = (b.answered refl w.T w.P w.Q w.es w.cs w.poses).more n.tries n.tries_are in
      absurd (omega (arith, n.enough))

  one_of : (r s : Answer) → Settled l budget r → Settled l budget s → r ≡ s
  one_of (Refused c) (Refused d) a b = ap Refused (one_code (Refused c) (Refused d) a b)
  one_of (Refused c) Yes a b = never c a (one_code (Refused c) Yes a b)
  one_of (Refused c) No a b = never c a (one_code (Refused c) No a b)
  one_of (Refused c) Open a b = never c a (one_code (Refused c) Open a b)
  one_of Yes (Refused d) a b = never d b (sym (one_code Yes (Refused d) a b))
  one_of Yes Yes a b = refl
  one_of Yes No a b = yes_and_no a b
  one_of Yes Open a b = yes_and_open a b
  one_of No (Refused d) a b = never d b (sym (one_code No (Refused d) a b))
  one_of No Yes a b = yes_and_no b a
  one_of No No a b = refl
  one_of No Open a b = no_and_open a b
  one_of Open (Refused d) a b = never d b (sym (one_code Open (Refused d) a b))
  one_of Open Yes a b = yes_and_open b a
  one_of Open No a b = no_and_open b a
  one_of Open Open a b = refl

-- WHAT IS TOLD IS OF ONE ANSWER
abbrev of_answer : Answer → HasMatcher
of_answer (Refused c) = HasMatcher.Open
of_answer Yes = HasMatcher.Yes
of_answer No = HasMatcher.No
of_answer Open = HasMatcher.Open

of_its_answer : (a : HasMatcher) → of_answer (answer a) ≡ a
of_its_answer HasMatcher.Yes = refl
of_its_answer HasMatcher.No = refl
of_its_answer HasMatcher.Open = refl

no_code : (a : HasMatcher) → code_of (answer a) ≡ 0
no_code HasMatcher.Yes = refl
no_code HasMatcher.No = refl
no_code HasMatcher.Open = refl

-- no two answers are told alike
pub one_told : (r s : Result HasMatcher Refusal) → told r ≡ told s → r ≡ s
one_told (Ok a) (Ok b) e = ap Ok (sym (of_its_answer a) ∙ ap of_answer e ∙ of_its_answer b)
one_told (Ok a) (Err d) e = absurd (code_some d (sym (ap code_of e) ∙ no_code a))
one_told (Err d) (Ok b) e = absurd (code_some d (ap code_of e ∙ no_code b))
one_told (Err d) (Err k) e = ap Err (one_refusal d k (ap code_of e))

one_answer : OneAnswer
one_answer l budget r s a b = one_told r s (one_of l budget (told r) (told s) a b)

decides_told : DecidesTold
decides_told l budget r T P Q es cs tries s w u h = go r s
  where
    go : (r : Answer) → Settled l budget r → (r ≡ Open → ⊥) × ((r ≡ Yes) ↔ ((σ : List Value) × Solves (Allowed cs) Q σ P T))
    go (Refused c) s = let p : Posed l = record { T = T; P = P; Q = Q; es = es; cs = cs; poses = w } in absurd (s.answered (one_codes l accept one_accept c 0 s.code (codes_high l accept 0 p refl)) T P Q es cs w)
    go Yes s =
        let f = s.answered refl T P Q es cs w in
        (λ e. let z : ◌≡◌ {A = ℕ} 0 1 = cc in omega arith, (λ e. (f.matcher, f.solves), λ p. refl))
    go No s =
        let n = s.answered refl T P Q es cs w in
        (λ e. let z : ◌≡◌ {A = ℕ} 0 1 = cc in omega arith, (λ e. let z : ◌≡◌ {A = ℕ} 0 1 = cc in absurd (omega arith), λ p. absurd (n.none p.0 p.1)))
    go Open s = let k = (s.answered refl T P Q es cs w).more tries u in absurd (omega arith)

decides : Decides
decides l budget r T P Q es cs tries s w u h =
    let d = decides_told l budget (told r) T P Q es cs tries s w u h in
    (λ e. d.0 (ap told e), (λ e. d.1.0 (ap told e), λ p. one_told r (Ok HasMatcher.Yes) (d.1.1 p)))

pub client : Client
client = record { room_for_one = room_for_one; one_answer = one_answer; one_told = one_of; decides = decides; decides_told = decides_told }
