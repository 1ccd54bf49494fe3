-- The promise settles a panel's code and both lent lists; and a problem's answer is what a call of its own gives, whoever makes it.
use Prim.Native.Nat.{ℕ, zero, suc, ◌+◌, ◌*◌, ◌<◌}
use mathlib.Core.Path.{◌≡◌, refl, ap, ◌∙◌, sym}
use mathlib.Core.Logic.{inl, inr}
use mathlib.Core.List.{List, [], ◌∷◌, ◌++◌}
use lib.ListN.{length, get_or}
use lib.Seq.{ext_get_or}
use native.Mathlib.Omega.{arith}
use native.Mathlib.Decide.{ℕ_discrete}
use Rattle.std.specs.Prelude.{Result, Ok, Err}
use Rattle.meaning.specs.Calls.{refuse, accept}
use Rattle.meaning.specs.declared.refusal.Refusal.{Refusal}
use Rattle.meaning.proofs.OneCode.{one_refuse, one_accept}
use Rattle.meaning.proofs.Refusals.{code_some, one_refusal}
use Rattle.catalogue.specs.Listing.{joined}
use Rattle.lister.specs.Listed.{Listed, Settled}
use Rattle.lister.proofs.Unique.{one_listed, are_one}
use Rattle.panel.specs.Parts.{sum, part, first_parts}
use Rattle.panel.specs.Panel.{Panel, told, problems, problem, answer_at, ListsAgree, LengthsAddUp, PanelSettled}
use Rattle.panel.proofs.Parts.{parts_joined}

-- lists whose parts are the same are the same
same_parts : (k : ℕ) (lengths xs ys : List ℕ) → ((i : ℕ) → i < k → part i lengths xs ≡ part i lengths ys) → first_parts k lengths xs ≡ first_parts k lengths ys
unfolding first_parts
same_parts zero lengths xs ys e = refl
same_parts (suc k) lengths xs ys e =
    ap (λ (ps : List (List ℕ)). ps ++ (part k lengths xs ∷ [])) (same_parts k lengths xs ys (λ i h. e i (omega arith)))
    ∙ ap (λ (l : List ℕ). first_parts k lengths ys ++ (l ∷ [])) (e k (omega arith))

pub by_parts : (lengths xs ys : List ℕ) → sum lengths ≡ length xs → sum lengths ≡ length ys → ((i : ℕ) → i < length lengths → part i lengths xs ≡ part i lengths ys) → xs ≡ ys
by_parts lengths xs ys a b e = sym (parts_joined lengths xs a) ∙ ap joined (same_parts (length lengths) lengths xs ys e) ∙ parts_joined lengths ys b

-- each place in the list of answers is one of the four of an answer
data Place (k : ℕ) : Type 0 where
  code : (i : ℕ) → k ≡ i * 4 → Place k
  ending : (i : ℕ) → k ≡ i * 4 + 1 → Place k
  records : (i : ℕ) → k ≡ i * 4 + 2 → Place k
  tries : (i : ℕ) → k ≡ i * 4 + 3 → Place k

next_place : {k : ℕ} → Place k → Place (suc k)
next_place (code i e) = ending i (omega arith)
next_place (ending i e) = records i (omega arith)
next_place (records i e) = tries i (omega arith)
next_place (tries i e) = code (i + 1) (omega arith)

place : (k : ℕ) → Place k
place zero = code 0 (omega arith)
place (suc k) = next_place (place k)

-- .. so lists of answers whose answers are the same are the same
by_answers : (n : ℕ) (xs ys : List ℕ) → length xs ≡ n * 4 → length ys ≡ n * 4 → ((i : ℕ) → i < n → answer_at i xs ≡ answer_at i ys) → xs ≡ ys
by_answers n xs ys a b e = ext_get_or 0 xs ys (a ∙ sym b) (λ k h. at k (place k) (omega arith))
  where
    at : (k : ℕ) → Place k → k < n * 4 → get_or xs k 0 ≡ get_or ys k 0
    at k (code i z) h = rw z (ap (λ (r : Listed). r.code) (e i (omega arith)))
    at k (ending i z) h = rw z (ap (λ (r : Listed). r.ending) (e i (omega arith)))
    at k (records i z) h = rw z (ap (λ (r : Listed). r.records) (e i (omega arith)))
    at k (tries i z) h = rw z (ap (λ (r : Listed). r.tries) (e i (omega arith)))

-- 21 is given exactly where a rule is broken; where none is, the lists agree and add up
pub adds_up : {p : Panel} {out answer out' answer' : List ℕ} {r : ℕ} → PanelSettled p out answer r out' answer' → r ≡ 0 → ListsAgree p (length answer) × LengthsAddUp p (length out)
adds_up {p} {out} {answer} {r = r} s z = go s.code
  where
    go : refuse 21 (ListsAgree p (length answer) × LengthsAddUp p (length out)) accept r → ListsAgree p (length answer) × LengthsAddUp p (length out)
    go (inl a) = absurd (omega (arith, a.1))
    go (inr a) = a.0

-- a call of its own, whoever makes it, answers as the panel does
pub as_alone : {p : Panel} {out answer out' answer' : List ℕ} {r : ℕ} → PanelSettled p out answer r out' answer' → r ≡ 0 → (i : ℕ) → i < problems p → {x : Listed} {after : List ℕ}
    → Settled (problem p i) (get_or p.budget i 0) (part i p.share out) x after → (x ≡ answer_at i answer') × (after ≡ part i p.share out')
as_alone s z i h alone = are_one (one_listed alone (s.each z i h))

module _ {p : Panel} {out answer : List ℕ} {r r' : ℕ} {out₁ answer₁ out₂ answer₂ : List ℕ} (s : PanelSettled p out answer r out₁ answer₁) (t : PanelSettled p out answer r' out₂ answer₂) where
  one_code : r ≡ r'
  one_code = one_refuse 21 _ _ r r' one_accept s.code t.code

  pub one_panel : (r ≡ r') × (out₁ ≡ out₂) × (answer₁ ≡ answer₂)
  one_panel = go (ℕ_discrete r 0)
    where
      go : Dec (r ≡ 0) → (r ≡ r') × (out₁ ≡ out₂) × (answer₁ ≡ answer₂)
      go (yes z) =
          let a = adds_up s z in
          let z' : r' ≡ 0 = sym one_code ∙ z in (
            one_code,
            by_parts p.share out₁ out₂ (a.1.out ∙ sym s.long.0) (a.1.out ∙ sym t.long.0) (λ i h. (as_alone t z' i h (s.each z i h)).1),
            by_answers (problems p) answer₁ answer₂ (s.long.1 ∙ a.0.answers) (t.long.1 ∙ a.0.answers) (λ i h. (as_alone t z' i h (s.each z i h)).0),
          )
      go (no n) =
          let x = s.refused n in
          let y = t.refused (λ e. n (one_code ∙ e)) in
          (one_code, x.0 ∙ sym y.0, x.1 ∙ sym y.1)

-- no two answers have one code
pub one_told : (r s : Result (Unit {0}) Refusal) → told r ≡ told s → r ≡ s
one_told (Ok x) (Ok y) e = refl
one_told (Ok x) (Err d) e = absurd (code_some d (sym e))
one_told (Err d) (Ok y) e = absurd (code_some d e)
one_told (Err d) (Err k) e = ap Err (one_refusal d k e)

-- the answer itself, and not only its code
pub one_panel_answer : {p : Panel} {out answer out₁ answer₁ out₂ answer₂ : List ℕ} {r s : Result (Unit {0}) Refusal} → PanelSettled p out answer (told r) out₁ answer₁ → PanelSettled p out answer (told s) out₂ answer₂
    → (r ≡ s) × (out₁ ≡ out₂) × (answer₁ ≡ answer₂)
one_panel_answer {r = r} {s = s} a b = let o = one_panel a b in (one_told r s o.0, o.1, o.2)
