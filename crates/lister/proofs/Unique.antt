-- The promises settle the answers of the list and of a page, and the lent list afterwards.
use Prim.Native.Nat.{ℕ}
use mathlib.Core.Path.{◌≡◌, refl, ap, ◌∙◌, sym}
use mathlib.Core.Logic.{inl, inr}
use mathlib.Core.Bool.{cond}
use mathlib.Core.List.{List}
use lib.Dec.{eqb}
use native.Mathlib.Omega.{arith}
use native.Mathlib.Decide.{ℕ_discrete}
use Rattle.std.specs.Prelude.{Result, Ok, Err}
use Rattle.meaning.specs.Calls.{accept}
use Rattle.meaning.specs.Ending.{number}
use Rattle.meaning.specs.declared.endings.Ending.{Ending}
use Rattle.meaning.specs.declared.endings.Ending.TheVariants.{All, Room, Budget}
use Rattle.meaning.specs.declared.refusal.Refusal.{Refusal}
use Rattle.meaning.specs.Record.{IsRecord}
use Rattle.constraint.specs.Obeys.{Allowed}
use Rattle.meaning.proofs.Refusals.{code_some, one_refusal}
use Rattle.meaning.proofs.OneCode.{one_refuse, one_accept}
use Rattle.problem.specs.Problem.{Lists}
use Rattle.problem.proofs.Posed.{Posed, posed, posed_then, one_codes}
use Rattle.search.specs.declared.Found.{Found}
use Rattle.catalogue.proofs.Facts.{one_shown, one_answer}
use Rattle.catalogue.proofs.Pages.{one_page}
use Rattle.lister.specs.Listed.{Listed, told, Settled}
use Rattle.lister.specs.Page.{RecordCodes, PageCodes, PageSettled}

-- the ending of a number
abbrev of_number : ℕ → Ending
of_number n = cond (eqb n 0) All (cond (eqb n 1) Room Budget)

of_its_number : (a : Ending) → of_number (number a) ≡ a
of_its_number All = refl
of_its_number Room = refl
of_its_number Budget = refl

one_ending : (a b : Ending) → number a ≡ number b → a ≡ b
one_ending a b e = sym (of_its_number a) ∙ ap of_number e ∙ of_its_number b

-- no two answers have the same numbers
pub one_told : (r s : Result Found Refusal) → told r ≡ told s → r ≡ s
one_told (Ok f) (Ok g) e =
    let same : f.ending ≡ g.ending = one_ending f.ending g.ending (ap (λ (l : Listed). l.ending) e) in
    ap Ok (λ i. record { ending = same i; records = (e i).records; tries = (e i).tries })
one_told (Ok f) (Err d) e = absurd (code_some d (sym (ap (λ (l : Listed). l.code) e)))
one_told (Err d) (Ok g) e = absurd (code_some d (ap (λ (l : Listed). l.code) e))
one_told (Err d) (Err k) e = ap Err (one_refusal d k (ap (λ (l : Listed). l.code) e))

pub record Same (r s : Listed) (v w : List ℕ) : Type 0 where
  pub code : r.code ≡ s.code
  pub ending : r.ending ≡ s.ending
  pub records : r.records ≡ s.records
  pub tries : r.tries ≡ s.tries
  pub out : v ≡ w

-- equal in each number is equal
pub are_one : {r s : Listed} {v w : List ℕ} → Same r s v w → (r ≡ s) × (v ≡ w)
are_one o = (λ i. record { code = o.code i; ending = o.ending i; records = o.records i; tries = o.tries i }, o.out)

-- answers with one code are the same if they are where it is 0: a refusal has nothing in it
same : (before : List ℕ) (r s : Listed) (v w : List ℕ) → r.code ≡ s.code → (r.code ≡ 0 → (r.ending ≡ s.ending) × (r.records ≡ s.records) × (r.tries ≡ s.tries) × (v ≡ w))
    → ((r.code ≡ 0 → ⊥) → (r.ending ≡ 0) × (r.records ≡ 0) × (r.tries ≡ 0) × (v ≡ before)) → ((s.code ≡ 0 → ⊥) → (s.ending ≡ 0) × (s.records ≡ 0) × (s.tries ≡ 0) × (w ≡ before))
    → Same r s v w
same before r s v w c shown a b = go (ℕ_discrete r.code 0)
  where
    go : Dec (r.code ≡ 0) → Same r s v w
    go (yes e) = let o = shown e in record { code = c; ending = o.0; records = o.1; tries = o.2; out = o.3 }
    go (no n) =
        let x = a n in
        let y = b (λ e. n (c ∙ e)) in
        record { code = c; ending = x.0 ∙ sym y.0; records = x.1 ∙ sym y.1; tries = x.2 ∙ sym y.2; out = x.3 ∙ sym y.3 }

pub one_page_code : (l : Lists) (list : List ℕ) (a b : ℕ) → PageCodes l list a → PageCodes l list b → a ≡ b
one_page_code l list = one_codes l (RecordCodes l list) (λ i j. one_refuse 15 _ _ i j (λ i j. one_refuse 20 _ _ i j one_accept))

-- where no code is given, the record is that of a matcher of the problem
pub page_posed : (l : Lists) (list : List ℕ) (c : ℕ) → c ≡ 0 → PageCodes l list c → (p : Posed l) × IsRecord (Allowed p.cs) p.Q p.P p.T list
page_posed l list c z h = go (posed_then l (RecordCodes l list) c z h).1
  where
    go : RecordCodes l list c → (p : Posed l) × IsRecord (Allowed p.cs) p.Q p.P p.T list
    go (inl a) = absurd (omega (arith, a.1))
    go (inr (g, inl a)) = absurd (omega (arith, a.1))
    go (inr (g, inr (m, o))) = (record { T = m.0; P = m.1; Q = m.2; es = m.3; cs = m.4; poses = m.5 }, m.6)

module _ {l : Lists} {budget : ℕ} {before : List ℕ} {r s : Listed} {v w : List ℕ} where
  pub one_listed : Settled l budget before r v → Settled l budget before s w → Same r s v w
  one_listed a b =
      let c = one_codes l accept one_accept r.code s.code a.code b.code in
      same before r s v w c
      (λ e.
      let p = posed l accept r.code e a.code in
      one_shown (λ x y. one_answer) (a.listed e p.T p.P p.Q p.es p.cs p.poses) (b.listed (sym c ∙ e) p.T p.P p.Q p.es p.cs p.poses))
      a.refused b.refused

  pub one_paged : {list : List ℕ} → PageSettled l list budget before r v → PageSettled l list budget before s w → Same r s v w
  one_paged {list} a b =
      let c = one_page_code l list r.code s.code a.code b.code in
      same before r s v w c
      (λ e.
      let p = posed l (RecordCodes l list) r.code e a.code in
      one_shown (λ x y. one_page) (a.listed e p.T p.P p.Q p.es p.cs p.poses) (b.listed (sym c ∙ e) p.T p.P p.Q p.es p.cs p.poses))
      a.refused b.refused

-- the answer itself, and not only its numbers
told_one : {r s : Result Found Refusal} {v w : List ℕ} → Same (told r) (told s) v w → (r ≡ s) × (v ≡ w)
told_one {r} {s} o = let e = are_one o in (one_told r s e.0, e.1)

module _ {l : Lists} {budget : ℕ} {before : List ℕ} {r s : Result Found Refusal} {v w : List ℕ} where
  pub one_list : Settled l budget before (told r) v → Settled l budget before (told s) w → (r ≡ s) × (v ≡ w)
  one_list a b = told_one (one_listed a b)

  pub one_list_after : {list : List ℕ} → PageSettled l list budget before (told r) v → PageSettled l list budget before (told s) w → (r ≡ s) × (v ≡ w)
  one_list_after a b = told_one (one_paged a b)
