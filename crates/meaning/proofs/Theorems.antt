-- The walk and the matchers: one to one.
use Prim.Native.Nat.{ℕ, ◌≤◌}
use mathlib.Core.Path.{◌≡◌, refl, ap, ◌∙◌}
use mathlib.Core.Path.{sym as flip}
use mathlib.Core.List.{List, [], ◌∷◌, ◌++◌, append-nil}
use lib.ListN.{length}
use native.Mathlib.Omega.{arith}
use Rattle.meaning.specs.Forest.{Term}
use Rattle.meaning.specs.Pattern.{Pattern, Kind, after_t, Numbered}
use Rattle.meaning.specs.Matcher.{Value, kinds, Solves}
use Rattle.meaning.specs.Record.{Entry, numbers, record_of, IsRecord}
use Rattle.meaning.specs.Read.{values, firsts}
use Rattle.meaning.specs.Order.{choices}
use Rattle.meaning.proofs.Walk.{Res, fail, need, ok, walk_t, over, walk}
use Rattle.meaning.proofs.Lists.{look_old, pre_all}
use Rattle.meaning.proofs.Steps.{no_ok, no_need, kinds_length, picked, Inv}
use Rattle.meaning.proofs.Sound.{sound_t}
use Rattle.meaning.proofs.Complete.{complete_t}

over_ok : (r : Res) {B : List Entry} {cs : List ℕ} → over r ≡ ok B cs → (r ≡ ok B []) × (cs ≡ [])
over_ok fail h = no_ok h
over_ok (need B s lo hi) h = no_need B s lo hi h
over_ok (ok B []) h = (cc, cc)
over_ok (ok B (c ∷ cs)) h = no_ok h

module _ (Allowed : ℕ → Value → Type 0) (allowed? : (x : ℕ) (v : Value) → Dec (Allowed x v)) where
  -- what a walk that ends well says
  pub record Found (Q : List Kind) (P : Pattern) (T : Term) (cs : List ℕ) (B : List Entry) (left : List ℕ) : Type 0 where
    pub solves : Solves Allowed Q (values B) P T
    pub records : numbers B ≡ record_of P (values B)
    pub chose : cs ≡ choices Q (numbers B)
    pub used : left ≡ []

  pub sound : {Q : List Kind} {P : Pattern} {T : Term} {cs : List ℕ} {B : List Entry} {left : List ℕ} → Numbered P Q → walk Allowed allowed? P T cs ≡ ok B left → Found Q P T cs B left
  sound {Q} {P} {T} {cs} {B} {left} g e =
      let o = over_ok (walk_t Allowed allowed? P T 0 [] cs) e in
      let start : Inv Allowed Q 0 [] = record { many = refl; kept = record { rest = Q; is = refl }; held = λ x v h. absurd (omega (arith, look_old [] x v h)) } in
      let r = sound_t Allowed allowed? Q P g.numbered T 0 [] cs start o.0 in
      let b = r.back (values B) (record { rest = []; is = flip (append-nil (values B)) }) in
      let p = r.inv.kept in
      let n : length (kinds (values B) ++ p.rest) ≡ length (kinds (values B)) = rw (← p.is, kinds_length (values B), r.inv.many, g.all) refl in
      let k : kinds (values B) ≡ Q = flip (p.is ∙ pre_all (kinds (values B)) p.rest n) in
      record {
        solves = record { right = k; equal = b.1; allowed = r.inv.held };
        records = ap numbers (flip b.2);
        chose = rw (← k) (r.paid ∙ append-nil (picked B));
        used = o.1;
      }

  pub complete : {Q : List Kind} {P : Pattern} {T : Term} {σ : List Value} → Numbered P Q → Solves Allowed Q σ P T
      → (walk Allowed allowed? P T (choices Q (record_of P σ)) ≡ ok (firsts P σ) []) × (values (firsts P σ) ≡ σ)
  complete {Q} {P} {T} {σ} g s =
      let l : after_t P 0 ≤ length σ = omega (arith, g.all, ap length s.right, kinds_length σ) in
      let r = complete_t Allowed allowed? Q σ (record { rest = []; is = flip (append-nil (kinds σ) ∙ s.right) }) s.allowed P g.numbered 0 [] (record { many = refl; pre = record { rest = σ; is = refl } }) l in
      let c = r.1 [] in
      let w : walk Allowed allowed? P T c.0 ≡ ok (firsts P σ) [] = rw (← s.equal) (ap over c.1) in
      let f = sound g w in
      let p = r.0.pre in
      let n : length (values (firsts P σ) ++ p.rest) ≡ length (values (firsts P σ)) = rw (← p.is, r.0.many, g.all, ← s.right) (flip (kinds_length σ)) in
      (rw f.chose at w, flip (p.is ∙ pre_all (values (firsts P σ)) p.rest n))

  -- the choices of a record settle the matcher, and so does the record
  pub injective : {Q : List Kind} {P : Pattern} {T : Term} {σ τ : List Value} → Numbered P Q → Solves Allowed Q σ P T → Solves Allowed Q τ P T
      → choices Q (record_of P σ) ≡ choices Q (record_of P τ) → σ ≡ τ
  injective {Q} {P} {T} {σ} {τ} g s u e =
      let a = complete g s in
      let b = complete g u in
      let c : ok (firsts P σ) [] ≡ ok (firsts P τ) [] = flip a.0 ∙ ap (λ (cs : List ℕ). walk Allowed allowed? P T cs) e ∙ b.0 in
      let d : firsts P σ ≡ firsts P τ = cc in
      flip a.1 ∙ ap values d ∙ b.1

  pub injective_record : {Q : List Kind} {P : Pattern} {T : Term} {σ τ : List Value} → Numbered P Q → Solves Allowed Q σ P T → Solves Allowed Q τ P T
      → record_of P σ ≡ record_of P τ → σ ≡ τ
  injective_record {Q} g s u e = injective g s u (ap (λ (r : List ℕ). choices Q r) e)

  -- the test of one record: walk with its own second numbers, and compare
  pub test_yes : {Q : List Kind} {P : Pattern} {T : Term} {r : List ℕ} {B : List Entry} {left : List ℕ} → Numbered P Q
      → walk Allowed allowed? P T (choices Q r) ≡ ok B left → numbers B ≡ r → IsRecord Allowed Q P T r
  test_yes {B = B} g e h = let f = sound g e in record { matcher = values B; solves = f.solves; its = flip f.records ∙ h }

  pub test_no : {Q : List Kind} {P : Pattern} {T : Term} {r : List ℕ} → Numbered P Q → IsRecord Allowed Q P T r
      → (B : List Entry) × (walk Allowed allowed? P T (choices Q r) ≡ ok B []) × (numbers B ≡ r)
  test_no {Q} {P} {T} {r} g i =
      let c = complete g i.solves in
      (firsts P i.matcher, ap (λ (s : List ℕ). walk Allowed allowed? P T (choices Q s)) (flip i.its) ∙ c.0, i.its)
