-- What the walk finds is a matcher, and its record is that of the matcher.
use Prim.Native.Nat.{ℕ, ◌+◌}
use mathlib.Core.Path.{◌≡◌, refl, ap, ap₂, ◌∙◌}
use mathlib.Core.List.{List, ◌++◌}
use native.Mathlib.Omega.{arith}
use native.Mathlib.Nat.{zero-add}
use native.Mathlib.Decide.{ℕ_discrete}
use Rattle.meaning.specs.Forest.{Forest, none, some, Term, term, rows, terms, size}
use Rattle.meaning.specs.Read.{take_t, cut, values}
use Rattle.meaning.proofs.Lists.{at_old}
use Rattle.meaning.proofs.Laws.{drop_t, take_drop, terms_take, cut_plugs, cut_holds}
use Rattle.meaning.specs.Pattern.{Pattern, symbol, individual, function, context, Patterns, nil, cons, sequence, Kind, after_t, after_f, GoodT, GoodF}
use Rattle.meaning.specs.Matcher.{Value, of_individual, of_sequence, of_function, of_context, at, as_symbol, apply, apply_all}
use Rattle.meaning.specs.Record.{Entry, note, firsts_t, firsts_f}
use Rattle.meaning.proofs.Walk.{ok, walk_t, walk_f}
use Rattle.meaning.specs.Reached.{Begins}
use Rattle.meaning.proofs.Steps.{no_ok, when_ok, then_ok, picked, Inv, stands_inv, stands_back, stands_unpaid, meet_sound, then_meet, choose_sound}

module _ (Allowed : ℕ → Value → Type 0) (allowed? : (x : ℕ) (v : Value) → Dec (Allowed x v)) (Q : List Kind) where
  -- a part of the pattern was walked from (B, cs) to (B', cs'): for every σ that goes on from B' the part's instance is what it was walked
  -- on, B' are its first appearances, and the choices used are those that were picked
  pub record Sound {A : Type 0} (n : ℕ) (B : List Entry) (cs : List ℕ) (B' : List Entry) (cs' : List ℕ) (ins : List Value → A) (T : A) (first : List Value → List Entry) : Type 0 where
    pub inv : Inv Allowed Q n B'
    pub back : (σ : List Value) → Begins (values B') σ → Begins (values B) σ × (ins σ ≡ T) × (first σ ≡ B')
    pub paid : picked B ++ cs ≡ picked B' ++ cs'

  mutual
    unfolding walk_t apply after_t GoodT firsts_t

    pub sound_t : (q : Pattern) {n : ℕ} → GoodT Q q n → (T : Term) (t : ℕ) (B : List Entry) (cs : List ℕ) {B' : List Entry} {cs' : List ℕ} → Inv Allowed Q n B
        → walk_t Allowed allowed? q T t B cs ≡ ok B' cs' → Sound (after_t q n) B cs B' cs' (λ σ. apply σ q) T (λ σ. firsts_t σ q t B)
    sound_t (symbol f ps) g T t B cs i e =
        let u = when_ok (ℕ_discrete f T.label) (walk_f Allowed allowed? ps T.args (t + 1) B cs) e in
        let r = sound_f ps g T.args (t + 1) B cs i u.1 in
        record { inv = r.inv; back = λ σ p. let b = r.back σ p in (b.0, ap₂ term u.0 b.1, b.2); paid = r.paid }
    sound_t (individual x) g T t B cs i e =
        let v : Value = of_individual T.label T.args in
        let m = meet_sound Allowed allowed? x v t B cs e in
        record {
          inv = rw m.1 at (stands_inv Allowed t i g m.0);
          back = λ σ p.
              let c = stands_back Allowed {σ = σ} t m.0 (rw m.1 p) in
              let a : at σ x ≡ v = at_old σ x c.1 in
              (c.0, rw a, rw a m.1);
          paid = rw (← m.1, m.2, stands_unpaid Allowed t m.0 refl);
        }
    sound_t (function x ps) g T t B cs i e =
        let v : Value = of_function T.label in
        let m = then_meet Allowed allowed? x v t B cs (λ B₁ cs₁. walk_f Allowed allowed? ps T.args (t + 1) B₁ cs₁) e in
        let r = sound_f ps g.1 T.args (t + 1) (note x v t B) cs (stands_inv Allowed t i g.0 m.0) m.1 in
        record {
          inv = r.inv;
          back = λ σ p.
              let b = r.back σ p in
              let c = stands_back Allowed {σ = σ} t m.0 b.0 in
              let a : at σ x ≡ v = at_old σ x c.1 in
              (c.0, ap₂ term (ap as_symbol a) b.1, rw a b.2);
          paid = rw (← (stands_unpaid Allowed t m.0 refl)) r.paid;
        }
    sound_t (context x q) g T t B cs i e =
        let m = choose_sound Allowed allowed? x t (t + rows T.args) t (λ d. of_context (cut T d).around) B cs
        (λ d B₁ cs₁. walk_t Allowed allowed? q (cut T d).at (t + d) B₁ cs₁) (λ d h. cut_holds T d (omega arith)) (λ d. refl) e in
        let d : ℕ = m.0 in
        let v : Value = of_context (cut T d).around in
        let r = sound_t q g.1 (cut T d).at (t + d) (note x v t B) m.1 (stands_inv Allowed t i g.0 m.2) m.3 in
        record {
          inv = r.inv;
          back = λ σ p.
              let b = r.back σ p in
              let c = stands_back Allowed {σ = σ} t m.2 b.0 in
              let a : at σ x ≡ v = at_old σ x c.1 in
              (c.0, rw (a, b.1) (cut_plugs T d), rw (a, m.4) b.2);
          paid = m.5 ∙ r.paid;
        }

    pub sound_f : (ps : Patterns) {n : ℕ} → GoodF Q ps n → (us : Forest) (t : ℕ) (B : List Entry) (cs : List ℕ) {B' : List Entry} {cs' : List ℕ} → Inv Allowed Q n B
        → walk_f Allowed allowed? ps us t B cs ≡ ok B' cs' → Sound (after_f ps n) B cs B' cs' (λ σ. apply_all σ ps) us (λ σ. firsts_f σ ps t B)
    sound_f nil g none t B cs {B'} {cs'} i e =
        let p : B ≡ B' = cc in
        let q : cs ≡ cs' = cc in
        rw (← p, ← q) record { inv = i; back = λ σ p. (p, refl, refl); paid = refl }
    sound_f nil g (some l us rest) t B cs i e = no_ok e
    sound_f (cons q ps) g none t B cs i e = no_ok e
    sound_f (cons q ps) g (some l us rest) t B cs i e =
        let h = then_ok (walk_t Allowed allowed? q (term l us) t B cs) (λ B₁ cs₁. walk_f Allowed allowed? ps rest (t + size (term l us)) B₁ cs₁) e in
        let r = sound_t q g.0 (term l us) t B cs i h.2 in
        let s = sound_f ps g.1 rest (t + size (term l us)) h.0 h.1 r.inv h.3 in
        record {
          inv = s.inv;
          back = λ σ p.
              let c = s.back σ p in
              let b = r.back σ c.0 in
              (b.0, rw (b.1, c.1), rw (b.1, b.2) c.2);
          paid = r.paid ∙ s.paid;
        }
    sound_f (sequence x ps) g us t B cs i e =
        let m = choose_sound Allowed allowed? x 0 (terms us) t (λ d. of_sequence (take_t d us)) B cs
        (λ d B₁ cs₁. walk_f Allowed allowed? ps (drop_t d us) (t + rows (take_t d us)) B₁ cs₁) (λ d h. terms_take d us (omega arith)) (λ d. rw zero-add) e in
        let d : ℕ = m.0 in
        let v : Value = of_sequence (take_t d us) in
        let r = sound_f ps g.1 (drop_t d us) (t + rows (take_t d us)) (note x v t B) m.1 (stands_inv Allowed t i g.0 m.2) m.3 in
        record {
          inv = r.inv;
          back = λ σ p.
              let b = r.back σ p in
              let c = stands_back Allowed {σ = σ} t m.2 b.0 in
              let a : at σ x ≡ v = at_old σ x c.1 in
              (c.0, rw (a, b.1) (take_drop d us), rw a b.2);
          paid = m.5 ∙ r.paid;
        }
