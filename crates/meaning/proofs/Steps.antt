-- A variable comes up: what the two steps of the walk, meet and choose, have in common.
use Prim.Native.Nat.{ℕ, zero, suc, ◌+◌, ◌-◌, ◌≤◌, ◌<◌}
use mathlib.Core.Path.{◌≡◌, refl, ap, ap₂, ◌∙◌}
use mathlib.Core.Path.{sym as flip}
use mathlib.Core.List.{List, [], ◌∷◌, ◌++◌, append_assoc, append-nil}
use lib.ListN.{length, length-append}
use native.Mathlib.Omega.{arith}
use native.Mathlib.Decide.{dec_le}
use borrow.Author.Tests.{eq-eqb, ne_eqb}
use Rattle.meaning.specs.Matcher.{Value, of_individual, of_sequence, of_function, of_context, kind, kinds}
use Rattle.meaning.proofs.Walk.{same?, Res, fail, need, ok, when, and_then, met, meet, chosen, choose}
use Rattle.meaning.specs.Pattern.{Kind, Look, old, new, wrong, look, Comes, after}
use Rattle.meaning.specs.Record.{Entry, entry, second, numbers, note}
use Rattle.meaning.specs.Read.{values, span}
use Rattle.meaning.specs.Order.{choices}
use Rattle.meaning.specs.Reached.{Begins}
use Rattle.meaning.proofs.Lists.{look_new, look_old, look_wrong, pre_more, pre_less, pre_look, pre_last, all_more}

-- what is told by an answer ok
module _ {B : List Entry} {cs : List ℕ} where
  pub no_ok : {A : Type 0} → fail ≡ ok B cs → A
  no_ok h = let z : ◌≡◌ {A = ℕ} 0 1 = cc in absurd (omega arith)

  pub no_need : {A : Type 0} (C : List Entry) (s lo hi : ℕ) → need C s lo hi ≡ ok B cs → A
  no_need C s lo hi h = let z : ◌≡◌ {A = ℕ} 0 1 = cc in absurd (omega arith)

  pub when_ok : {A : Type 0} (d : Dec A) (r : Res) → when d r ≡ ok B cs → A × (r ≡ ok B cs)
  when_ok (yes a) r h = (a, h)
  when_ok (no n) r h = no_ok h

  pub then_ok : (r : Res) (k : List Entry → List ℕ → Res) → and_then r k ≡ ok B cs → (B' : List Entry) × (cs' : List ℕ) × (r ≡ ok B' cs') × (k B' cs' ≡ ok B cs)
  then_ok fail k h = no_ok h
  then_ok (need C s lo hi) k h = no_need C s lo hi h
  then_ok (ok B' cs') k h = (B', cs', refl, h)

pub when_live : {A : Type 0} (d : Dec A) (r r' : Res) → (fail ≡ r' → ⊥) → when d r ≡ r' → A × (r ≡ r')
when_live (yes a) r r' n h = (a, h)
when_live (no b) r r' n h = absurd (n h)

pub when_yes : {A : Type 0} (d : Dec A) (r : Res) → A → when d r ≡ r
when_yes (yes a) r h = refl
when_yes (no n) r h = absurd (n h)

-- one entry more
pub vals_more : (B : List Entry) (v : Value) (t : ℕ) → values (B ++ (entry v t ∷ [])) ≡ values B ++ (v ∷ [])
vals_more [] v t = refl
vals_more (e ∷ B) v t = rw (vals_more B v t)

pub kinds_more : (l m : List Value) → kinds (l ++ m) ≡ kinds l ++ kinds m
kinds_more [] m = refl
kinds_more (v ∷ l) m = rw (kinds_more l m)

pub kinds_new : (l : List Value) (x : ℕ) → look l x ≡ new → look (kinds l) x ≡ new
kinds_new [] zero h = refl
kinds_new [] (suc x) h = cc
kinds_new (v ∷ l) zero h = cc
kinds_new (v ∷ l) (suc x) h = kinds_new l x h

pub kinds_old : (l : List Value) (x : ℕ) (k : Kind) → look (kinds l) x ≡ old k → (v : Value) × (look l x ≡ old v) × (kind v ≡ k)
kinds_old [] zero k h = let z : ◌≡◌ {A = ℕ} 0 1 = cc in absurd (omega arith)
kinds_old [] (suc x) k h = let z : ◌≡◌ {A = ℕ} 0 1 = cc in absurd (omega arith)
kinds_old (v ∷ l) zero k h = (v, refl, cc)
kinds_old (v ∷ l) (suc x) k h = kinds_old l x k h

pub kinds_length : (l : List Value) → length (kinds l) ≡ length l
kinds_length [] = refl
kinds_length (v ∷ l) = ap suc (kinds_length l)

pub values_length : (B : List Entry) → length (values B) ≡ length B
values_length [] = refl
values_length (e ∷ B) = ap suc (values_length B)

-- the choices made so far
abbrev pub picked : List Entry → List ℕ
picked B = choices (kinds (values B)) (numbers B)

abbrev pub pick : Value → ℕ → List ℕ
pick v t = choices (kind v ∷ []) (t ∷ second v t ∷ [])

pub picked_more : (B : List Entry) (v : Value) (t : ℕ) → picked (B ++ (entry v t ∷ [])) ≡ picked B ++ pick v t
picked_more [] v t = refl
picked_more (e ∷ B) v t = go e.value e.row (picked_more B v t)
  where
    go : (w : Value) (u : ℕ) → picked (B ++ (entry v t ∷ [])) ≡ picked B ++ pick v t → picked (entry w u ∷ (B ++ (entry v t ∷ []))) ≡ picked (entry w u ∷ B) ++ pick v t
    go (of_individual l us) u h = h
    go (of_sequence f) u h = rw h
    go (of_function l) u h = h
    go (of_context c) u h = rw h

-- x is noted: where it is new, and where not
values_long : (B : List Entry) → length (values B) ≡ length B
values_long [] = refl
values_long (e ∷ B) = ap suc (values_long B)

pub note_new : (B : List Entry) (x : ℕ) (v : Value) (t : ℕ) → look (values B) x ≡ new → note x v t B ≡ B ++ (entry v t ∷ [])
note_new B x v t h = rw (eq-eqb x (length B) (look_new (values B) x h ∙ values_long B))

pub note_old : (B : List Entry) (x : ℕ) (v w : Value) (t : ℕ) → look (values B) x ≡ old w → note x v t B ≡ B
note_old B x v w t h = let l : x < length B = rw (values_long B) at (look_old (values B) x w h) in rw (ne_eqb x (length B) (λ e. omega (arith, e)))

module _ (Allowed : ℕ → Value → Type 0) where
  -- x may come to stand for v: it is new, and v is allowed; or it stands for v already
  pub data Stands (B : List Entry) (x : ℕ) (v : Value) : Type 0 where
    fresh : look (values B) x ≡ new → Allowed x v → Stands B x v
    again : look (values B) x ≡ old v → Stands B x v

  -- the first n variables are bound, to values of their kinds that are allowed
  pub record Inv (Q : List Kind) (n : ℕ) (B : List Entry) : Type 0 where
    pub many : length (values B) ≡ n
    pub kept : Begins (kinds (values B)) Q
    pub held : (x : ℕ) (v : Value) → look (values B) x ≡ old v → Allowed x v

  pub stands_inv : {Q : List Kind} {n x : ℕ} {B : List Entry} {v : Value} (t : ℕ) → Inv Q n B → Comes Q x (kind v) n → Stands B x v → Inv Q (after x n) (note x v t B)
  stands_inv {Q} {n} {x} {B} {v} t i c (fresh h a) =
      let z = look_new (values B) x h in
      let m = i.many in
      let s = length-append (values B) (v ∷ []) in
      rw (note_new B x v t h)
      record {
        many = rw (vals_more B v t) (omega arith);
        kept = rw (vals_more B v t, kinds_more (values B) (v ∷ [])) (pre_more x (kind v) i.kept (kinds_new (values B) x h) c.kept);
        held = rw (vals_more B v t) (all_more Allowed (values B) x v h i.held a);
      }
  stands_inv {Q} {n} {x} {B} {v} t i c (again h) =
      let z = look_old (values B) x v h in
      rw (note_old B x v v t h) record { many = omega (arith, i.many); kept = i.kept; held = i.held }

  pub stands_back : {x : ℕ} {B : List Entry} {v : Value} {σ : List Value} (t : ℕ) → Stands B x v → Begins (values (note x v t B)) σ → Begins (values B) σ × (look σ x ≡ old v)
  stands_back {x} {B} {v} {σ} t (fresh h a) p =
      let q : Begins (values B ++ (v ∷ [])) σ = rw (note_new B x v t h, vals_more B v t) at p in
      (pre_less (values B) v q, pre_last (values B) x v q h)
  stands_back {x} {B} {v} {σ} t (again h) p =
      let q : Begins (values B) σ = rw (note_old B x v v t h) at p in
      (q, pre_look x v q h)

  -- the first n variables are bound as σ says
  pub record On (σ : List Value) (n : ℕ) (B : List Entry) : Type 0 where
    pub many : length (values B) ≡ n
    pub pre : Begins (values B) σ

  pub on_stands : {σ : List Value} {n x : ℕ} {B : List Entry} {v : Value} (t : ℕ) → On σ n B → x ≤ n → look σ x ≡ old v → Allowed x v → Stands B x v × On σ (after x n) (note x v t B)
  on_stands {σ} {n} {x} {B} {v} t o c e a = go (look (values B) x) refl
    where
      go : (k : Look Value) → look (values B) x ≡ k → Stands B x v × On σ (after x n) (note x v t B)
      go (old w) h =
          let f : look σ x ≡ old w = pre_look x w o.pre h in
          let g : w ≡ v = cc in
          let z = look_old (values B) x w h in
          (again (rw g at h), rw (note_old B x v w t h) record { many = omega (arith, o.many); pre = o.pre })
      go new h =
          let z = look_new (values B) x h in
          let m = o.many in
          let s = length-append (values B) (v ∷ []) in
          (fresh h a, rw (note_new B x v t h) record { many = rw (vals_more B v t) (omega arith); pre = rw (vals_more B v t) (pre_more x v o.pre h e) })
      go wrong h = absurd (omega (arith, look_wrong (values B) x h, o.many))

  module _ (allowed? : (x : ℕ) (v : Value) → Dec (Allowed x v)) where
    pub meet_sound : (x : ℕ) (v : Value) (t : ℕ) (B : List Entry) (cs : List ℕ) {B' : List Entry} {cs' : List ℕ} → meet Allowed allowed? x v t B cs ≡ ok B' cs'
        → Stands B x v × (note x v t B ≡ B') × (cs ≡ cs')
    meet_sound x v t B cs {B'} {cs'} e = go (look (values B) x) refl e
      where
        go : (k : Look Value) → look (values B) x ≡ k → met Allowed allowed? k x v t B cs ≡ ok B' cs' → Stands B x v × (note x v t B ≡ B') × (cs ≡ cs')
        go (old w) h e =
            let u = when_ok (same? w v) (ok B cs) e in
            (again (rw u.0 at h), note_old B x v w t h ∙ cc u.1, cc u.1)
        go new h e =
            let u = when_ok (allowed? x v) (ok (B ++ (entry v t ∷ [])) cs) e in
            (fresh h u.0, note_new B x v t h ∙ cc u.1, cc u.1)
        go wrong h e = no_ok e

    pub meet_does : {x : ℕ} {v : Value} {B : List Entry} (t : ℕ) (cs : List ℕ) → Stands B x v → meet Allowed allowed? x v t B cs ≡ ok (note x v t B) cs
    meet_does {x} {v} {B} t cs (fresh h a) = rw (note_new B x v t h, h) (when_yes (allowed? x v) (ok (B ++ (entry v t ∷ [])) cs) a)
    meet_does {x} {v} {B} t cs (again h) = rw (note_old B x v v t h, h) (when_yes (same? v v) (ok B cs) refl)

    -- the variable is asked for; or it is given, and the walk goes on
    pub data Chose (x lo hi t : ℕ) (g : ℕ → Value) (B : List Entry) (cs : List ℕ) (k : ℕ → List Entry → List ℕ → Res) (r : Res) : Type 0 where
      asks : look (values B) x ≡ new → cs ≡ [] → need B t lo hi ≡ r → Chose x lo hi t g B cs k r
      goes : (d : ℕ) (left : List ℕ) → Stands B x (g d) → k d (note x (g d) t B) left ≡ r → span (g d) ≡ d → picked B ++ cs ≡ picked (note x (g d) t B) ++ left
          → Chose x lo hi t g B cs k r

    pub choose_live : (x lo hi t : ℕ) (g : ℕ → Value) (B : List Entry) (cs : List ℕ) (k : ℕ → List Entry → List ℕ → Res) (r : Res)
        → ((d : ℕ) → lo + d ≤ hi → span (g d) ≡ d) → ((d : ℕ) → pick (g d) t ≡ (lo + span (g d)) ∷ [])
        → (fail ≡ r → ⊥) → choose Allowed allowed? x lo hi t g B cs k ≡ r → Chose x lo hi t g B cs k r
    choose_live x lo hi t g B cs k r fits picks live e = go (look (values B) x) cs refl e
      where
        go : (l : Look Value) (cs : List ℕ) → look (values B) x ≡ l → chosen Allowed allowed? l cs x lo hi t g B k ≡ r → Chose x lo hi t g B cs k r
        go (old w) cs h e =
            let u = when_live (same? w (g (span w))) (k (span w) B cs) r live e in
            let n = note_old B x (g (span w)) w t h in
            goes (span w) cs (again (h ∙ ap old u.0)) (rw n u.1) (flip (ap span u.0)) (rw n)
        go new [] h e = asks h refl e
        go new (c ∷ cs) h e =
            let d : ℕ = c - lo in
            let s : Res = k d (B ++ (entry (g d) t ∷ [])) cs in
            let u = when_live (dec_le lo c) (when (dec_le c hi) (when (allowed? x (g d)) s)) r live e in
            let v = when_live (dec_le c hi) (when (allowed? x (g d)) s) r live u.1 in
            let w = when_live (allowed? x (g d)) s r live v.1 in
            let n = note_new B x (g d) t h in
            let m : span (g d) ≡ d = fits d (omega (arith, u.0, v.0)) in
            let p : lo + span (g d) ≡ c = omega (arith, u.0, m) in
            goes d cs (fresh h w.0) (rw n w.1) m (rw (n, picked_more B (g d) t, picks d, p) (flip (append_assoc (picked B) (c ∷ []) cs)))
        go wrong cs h e = absurd (live e)

    pub choose_sound : (x lo hi t : ℕ) (g : ℕ → Value) (B : List Entry) (cs : List ℕ) (k : ℕ → List Entry → List ℕ → Res) {B' : List Entry} {cs' : List ℕ}
        → ((d : ℕ) → lo + d ≤ hi → span (g d) ≡ d) → ((d : ℕ) → pick (g d) t ≡ (lo + span (g d)) ∷ [])
        → choose Allowed allowed? x lo hi t g B cs k ≡ ok B' cs'
        → (d : ℕ) × (left : List ℕ) × Stands B x (g d) × (k d (note x (g d) t B) left ≡ ok B' cs') × (span (g d) ≡ d) × (picked B ++ cs ≡ picked (note x (g d) t B) ++ left)
    choose_sound x lo hi t g B cs k {B'} {cs'} fits picks e = go (choose_live x lo hi t g B cs k (ok B' cs') fits picks no_ok e)
      where
        go : Chose x lo hi t g B cs k (ok B' cs')
            → (d : ℕ) × (left : List ℕ) × Stands B x (g d) × (k d (note x (g d) t B) left ≡ ok B' cs') × (span (g d) ≡ d) × (picked B ++ cs ≡ picked (note x (g d) t B) ++ left)
        go (asks h c e) = no_need B t lo hi e
        go (goes d left s e m p) = (d, left, s, e, m, p)

    pub choose_does : {x : ℕ} {v : Value} {B : List Entry} (lo hi t : ℕ) (g : ℕ → Value) (cs : List ℕ) (k : ℕ → List Entry → List ℕ → Res)
        → Stands B x v → g (span v) ≡ v → lo + span v ≤ hi → (cs₀ : List ℕ) × (choose Allowed allowed? x lo hi t g B cs₀ k ≡ k (span v) (note x v t B) cs)
    choose_does {x} {v} {B} lo hi t g cs k (fresh h a) e f =
        let z : lo + span v - lo ≡ span v = omega arith in
        ((lo + span v) ∷ cs, rw (note_new B x v t h, h, z, e) (when_yes (dec_le lo (lo + span v)) _ (omega arith) ∙ when_yes (dec_le (lo + span v) hi) _ f ∙ when_yes (allowed? x v) _ a))
    choose_does {x} {v} {B} lo hi t g cs k (again h) e f = (cs, rw (note_old B x v v t h, h, e) (when_yes (same? v v) _ refl))

    pub then_meet : (x : ℕ) (v : Value) (t : ℕ) (B : List Entry) (cs : List ℕ) (k : List Entry → List ℕ → Res) {B' : List Entry} {cs' : List ℕ}
        → and_then (meet Allowed allowed? x v t B cs) k ≡ ok B' cs' → Stands B x v × (k (note x v t B) cs ≡ ok B' cs')
    then_meet x v t B cs k e =
        let h = then_ok (meet Allowed allowed? x v t B cs) k e in
        let m = meet_sound x v t B cs h.2 in
        (m.0, ap₂ k m.1 m.2 ∙ h.3)

  -- nothing is picked at a variable that has no choice
  pub stands_unpaid : {x : ℕ} {B : List Entry} {v : Value} (t : ℕ) → Stands B x v → pick v t ≡ [] → picked (note x v t B) ≡ picked B
  stands_unpaid {x} {B} {v} t (fresh h a) e = rw (note_new B x v t h, picked_more B v t, e) (append-nil (picked B))
  stands_unpaid {x} {B} {v} t (again h) e = rw (note_old B x v v t h)
