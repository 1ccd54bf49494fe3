-- The walk asks for a choice exactly where one is reached.
use Prim.Native.Nat.{ℕ, ◌+◌, ◌≤◌}
use mathlib.Core.Path.{◌≡◌, refl, ap, ap₂, ◌∙◌}
use mathlib.Core.Path.{sym as flip}
use mathlib.Core.List.{List, [], ◌∷◌, ◌++◌, append-nil}
use lib.ListN.{length}
use mathlib.Core.Bool.{Bool, true, false, cond}
use lib.Dec.{eqb}
use native.Mathlib.Omega.{arith}
use native.Mathlib.Nat.{zero-add}
use native.Mathlib.Decide.{ℕ_discrete}
use Rattle.meaning.specs.Forest.{Forest, none, some, Term, term, rows, terms, hole_row, size}
use Rattle.meaning.specs.Read.{take_t, cut, values, firsts}
use Rattle.meaning.proofs.Laws.{drop_t, take_drop, terms_take, cut_plugs, cut_holds, take_of, drop_of, terms_of, hole_in, plug_cut}
use Rattle.meaning.specs.Pattern.{Pattern, symbol, individual, function, context, Patterns, nil, cons, sequence, Kind, Look, old, new, wrong, look, after, after_t, GoodT, GoodF, Numbered}
use Rattle.meaning.specs.Matcher.{Value, of_individual, of_sequence, of_function, of_context, kind, kinds, at, as_forest, as_context, apply}
use Rattle.meaning.proofs.Walk.{same?, Res, fail, need, ok, and_then, met, meet, walk_t, walk_f, over, walk}
use Rattle.meaning.specs.Record.{Entry, entry, second, numbers, note, firsts_t, firsts_f, record_of}
use Rattle.meaning.specs.Order.{choices}
use Rattle.meaning.specs.Reached.{Begins, UntilT, in_symbol, in_function, in_context, here_context, UntilF, in_first, in_rest, in_sequence, here_sequence, Reached}
use Rattle.meaning.proofs.Lists.{at_old, look_old, look_new, pre_refl, pre_trans, pre_length, pre_same}
use Rattle.meaning.proofs.Steps.{when_yes, when_live, picked, Inv, On, stands_inv, stands_back, stands_unpaid, on_stands, meet_does, meet_sound, choose_does, Chose, asks, goes, choose_live}
use Rattle.meaning.proofs.Sound.{sound_t}
use Rattle.meaning.proofs.Complete.{after_ge_t, after_to_t, complete_t}

module _ (Allowed : ℕ → Value → Type 0) (allowed? : (x : ℕ) (v : Value) → Dec (Allowed x v)) (Q : List Kind)
    (σ : List Value) (right : Begins (kinds σ) Q) (held : (x : ℕ) (v : Value) → look σ x ≡ old v → Allowed x v) where
  -- the first variable that σ does not have: all of σ is bound
  on_end : {n x : ℕ} {B : List Entry} → On Allowed σ n B → x ≤ n → look σ x ≡ new → (values B ≡ σ) × (look (values B) x ≡ new)
  on_end {n} {x} {B} o h e =
      let z = look_new σ x e in
      let l = pre_length o.pre in
      let m = o.many in
      let s = pre_same o.pre (omega arith) in
      (s, rw s e)

  mutual
    unfolding walk_t GoodT after_t

    until_t : {q : Pattern} {T : Term} {t lo hi : ℕ} → UntilT σ q T t lo hi → {n : ℕ} → GoodT Q q n → (B : List Entry) → On Allowed σ n B
        → (cs : List ℕ) × (B' : List Entry) × ((s : ℕ) × (walk_t Allowed allowed? q T t B cs ≡ need B' s lo hi)) × (values B' ≡ σ)
    until_t (in_symbol {f = f} {ps = ps} {T = T} {t = t} e u) g B o =
        let r = until_f u g B o in
        (r.0, r.1, (r.2.0, when_yes (ℕ_discrete f T.label) (walk_f Allowed allowed? ps T.args (t + 1) B r.0) e ∙ r.2.1), r.3)
    until_t (in_function {x = x} {T = T} {t = t} e u) g B o =
        let v : Value = of_function T.label in
        let s = on_stands Allowed t o g.0.near e (held x v e) in
        let r = until_f u g.1 (note x v t B) s.1 in
        (r.0, r.1, (r.2.0, rw (meet_does Allowed allowed? t r.0 s.0) r.2.1), r.3)
    until_t (in_context {x = x} {q = q} {T = T} {t = t} c U e p u) g B o =
        let v : Value = of_context c in
        let s = on_stands Allowed t o g.0.near e (held x v e) in
        let w : cut T (hole_row c) ≡ record { around = c; at = U } = rw (← p) (plug_cut c U) in
        let h : t + hole_row c ≤ t + rows T.args = rw (← p) (omega (arith, hole_in c U)) in
        let r = until_t u g.1 (note x v t B) s.1 in
        let k = choose_does Allowed allowed? t (t + rows T.args) t (λ d. of_context (cut T d).around) r.0 (λ d B₁ cs₁. walk_t Allowed allowed? q (cut T d).at (t + d) B₁ cs₁)
        s.0 (rw w refl) h in
        (k.0, r.1, (r.2.0, k.1 ∙ rw w r.2.1), r.3)
    until_t (here_context {x = x} {t = t} e a b) g B o =
        let s = on_end o g.0.near e in
        ([], B, (t, rw s.1 (ap₂ (λ (i j : ℕ). need B t i j) a b)), s.0)

    until_f : {ps : Patterns} {us : Forest} {t lo hi : ℕ} → UntilF σ ps us t lo hi → {n : ℕ} → GoodF Q ps n → (B : List Entry) → On Allowed σ n B
        → (cs : List ℕ) × (B' : List Entry) × ((s : ℕ) × (walk_f Allowed allowed? ps us t B cs ≡ need B' s lo hi)) × (values B' ≡ σ)
    until_f (in_first u) g B o =
        let r = until_t u g.0 B o in
        (r.0, r.1, (r.2.0, rw r.2.1), r.3)
    until_f (in_rest {q = q} {l = l} {us = us} {t = t} b e u) {n} g B o =
        let m : n ≤ length σ = omega (arith, o.many, pre_length o.pre) in
        let r = complete_t Allowed allowed? Q σ right held q g.0 t B o (omega (arith, after_to_t q n (length σ) m)) in
        let s = until_f u g.1 (firsts_t σ q t B) r.0 in
        let c = r.1 s.0 in
        let w : walk_t Allowed allowed? q (term l us) t B c.0 ≡ ok (firsts_t σ q t B) s.0 = rw e at c.1 in
        (c.0, s.1, (s.2.0, rw w s.2.1), s.3)
    until_f (in_sequence {x = x} {ps = ps} {us = us} {t = t} f rest e p u) g B o =
        let v : Value = of_sequence f in
        let s = on_stands Allowed t o g.0.near e (held x v e) in
        let a : take_t (terms f) us ≡ f = rw (← p) (take_of f rest) in
        let b : drop_t (terms f) us ≡ rest = rw (← p) (drop_of f rest) in
        let h : 0 + terms f ≤ terms us = rw (← p) (omega (arith, terms_of f rest)) in
        let r = until_f u g.1 (note x v t B) s.1 in
        let k = choose_does Allowed allowed? 0 (terms us) t (λ d. of_sequence (take_t d us)) r.0 (λ d B₁ cs₁. walk_f Allowed allowed? ps (drop_t d us) (t + rows (take_t d us)) B₁ cs₁)
        s.0 (rw a refl) h in
        (k.0, r.1, (r.2.0, k.1 ∙ rw (a, b) r.2.1), r.3)
    until_f (here_sequence {x = x} {t = t} e a b) g B o =
        let s = on_end o g.0.near e in
        ([], B, (t, rw s.1 (ap₂ (λ (i j : ℕ). need B t i j) a b)), s.0)

-- what is told by an answer need
module _ {B : List Entry} {s lo hi : ℕ} where
  fail_need : fail ≡ need B s lo hi → ⊥
  fail_need h = let z : ◌≡◌ {A = ℕ} 0 1 = cc in omega arith

  ok_need : {A : Type 0} (C : List Entry) (cs : List ℕ) → ok C cs ≡ need B s lo hi → A
  ok_need C cs h = let z : ◌≡◌ {A = ℕ} 0 1 = cc in absurd (omega arith)

-- first appearances are only added
note_grows : (x : ℕ) (v : Value) (t : ℕ) (B : List Entry) → Begins B (note x v t B)
note_grows x v t B = go (eqb x (length B))
  where
    go : (y : Bool) → Begins B (cond y (B ++ (entry v t ∷ [])) B)
    go true = record { rest = entry v t ∷ []; is = refl }
    go false = pre_refl

module _ (σ : List Value) where
  mutual
    unfolding firsts_t

    grows_t : (q : Pattern) (t : ℕ) (B : List Entry) → Begins B (firsts_t σ q t B)
    grows_t (symbol f ps) t B = grows_f ps (t + 1) B
    grows_t (individual x) t B = note_grows x (at σ x) t B
    grows_t (function x ps) t B = pre_trans (note_grows x (at σ x) t B) (grows_f ps (t + 1) _)
    grows_t (context x q) t B = pre_trans (note_grows x (at σ x) t B) (grows_t q (t + hole_row (as_context (at σ x))) _)

    grows_f : (ps : Patterns) (t : ℕ) (B : List Entry) → Begins B (firsts_f σ ps t B)
    grows_f nil t B = pre_refl
    grows_f (cons q ps) t B = pre_trans (grows_t q t B) (grows_f ps (t + size (apply σ q)) _)
    grows_f (sequence x ps) t B = pre_trans (note_grows x (at σ x) t B) (grows_f ps (t + rows (as_forest (at σ x))) _)

module _ (Allowed : ℕ → Value → Type 0) (allowed? : (x : ℕ) (v : Value) → Dec (Allowed x v)) (Q : List Kind) where
  -- a part of the pattern was walked from (B, cs), and there a choice was asked for, with B' bound
  record Asks (B : List Entry) (cs : List ℕ) (B' : List Entry) (first : List Entry) (until : Type 0) : Type 0 where
    inv : Inv Allowed Q (length (values B')) B'
    pre : Begins (values B) (values B')
    there : until
    firsts : Begins B' first
    paid : picked B ++ cs ≡ picked B'

  data Went (r : Res) (k : List Entry → List ℕ → Res) (a : Res) : Type 0 where
    first : r ≡ a → Went r k a
    later : (B : List Entry) (cs : List ℕ) → r ≡ ok B cs → k B cs ≡ a → Went r k a

  went : (r : Res) (k : List Entry → List ℕ → Res) (a : Res) → (fail ≡ a → ⊥) → and_then r k ≡ a → Went r k a
  went fail k a n e = absurd (n e)
  went (need B s lo hi) k a n e = first e
  went (ok B cs) k a n e = later B cs refl e

  met_need : (l : Look Value) (x : ℕ) (v : Value) (t : ℕ) (B : List Entry) (cs : List ℕ) {A : Type 0} {B' : List Entry} {s lo hi : ℕ} → met Allowed allowed? l x v t B cs ≡ need B' s lo hi → A
  met_need (old w) x v t B cs e = ok_need B cs (when_live (same? w v) (ok B cs) _ fail_need e).1
  met_need new x v t B cs e = ok_need (B ++ (entry v t ∷ [])) cs (when_live (allowed? x v) (ok (B ++ (entry v t ∷ [])) cs) _ fail_need e).1
  met_need wrong x v t B cs e = absurd (fail_need e)

  inv_here : {n : ℕ} {B : List Entry} → Inv Allowed Q n B → Inv Allowed Q (length (values B)) B
  inv_here i = record { many = refl; kept = i.kept; held = i.held }

  mutual
    unfolding walk_t apply after_t GoodT firsts_t

    asked_t : (q : Pattern) {n : ℕ} → GoodT Q q n → (T : Term) (t : ℕ) (B : List Entry) (cs : List ℕ) {B' : List Entry} {s lo hi : ℕ} → Inv Allowed Q n B
        → walk_t Allowed allowed? q T t B cs ≡ need B' s lo hi → Asks B cs B' (firsts_t (values B') q t B) (UntilT (values B') q T t lo hi)
    asked_t (symbol f ps) g T t B cs i e =
        let u = when_live (ℕ_discrete f T.label) (walk_f Allowed allowed? ps T.args (t + 1) B cs) _ fail_need e in
        let r = asked_f ps g T.args (t + 1) B cs i u.1 in
        record { inv = r.inv; pre = r.pre; there = in_symbol u.0 r.there; firsts = r.firsts; paid = r.paid }
    asked_t (individual x) g T t B cs i e = met_need (look (values B) x) x (of_individual T.label T.args) t B cs e
    asked_t (function x ps) {n} g T t B cs {B'} {s} {lo} {hi} i e = go (went (meet Allowed allowed? x v t B cs) k (need B' s lo hi) fail_need e) (λ B₁ cs₁ j f. asked_f ps g.1 T.args (t + 1) B₁ cs₁ j f)
      where
        v : Value
        v = of_function T.label

        k : List Entry → List ℕ → Res
        k B₁ cs₁ = walk_f Allowed allowed? ps T.args (t + 1) B₁ cs₁

        go : Went (meet Allowed allowed? x v t B cs) k (need B' s lo hi)
            → ((B₁ : List Entry) (cs₁ : List ℕ) → Inv Allowed Q (after x n) B₁ → walk_f Allowed allowed? ps T.args (t + 1) B₁ cs₁ ≡ need B' s lo hi
            → Asks B₁ cs₁ B' (firsts_f (values B') ps (t + 1) B₁) (UntilF (values B') ps T.args (t + 1) lo hi))
            → Asks B cs B' (firsts_t (values B') (function x ps) t B) (UntilT (values B') (function x ps) T t lo hi)
        go (first f) ih = met_need (look (values B) x) x v t B cs f
        go (later B₁ cs₁ f h) ih =
            let m = meet_sound Allowed allowed? x v t B cs f in
            let r = ih (note x v t B) cs (stands_inv Allowed t i g.0 m.0) (ap₂ k m.1 m.2 ∙ h) in
            let c = stands_back Allowed {σ = values B'} t m.0 r.pre in
            let a : at (values B') x ≡ v = at_old (values B') x c.1 in
            record { inv = r.inv; pre = c.0; there = in_function c.1 r.there; firsts = rw a r.firsts; paid = rw (← (stands_unpaid Allowed t m.0 refl)) r.paid }
    asked_t (context x q) {n} g T t B cs {B'} {s} {lo} {hi} i e =
        go (choose_live Allowed allowed? x t (t + rows T.args) t w B cs k (need B' s lo hi) (λ d h. cut_holds T d (omega arith)) (λ d. refl) fail_need e)
        (λ d B₁ cs₁ j f. asked_t q g.1 (cut T d).at (t + d) B₁ cs₁ j f)
      where
        w : ℕ → Value
        w d = of_context (cut T d).around

        k : ℕ → List Entry → List ℕ → Res
        k d B₁ cs₁ = walk_t Allowed allowed? q (cut T d).at (t + d) B₁ cs₁

        go : Chose Allowed allowed? x t (t + rows T.args) t w B cs k (need B' s lo hi)
            → ((d : ℕ) (B₁ : List Entry) (cs₁ : List ℕ) → Inv Allowed Q (after x n) B₁ → walk_t Allowed allowed? q (cut T d).at (t + d) B₁ cs₁ ≡ need B' s lo hi
            → Asks B₁ cs₁ B' (firsts_t (values B') q (t + d) B₁) (UntilT (values B') q (cut T d).at (t + d) lo hi))
            → Asks B cs B' (firsts_t (values B') (context x q) t B) (UntilT (values B') (context x q) T t lo hi)
        go (asks h c f) ih =
            let p : B ≡ B' = cc in
            let a : t ≡ lo = cc in
            let b : t + rows T.args ≡ hi = cc in
            record {
              inv = rw p at (inv_here i);
              pre = rw p pre_refl;
              there = here_context (rw p at h) a b;
              firsts = rw (← p) (grows_t (values B) (context x q) t B);
              paid = rw (c, ← p) (append-nil (picked B));
            }
        go (goes d left s f m p) ih =
            let r = ih d (note x (w d) t B) left (stands_inv Allowed t i g.0 s) f in
            let c = stands_back Allowed {σ = values B'} t s r.pre in
            let a : at (values B') x ≡ w d = at_old (values B') x c.1 in
            let u : UntilT (values B') q (cut T d).at (t + hole_row (cut T d).around) lo hi = rw m r.there in
            record {
              inv = r.inv;
              pre = c.0;
              there = in_context (cut T d).around (cut T d).at c.1 (cut_plugs T d) u;
              firsts = rw (a, m) r.firsts;
              paid = p ∙ r.paid;
            }

    asked_f : (ps : Patterns) {n : ℕ} → GoodF Q ps n → (us : Forest) (t : ℕ) (B : List Entry) (cs : List ℕ) {B' : List Entry} {s lo hi : ℕ} → Inv Allowed Q n B
        → walk_f Allowed allowed? ps us t B cs ≡ need B' s lo hi → Asks B cs B' (firsts_f (values B') ps t B) (UntilF (values B') ps us t lo hi)
    asked_f nil g none t B cs i e = ok_need B cs e
    asked_f nil g (some l us rest) t B cs i e = absurd (fail_need e)
    asked_f (cons q ps) g none t B cs i e = absurd (fail_need e)
    asked_f (cons q ps) {n} g (some l us rest) t B cs {B'} {s} {lo} {hi} i e =
        go (went (walk_t Allowed allowed? q (term l us) t B cs) k (need B' s lo hi) fail_need e)
        (λ f. asked_t q g.0 (term l us) t B cs i f) (λ B₁ cs₁ j f. asked_f ps g.1 rest (t + size (term l us)) B₁ cs₁ j f)
      where
        k : List Entry → List ℕ → Res
        k B₁ cs₁ = walk_f Allowed allowed? ps rest (t + size (term l us)) B₁ cs₁

        go : Went (walk_t Allowed allowed? q (term l us) t B cs) k (need B' s lo hi)
            → (walk_t Allowed allowed? q (term l us) t B cs ≡ need B' s lo hi → Asks B cs B' (firsts_t (values B') q t B) (UntilT (values B') q (term l us) t lo hi))
            → ((B₁ : List Entry) (cs₁ : List ℕ) → Inv Allowed Q (after_t q n) B₁ → walk_f Allowed allowed? ps rest (t + size (term l us)) B₁ cs₁ ≡ need B' s lo hi
            → Asks B₁ cs₁ B' (firsts_f (values B') ps (t + size (term l us)) B₁) (UntilF (values B') ps rest (t + size (term l us)) lo hi))
            → Asks B cs B' (firsts_f (values B') (cons q ps) t B) (UntilF (values B') (cons q ps) (some l us rest) t lo hi)
        go (first f) ih jh =
            let r = ih f in
            record { inv = r.inv; pre = r.pre; there = in_first r.there; firsts = pre_trans r.firsts (grows_f (values B') ps _ _); paid = r.paid }
        go (later B₁ cs₁ f h) ih jh =
            let s = sound_t Allowed allowed? Q q g.0 (term l us) t B cs i f in
            let r = jh B₁ cs₁ s.inv h in
            let b = s.back (values B') r.pre in
            let m = s.inv.many in
            let o = pre_length r.pre in
            let z = after_ge_t q n in
            let y : after_t q (length (values B')) ≡ length (values B') = omega (arith, after_to_t q n (length (values B')) (omega arith)) in
            record { inv = r.inv; pre = b.0; there = in_rest y b.1 r.there; firsts = rw (b.1, b.2) r.firsts; paid = s.paid ∙ r.paid }
    asked_f (sequence x ps) {n} g us t B cs {B'} {s} {lo} {hi} i e =
        go (choose_live Allowed allowed? x 0 (terms us) t w B cs k (need B' s lo hi) (λ d h. terms_take d us (omega arith)) (λ d. rw zero-add) fail_need e)
        (λ d B₁ cs₁ j f. asked_f ps g.1 (drop_t d us) (t + rows (take_t d us)) B₁ cs₁ j f)
      where
        w : ℕ → Value
        w d = of_sequence (take_t d us)

        k : ℕ → List Entry → List ℕ → Res
        k d B₁ cs₁ = walk_f Allowed allowed? ps (drop_t d us) (t + rows (take_t d us)) B₁ cs₁

        go : Chose Allowed allowed? x 0 (terms us) t w B cs k (need B' s lo hi)
            → ((d : ℕ) (B₁ : List Entry) (cs₁ : List ℕ) → Inv Allowed Q (after x n) B₁ → walk_f Allowed allowed? ps (drop_t d us) (t + rows (take_t d us)) B₁ cs₁ ≡ need B' s lo hi
            → Asks B₁ cs₁ B' (firsts_f (values B') ps (t + rows (take_t d us)) B₁) (UntilF (values B') ps (drop_t d us) (t + rows (take_t d us)) lo hi))
            → Asks B cs B' (firsts_f (values B') (sequence x ps) t B) (UntilF (values B') (sequence x ps) us t lo hi)
        go (asks h c f) ih =
            let p : B ≡ B' = cc in
            let a : 0 ≡ lo = cc in
            let b : terms us ≡ hi = cc in
            record {
              inv = rw p at (inv_here i);
              pre = rw p pre_refl;
              there = here_sequence (rw p at h) a b;
              firsts = rw (← p) (grows_f (values B) (sequence x ps) t B);
              paid = rw (c, ← p) (append-nil (picked B));
            }
        go (goes d left s f m p) ih =
            let r = ih d (note x (w d) t B) left (stands_inv Allowed t i g.0 s) f in
            let c = stands_back Allowed {σ = values B'} t s r.pre in
            let a : at (values B') x ≡ w d = at_old (values B') x c.1 in
            record {
              inv = r.inv;
              pre = c.0;
              there = in_sequence (take_t d us) (drop_t d us) c.1 (take_drop d us) r.there;
              firsts = rw a r.firsts;
              paid = p ∙ r.paid;
            }

-- the choices of the first variables, read off a longer record
choices_of : (B R : List Entry) → choices (kinds (values B)) (numbers (B ++ R)) ≡ picked B
choices_of [] R = refl
choices_of (e ∷ B) R = go e.value (choices_of B R)
  where
    go : (v : Value) → choices (kinds (values B)) (numbers (B ++ R)) ≡ picked B
        → choices (kind v ∷ kinds (values B)) (e.row ∷ second v e.row ∷ numbers (B ++ R)) ≡ choices (kind v ∷ kinds (values B)) (e.row ∷ second v e.row ∷ numbers B)
    go (of_individual l us) h = h
    go (of_sequence f) h = rw h
    go (of_function l) h = h
    go (of_context c) h = rw h

pub over_need : (r : Res) {B : List Entry} {s lo hi : ℕ} → over r ≡ need B s lo hi → r ≡ need B s lo hi
over_need fail h = absurd (fail_need h)
over_need (need C s lo hi) h = h
over_need (ok C []) h = ok_need C [] h
over_need (ok C (c ∷ cs)) h = absurd (fail_need h)

module _ (Allowed : ℕ → Value → Type 0) (allowed? : (x : ℕ) (v : Value) → Dec (Allowed x v)) where
  -- where the walk asks, a choice is reached, the choices so far are those that were picked, and those of the values so far
  asked_from : {Q : List Kind} {P : Pattern} {T : Term} {cs : List ℕ} {B : List Entry} {s lo hi : ℕ} → Numbered P Q → walk Allowed allowed? P T cs ≡ need B s lo hi
      → Asks Allowed allowed? Q [] cs B (firsts_t (values B) P 0 []) (UntilT (values B) P T 0 lo hi)
  asked_from {Q} {P} {T} {cs} g e =
      let start : Inv Allowed Q 0 [] = record { many = refl; kept = record { rest = Q; is = refl }; held = λ x v h. absurd (omega (arith, look_old [] x v h)) } in
      asked_t Allowed allowed? Q P g.numbered T 0 [] cs start (over_need (walk_t Allowed allowed? P T 0 [] cs) e)

  pub asked_picked : {Q : List Kind} {P : Pattern} (T : Term) {cs : List ℕ} {B : List Entry} {s lo hi : ℕ} → Numbered P Q → walk Allowed allowed? P T cs ≡ need B s lo hi → cs ≡ picked B
  asked_picked T g e = (asked_from {T = T} g e).paid

  pub asked_reached : {Q : List Kind} {P : Pattern} {T : Term} {cs : List ℕ} {B : List Entry} {s lo hi : ℕ} → Numbered P Q → walk Allowed allowed? P T cs ≡ need B s lo hi
      → Reached Allowed Q (values B) P T lo hi × (cs ≡ choices (kinds (values B)) (record_of P (values B)))
  asked_reached {B = B} g e =
      let r = asked_from g e in
      (record { right = r.inv.kept; allowed = r.inv.held; matched = r.there }, r.paid ∙ flip (rw r.firsts.is (choices_of B r.firsts.rest)))

  -- where a choice is reached, the walk asks
  pub reached_asked : {Q : List Kind} {P : Pattern} {T : Term} {σ : List Value} {lo hi : ℕ} → Numbered P Q → Reached Allowed Q σ P T lo hi
      → (B : List Entry) × ((start : ℕ) × (walk Allowed allowed? P T (choices (kinds σ) (record_of P σ)) ≡ need B start lo hi)) × (values B ≡ σ)
  reached_asked {Q} {P} {T} {σ} {lo} {hi} g s =
      let r = until_t Allowed allowed? Q σ s.right s.allowed s.matched g.numbered [] (record { many = refl; pre = record { rest = σ; is = refl } }) in
      let w : walk Allowed allowed? P T r.0 ≡ need r.1 r.2.0 lo hi = rw r.2.1 in
      let c : r.0 ≡ choices (kinds σ) (record_of P σ) = (asked_reached g w).1 ∙ ap (λ (τ : List Value). choices (kinds τ) (record_of P τ)) r.3 in
      (r.1, (r.2.0, ap (λ (cs : List ℕ). walk Allowed allowed? P T cs) (flip c) ∙ w), r.3)
