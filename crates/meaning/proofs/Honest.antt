-- One choice more: only where it is asked for, and only in the range.
use Prim.Native.Nat.{ℕ, ◌+◌, ◌-◌, ◌≤◌}
use mathlib.Core.Path.{◌≡◌, refl}
use mathlib.Core.List.{List, [], ◌∷◌, ◌++◌}
use native.Mathlib.Decide.{ℕ_discrete, dec_le}
use Rattle.meaning.specs.Forest.{Forest, none, some, Term, term, rows, terms, size}
use Rattle.meaning.specs.Read.{take_t, cut, values, span}
use Rattle.meaning.proofs.Laws.{drop_t}
use Rattle.meaning.specs.Pattern.{Pattern, symbol, individual, function, context, Patterns, nil, cons, sequence, Look, old, new, wrong, look}
use Rattle.meaning.specs.Matcher.{Value, of_individual, of_sequence, of_function, of_context}
use Rattle.meaning.proofs.Walk.{same?, Res, fail, need, ok, when, and_then, met, chosen, walk_t, walk_f, over, walk}
use Rattle.meaning.specs.Record.{Entry, entry}

-- y as one more choice: an answer, and the answer then
abbrev MoreIs : ℕ → Res → Res → Type 0
MoreIs y fail r = r ≡ fail
MoreIs y (need B s lo hi) r = ((lo ≤ y) × (y ≤ hi) → ⊥) → r ≡ fail
MoreIs y (ok B cs) r = r ≡ ok B (cs ++ (y ∷ []))

record More (y : ℕ) (r r' : Res) : Type 0 where
  is : MoreIs y r r'

more_when : {A : Type 0} (d : Dec A) (y : ℕ) (r r' : Res) → More y r r' → More y (when d r) (when d r')
more_when (yes a) y r r' m = m
more_when (no n) y r r' m = record { is = refl }

more_then : (y : ℕ) (r r' : Res) (k : List Entry → List ℕ → Res) → More y r r' → ((B : List Entry) (cs : List ℕ) → More y (k B cs) (k B (cs ++ (y ∷ []))))
    → More y (and_then r k) (and_then r' k)
more_then y fail r' k m h = record { is = rw m.is }
more_then y (need B s lo hi) r' k m h = record { is = λ o. rw (m.is o) }
more_then y (ok B cs) r' k m h = rw m.is (h B cs)

module _ (Allowed : ℕ → Value → Type 0) (allowed? : (x : ℕ) (v : Value) → Dec (Allowed x v)) (y : ℕ) where
  more_met : (l : Look Value) (x : ℕ) (v : Value) (t : ℕ) (B : List Entry) (cs : List ℕ) → More y (met Allowed allowed? l x v t B cs) (met Allowed allowed? l x v t B (cs ++ (y ∷ [])))
  more_met (old w) x v t B cs = more_when (same? w v) y (ok B cs) _ (record { is = refl })
  more_met new x v t B cs = more_when (allowed? x v) y (ok (B ++ (entry v t ∷ [])) cs) _ (record { is = refl })
  more_met wrong x v t B cs = record { is = refl }

  more_chosen : (l : Look Value) (cs : List ℕ) (x lo hi t : ℕ) (g : ℕ → Value) (B : List Entry) (k : ℕ → List Entry → List ℕ → Res)
      → ((d : ℕ) (B : List Entry) (cs : List ℕ) → More y (k d B cs) (k d B (cs ++ (y ∷ []))))
      → More y (chosen Allowed allowed? l cs x lo hi t g B k) (chosen Allowed allowed? l (cs ++ (y ∷ [])) x lo hi t g B k)
  more_chosen (old w) cs x lo hi t g B k h = more_when (same? w (g (span w))) y (k (span w) B cs) (k (span w) B (cs ++ (y ∷ []))) (h (span w) B cs)
  more_chosen new [] x lo hi t g B k h = record { is = λ o. go o (dec_le lo y) (dec_le y hi) }
    where
      r : Res
      r = when (allowed? x (g (y - lo))) (k (y - lo) (B ++ (entry (g (y - lo)) t ∷ [])) [])

      go : ((lo ≤ y) × (y ≤ hi) → ⊥) → (a : Dec (lo ≤ y)) (b : Dec (y ≤ hi)) → when a (when b r) ≡ fail
      go o (yes a) (yes b) = absurd (o (a, b))
      go o (yes a) (no b) = refl
      go o (no a) b = refl
  more_chosen new (c ∷ cs) x lo hi t g B k h =
      let e : List Entry = B ++ (entry (g (c - lo)) t ∷ []) in
      more_when (dec_le lo c) y _ _ (more_when (dec_le c hi) y _ _ (more_when (allowed? x (g (c - lo))) y (k (c - lo) e cs) (k (c - lo) e (cs ++ (y ∷ []))) (h (c - lo) e cs)))
  more_chosen wrong cs x lo hi t g B k h = record { is = refl }

  mutual
    unfolding walk_t

    more_t : (q : Pattern) (T : Term) (t : ℕ) (B : List Entry) (cs : List ℕ) → More y (walk_t Allowed allowed? q T t B cs) (walk_t Allowed allowed? q T t B (cs ++ (y ∷ [])))
    more_t (symbol f ps) T t B cs = more_when (ℕ_discrete f T.label) y _ _ (more_f ps T.args (t + 1) B cs)
    more_t (individual x) T t B cs = more_met (look (values B) x) x (of_individual T.label T.args) t B cs
    more_t (function x ps) T t B cs = more_then y _ _ _ (more_met (look (values B) x) x (of_function T.label) t B cs) (λ B₁ cs₁. more_f ps T.args (t + 1) B₁ cs₁)
    more_t (context x q) T t B cs = more_chosen (look (values B) x) cs x t (t + rows T.args) t (λ d. of_context (cut T d).around) B _ (λ d B₁ cs₁. more_t q (cut T d).at (t + d) B₁ cs₁)

    more_f : (ps : Patterns) (us : Forest) (t : ℕ) (B : List Entry) (cs : List ℕ) → More y (walk_f Allowed allowed? ps us t B cs) (walk_f Allowed allowed? ps us t B (cs ++ (y ∷ [])))
    more_f nil none t B cs = record { is = refl }
    more_f nil (some l us rest) t B cs = record { is = refl }
    more_f (cons q ps) none t B cs = record { is = refl }
    more_f (cons q ps) (some l us rest) t B cs = more_then y _ _ _ (more_t q (term l us) t B cs) (λ B₁ cs₁. more_f ps rest (t + size (term l us)) B₁ cs₁)
    more_f (sequence x ps) us t B cs = more_chosen (look (values B) x) cs x 0 (terms us) t (λ d. of_sequence (take_t d us)) B _ (λ d B₁ cs₁. more_f ps (drop_t d us) (t + rows (take_t d us)) B₁ cs₁)

  -- at the root: one choice more is refused where the walk had failed or ended, and outside the range where it asked
  abbrev pub Asked : Res → Type 0
  Asked fail = ⊥
  Asked (need B s lo hi) = (lo ≤ y) × (y ≤ hi)
  Asked (ok B cs) = ⊥

  over_long : (B : List Entry) (cs : List ℕ) → over (ok B (cs ++ (y ∷ []))) ≡ fail
  over_long B [] = refl
  over_long B (c ∷ cs) = refl

  over_more : (r r' : Res) → More y r r' → (Asked (over r) → ⊥) → over r' ≡ fail
  over_more fail r' m n = rw m.is
  over_more (need B s lo hi) r' m n = rw (m.is n)
  over_more (ok B cs) r' m n = rw m.is (over_long B cs)

  pub honest : (P : Pattern) (T : Term) (cs : List ℕ) → (Asked (walk Allowed allowed? P T cs) → ⊥) → walk Allowed allowed? P T (cs ++ (y ∷ [])) ≡ fail
  honest P T cs n = over_more _ _ (more_t P T 0 [] cs) n
