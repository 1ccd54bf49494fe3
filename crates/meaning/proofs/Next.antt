-- One choice more, judged where it is made: where the constraint holds, the walk goes on as the one without constraints.
use Prim.Native.Nat.{ℕ, zero, suc, ◌+◌, ◌-◌, ◌≤◌}
use mathlib.Core.Path.{◌≡◌, refl, ap, ◌∙◌}
use mathlib.Core.Path.{sym as flip}
use mathlib.Core.List.{List, [], ◌∷◌, ◌++◌}
use lib.ListN.{length}
use native.Mathlib.Omega.{arith}
use native.Mathlib.Nat.{sub-zero}
use native.Mathlib.Decide.{ℕ_discrete, dec_le}
use Rattle.meaning.specs.Forest.{Forest, none, some, Term, term, ◌◂◌, rows, terms, size, hole_row}
use Rattle.meaning.specs.Pattern.{Pattern, symbol, individual, function, context, Patterns, nil, cons, sequence, Kind, an_individual, a_sequence, a_function, a_context, Look, old, new, wrong, look, after, after_t, GoodT, GoodF, Numbered}
use Rattle.meaning.specs.Matcher.{Value, of_individual, of_sequence, of_function, of_context}
use Rattle.meaning.proofs.Walk.{same?, Res, fail, need, ok, when, and_then, over, met, meet, chosen, walk_t, walk_f, walk}
use Rattle.meaning.specs.Record.{Entry, entry}
use Rattle.meaning.specs.Read.{values, span, take_t, forest_from_row, cut, value_at, Fits}
use Rattle.meaning.proofs.Laws.{drop_t, take_drop, cut_plugs, cut_holds}
use Rattle.meaning.proofs.Lists.{look_new}
use Rattle.meaning.proofs.Asked.{over_need}
use Rattle.meaning.proofs.From.{HereF, HereT, here_in, here_args, here_first, here_drop, here_next, here_hole}

-- no constraints
abbrev pub Any : ℕ → Value → Type 0
Any x v = Unit {0}

abbrev pub any? : (x : ℕ) (v : Value) → Dec (Any x v)
any? x v = yes tt

-- all choices were used
abbrev Used : Res → Type 0
Used fail = Unit {0}
Used (need B s lo hi) = Unit {0}
Used (ok B cs) = cs ≡ []

used_when : {A : Type 0} (d : Dec A) (r : Res) → Used r → Used (when d r)
used_when (yes a) r u = u
used_when (no n) r u = tt

used_then : (r : Res) (k : List Entry → List ℕ → Res) → Used r → ((B : List Entry) → Used (k B [])) → Used (and_then r k)
used_then fail k u h = tt
used_then (need B s lo hi) k u h = tt
used_then (ok B cs) k u h = rw u (h B)

then_same : (r : Res) (k k' : List Entry → List ℕ → Res) → Used r → ((B : List Entry) → k B [] ≡ k' B []) → and_then r k ≡ and_then r k'
then_same fail k k' u h = refl
then_same (need B s lo hi) k k' u h = refl
then_same (ok B cs) k k' u h = rw u (h B)

module _ (Allowed : ℕ → Value → Type 0) (allowed? : (x : ℕ) (v : Value) → Dec (Allowed x v)) (Q : List Kind)
    (individuals : (x : ℕ) (v : Value) → look Q x ≡ old an_individual → Allowed x v) (functions : (x : ℕ) (v : Value) → look Q x ≡ old a_function → Allowed x v) where
  -- without choices nothing is judged that could fail
  met_free : (l : Look Value) (x : ℕ) (v : Value) (t : ℕ) (B : List Entry) (cs : List ℕ) → Allowed x v → met Allowed allowed? l x v t B cs ≡ met Any any? l x v t B cs
  met_free (old w) x v t B cs a = refl
  met_free new x v t B cs a = go (allowed? x v)
    where
      go : (d : Dec (Allowed x v)) → when d (ok (B ++ (entry v t ∷ [])) cs) ≡ ok (B ++ (entry v t ∷ [])) cs
      go (yes b) = refl
      go (no n) = absurd (n a)
  met_free wrong x v t B cs a = refl

  met_used : (l : Look Value) (x : ℕ) (v : Value) (t : ℕ) (B : List Entry) → Used (met Any any? l x v t B [])
  met_used (old w) x v t B = used_when (same? w v) (ok B []) refl
  met_used new x v t B = refl
  met_used wrong x v t B = tt

  chosen_free : (l : Look Value) (x lo hi t : ℕ) (g : ℕ → Value) (B : List Entry) (k k' : ℕ → List Entry → List ℕ → Res) → ((d : ℕ) → k d B [] ≡ k' d B [])
      → chosen Allowed allowed? l [] x lo hi t g B k ≡ chosen Any any? l [] x lo hi t g B k'
  chosen_free (old w) x lo hi t g B k k' h = rw (h (span w))
  chosen_free new x lo hi t g B k k' h = refl
  chosen_free wrong x lo hi t g B k k' h = refl

  chosen_used : (l : Look Value) (x lo hi t : ℕ) (g : ℕ → Value) (B : List Entry) (k : ℕ → List Entry → List ℕ → Res) → ((d : ℕ) → Used (k d B []))
      → Used (chosen Any any? l [] x lo hi t g B k)
  chosen_used (old w) x lo hi t g B k h = used_when (same? w (g (span w))) (k (span w) B []) (h (span w))
  chosen_used new x lo hi t g B k h = tt
  chosen_used wrong x lo hi t g B k h = tt

  mutual
    unfolding walk_t GoodT

    used_t : (q : Pattern) (T : Term) (t : ℕ) (B : List Entry) → Used (walk_t Any any? q T t B [])
    used_t (symbol f ps) T t B = used_when (ℕ_discrete f T.label) _ (used_f ps T.args (t + 1) B)
    used_t (individual x) T t B = met_used (look (values B) x) x (of_individual T.label T.args) t B
    used_t (function x ps) T t B = used_then (meet Any any? x (of_function T.label) t B []) _ (met_used (look (values B) x) x (of_function T.label) t B) (λ C. used_f ps T.args (t + 1) C)
    used_t (context x q) T t B = chosen_used (look (values B) x) x t (t + rows T.args) t (λ d. of_context (cut T d).around) B _ (λ d. used_t q (cut T d).at (t + d) B)

    used_f : (ps : Patterns) (us : Forest) (t : ℕ) (B : List Entry) → Used (walk_f Any any? ps us t B [])
    used_f nil none t B = refl
    used_f nil (some l us rest) t B = tt
    used_f (cons q ps) none t B = tt
    used_f (cons q ps) (some l us rest) t B = used_then (walk_t Any any? q (term l us) t B []) _ (used_t q (term l us) t B) (λ C. used_f ps rest (t + size (term l us)) C)
    used_f (sequence x ps) us t B = chosen_used (look (values B) x) x 0 (terms us) t (λ d. of_sequence (take_t d us)) B _ (λ d. used_f ps (drop_t d us) (t + rows (take_t d us)) B)

  mutual
    unfolding walk_t GoodT

    free_t : (q : Pattern) (n : ℕ) → GoodT Q q n → (T : Term) (t : ℕ) (B : List Entry) → walk_t Allowed allowed? q T t B [] ≡ walk_t Any any? q T t B []
    free_t (symbol f ps) n g T t B = rw (free_f ps n g T.args (t + 1) B)
    free_t (individual x) n g T t B = met_free (look (values B) x) x (of_individual T.label T.args) t B [] (individuals x _ g.kept)
    free_t (function x ps) n g T t B =
        rw (met_free (look (values B) x) x (of_function T.label) t B [] (functions x (of_function T.label) g.0.kept))
        (then_same (meet Any any? x (of_function T.label) t B []) _ _ (met_used (look (values B) x) x (of_function T.label) t B) (λ C. free_f ps (after x n) g.1 T.args (t + 1) C))
    free_t (context x q) n g T t B = chosen_free (look (values B) x) x t (t + rows T.args) t (λ d. of_context (cut T d).around) B _ _ (λ d. free_t q (after x n) g.1 (cut T d).at (t + d) B)

    free_f : (ps : Patterns) (n : ℕ) → GoodF Q ps n → (us : Forest) (t : ℕ) (B : List Entry) → walk_f Allowed allowed? ps us t B [] ≡ walk_f Any any? ps us t B []
    free_f nil n g none t B = refl
    free_f nil n g (some l us rest) t B = refl
    free_f (cons q ps) n g none t B = refl
    free_f (cons q ps) n g (some l us rest) t B =
        rw (free_t q n g.0 (term l us) t B) (then_same (walk_t Any any? q (term l us) t B []) _ _ (used_t q (term l us) t B) (λ C. free_f ps (after_t q n) g.1 rest (t + size (term l us)) C))
    free_f (sequence x ps) n g us t B = chosen_free (look (values B) x) x 0 (terms us) t (λ d. of_sequence (take_t d us)) B _ _ (λ d. free_f ps (after x n) g.1 (drop_t d us) (t + rows (take_t d us)) B)

  module _ (R : Forest) (y : ℕ) where
    -- y as one more choice: an answer with constraints, the answer then, and the answer then without constraints
    abbrev NextIs : Res → Res → Res → Type 0
    NextIs fail r p = r ≡ fail
    NextIs (need C s lo hi) r p =
        (((lo ≤ y) × (y ≤ hi) → ⊥) → r ≡ fail)
        × ((k : Kind) → look Q (length (values C)) ≡ old k → lo ≤ y → y ≤ hi
        → Fits k R s y × (Allowed (length (values C)) (value_at k R s y) → (r ≡ p) × Used p) × ((Allowed (length (values C)) (value_at k R s y) → ⊥) → r ≡ fail))
    NextIs (ok C cs) r p = (r ≡ ok C (cs ++ (y ∷ []))) × (p ≡ ok C (cs ++ (y ∷ [])))

    record Next (a r p : Res) : Type 0 where
      is : NextIs a r p

    next_when : {A : Type 0} (d : Dec A) (a r p : Res) → Next a r p → Next (when d a) (when d r) (when d p)
    next_when (yes h) a r p m = m
    next_when (no h) a r p m = record { is = refl }

    -- where the first part asked, and its choice was allowed, what follows is free
    next_then : (a r p : Res) (k k' : List Entry → List ℕ → Res) → Next a r p
        → ((B : List Entry) → k B [] ≡ k' B []) → ((B : List Entry) → Used (k' B []))
        → ((B : List Entry) (cs : List ℕ) → Next (k B cs) (k B (cs ++ (y ∷ []))) (k' B (cs ++ (y ∷ []))))
        → Next (and_then a k) (and_then r k) (and_then p k')
    next_then fail r p k k' m e u h = record { is = rw m.is }
    next_then (need C s lo hi) r p k k' m e u h =
        record {
          is = (
            λ o. rw (m.is.0 o),
            λ j q l b.
                let n = m.is.1 j q l b in
                (n.0, λ a. let z = n.1 a in (rw z.0 (then_same p k k' z.1 e), used_then p k' z.1 u), λ a. rw (n.2 a)),
          );
        }
    next_then (ok C cs) r p k k' m e u h = rw (m.is.0, m.is.1) (h C cs)

    next_met : (l : Look Value) (x : ℕ) (v : Value) (t : ℕ) (B : List Entry) (cs : List ℕ) → Allowed x v
        → Next (met Allowed allowed? l x v t B cs) (met Allowed allowed? l x v t B (cs ++ (y ∷ []))) (met Any any? l x v t B (cs ++ (y ∷ [])))
    next_met l x v t B cs a = rw (met_free l x v t B cs a, met_free l x v t B (cs ++ (y ∷ [])) a) (go l)
      where
        go : (l : Look Value) → Next (met Any any? l x v t B cs) (met Any any? l x v t B (cs ++ (y ∷ []))) (met Any any? l x v t B (cs ++ (y ∷ [])))
        go (old w) = next_when (same? w v) (ok B cs) (ok B (cs ++ (y ∷ []))) (ok B (cs ++ (y ∷ []))) (record { is = (refl, refl) })
        go new = record { is = (refl, refl) }
        go wrong = record { is = refl }

    next_allowed : {A : Type 0} (d : Dec A) (a r p : Res) → Next a r p → Next (when d a) (when d r) p
    next_allowed (yes h) a r p m = m
    next_allowed (no h) a r p m = record { is = refl }

    -- the choice itself is made here
    next_here : (x lo hi t : ℕ) (g : ℕ → Value) (B : List Entry) (c : Kind) (k k' : ℕ → List Entry → List ℕ → Res) → length (values B) ≡ x → look Q x ≡ old c
        → (lo ≤ y → y ≤ hi → (g (y - lo) ≡ value_at c R t y) × Fits c R t y) → ((d : ℕ) (C : List Entry) → (k d C [] ≡ k' d C []) × Used (k' d C []))
        → Next (need B t lo hi) (chosen Allowed allowed? new (y ∷ []) x lo hi t g B k) (chosen Any any? new (y ∷ []) x lo hi t g B k')
    next_here x lo hi t g B c k k' here kept v h = record { is = (λ o. out o (dec_le lo y) (dec_le y hi), λ j q l b. go j q l b (dec_le lo y) (dec_le y hi)) }
      where
        C : List Entry
        C = B ++ (entry (g (y - lo)) t ∷ [])

        r : Res
        r = when (allowed? x (g (y - lo))) (k (y - lo) C [])

        out : ((lo ≤ y) × (y ≤ hi) → ⊥) → (a : Dec (lo ≤ y)) (b : Dec (y ≤ hi)) → when a (when b r) ≡ fail
        out o (yes a) (yes b) = absurd (o (a, b))
        out o (yes a) (no b) = refl
        out o (no a) b = refl

        judged : (d : Dec (Allowed x (g (y - lo)))) (w : Value) → (g (y - lo) ≡ w) × Fits c R t y
            → Fits c R t y × (Allowed x w → (when d (k (y - lo) C []) ≡ k' (y - lo) C []) × Used (k' (y - lo) C [])) × ((Allowed x w → ⊥) → when d (k (y - lo) C []) ≡ fail)
        judged (yes d) w e = (e.1, λ a. h (y - lo) C, λ n. absurd (n (rw e.0 at d)))
        judged (no d) w e = (e.1, λ a. absurd (d (rw e.0 a)), λ n. refl)

        go : (j : Kind) → look Q (length (values B)) ≡ old j → lo ≤ y → y ≤ hi → (a : Dec (lo ≤ y)) (b : Dec (y ≤ hi))
            → Fits j R t y × (Allowed (length (values B)) (value_at j R t y) → (when a (when b r) ≡ when a (when b (k' (y - lo) C []))) × Used (when a (when b (k' (y - lo) C []))))
            × ((Allowed (length (values B)) (value_at j R t y) → ⊥) → when a (when b r) ≡ fail)
        go j q l b (yes a) (yes d) =
            let z : old j ≡ old c = flip q ∙ rw here kept in
            let e : j ≡ c = cc in
            rw (here, e) (judged (allowed? x (g (y - lo))) (value_at c R t y) (v l b))
        go j q l b (yes a) (no d) = absurd (d b)
        go j q l b (no a) d = absurd (a l)

    next_chosen : (l : Look Value) (cs : List ℕ) (x lo hi t : ℕ) (g : ℕ → Value) (B : List Entry) (c : Kind) (k k' : ℕ → List Entry → List ℕ → Res) → look (values B) x ≡ l → look Q x ≡ old c
        → (lo ≤ y → y ≤ hi → (g (y - lo) ≡ value_at c R t y) × Fits c R t y) → ((d : ℕ) (C : List Entry) → (k d C [] ≡ k' d C []) × Used (k' d C []))
        → ((w : Value) → w ≡ g (span w) → Next (k (span w) B cs) (k (span w) B (cs ++ (y ∷ []))) (k' (span w) B (cs ++ (y ∷ []))))
        → ((e : ℕ) → lo ≤ e → e ≤ hi → (C : List Entry) (ds : List ℕ) → Next (k (e - lo) C ds) (k (e - lo) C (ds ++ (y ∷ []))) (k' (e - lo) C (ds ++ (y ∷ []))))
        → Next (chosen Allowed allowed? l cs x lo hi t g B k) (chosen Allowed allowed? l (cs ++ (y ∷ [])) x lo hi t g B k) (chosen Any any? l (cs ++ (y ∷ [])) x lo hi t g B k')
    next_chosen (old w) cs x lo hi t g B c k k' e kept v f h i = go (same? w (g (span w)))
      where
        go : (d : Dec (w ≡ g (span w))) → Next (when d (k (span w) B cs)) (when d (k (span w) B (cs ++ (y ∷ [])))) (when d (k' (span w) B (cs ++ (y ∷ []))))
        go (yes s) = h w s
        go (no n) = record { is = refl }
    next_chosen new [] x lo hi t g B c k k' e kept v f h i = next_here x lo hi t g B c k k' (flip (look_new (values B) x e)) kept v f
    next_chosen new (d ∷ cs) x lo hi t g B c k k' e kept v f h i = go (dec_le lo d) (dec_le d hi)
      where
        C : List Entry
        C = B ++ (entry (g (d - lo)) t ∷ [])

        a : Res
        a = when (allowed? x (g (d - lo))) (k (d - lo) C cs)

        r : Res
        r = when (allowed? x (g (d - lo))) (k (d - lo) C (cs ++ (y ∷ [])))

        p : Res
        p = k' (d - lo) C (cs ++ (y ∷ []))

        go : (m : Dec (lo ≤ d)) (n : Dec (d ≤ hi)) → Next (when m (when n a)) (when m (when n r)) (when m (when n p))
        go (yes m) (yes n) = next_allowed (allowed? x (g (d - lo))) _ _ _ (i d m n C cs)
        go (yes m) (no n) = record { is = refl }
        go (no m) n = record { is = refl }
    next_chosen wrong cs x lo hi t g B c k k' e kept v f h i = record { is = refl }

    -- what a later appearance or a choice leaves to be walked stands where it is said to stand
    hole_there : {t : ℕ} {T : Term} (d : ℕ) → HereT R t T → hole_row (cut T d).around ≡ d → HereT R (t + d) (cut T d).at
    hole_there {t} {T} d h e = rw e at (here_hole {R = R} {t = t} (cut T d).around (cut T d).at (rw (cut_plugs T d) h))

    rest_there : {t : ℕ} (us : Forest) (d : ℕ) → HereF R t us → HereF R (t + rows (take_t d us)) (drop_t d us)
    rest_there {t} us d h = here_drop {R = R} {t = t} (take_t d us) (drop_t d us) (rw (take_drop d us) h)

    taken_there : {t : ℕ} (us : Forest) (d : ℕ) → HereF R t us → d ≤ terms us → take_t d us ≡ take_t d (forest_from_row R t)
    unfolding take_t terms rows
    taken_there none zero h b = refl
    taken_there none (suc d) h b = absurd (omega arith)
    taken_there (some l us rest) d h b = rw (h.shows (omega arith))

    -- the numbers are good
    hole_fits_there : {t : ℕ} {T : Term} → HereT R t T → t ≤ y → y ≤ t + rows T.args → Fits a_context R t y
    unfolding rows
    hole_fits_there h l b =
        let i = rw h.shows at (here_in h) in
        (omega arith, l, rw h.shows (omega arith))

    terms_there : {t : ℕ} (us : Forest) (d : ℕ) → HereF R t us → d ≤ terms us → Fits a_sequence R t d
    unfolding terms rows
    terms_there none d h b = (omega (arith, h.inside), omega arith)
    terms_there (some l us rest) d h b = (omega (arith, h.inside), rw (h.shows (omega arith)) b)

    mutual
      unfolding walk_t GoodT

      next_t : (q : Pattern) (n : ℕ) → GoodT Q q n → (T : Term) (t : ℕ) (B : List Entry) (cs : List ℕ) → HereT R t T
          → Next (walk_t Allowed allowed? q T t B cs) (walk_t Allowed allowed? q T t B (cs ++ (y ∷ []))) (walk_t Any any? q T t B (cs ++ (y ∷ [])))
      next_t (symbol f ps) n g T t B cs h = next_when (ℕ_discrete f T.label) _ _ _ (next_f ps n g T.args (t + 1) B cs (here_args h))
      next_t (individual x) n g T t B cs h = next_met (look (values B) x) x (of_individual T.label T.args) t B cs (individuals x (of_individual T.label T.args) g.kept)
      next_t (function x ps) n g T t B cs h =
          next_then _ _ _ _ _ (next_met (look (values B) x) x (of_function T.label) t B cs (functions x (of_function T.label) g.0.kept))
          (λ C. free_f ps (after x n) g.1 T.args (t + 1) C) (λ C. used_f ps T.args (t + 1) C) (λ C ds. next_f ps (after x n) g.1 T.args (t + 1) C ds (here_args h))
      next_t (context x q) n g T t B cs h =
          next_chosen (look (values B) x) cs x t (t + rows T.args) t (λ d. of_context (cut T d).around) B a_context _ _ refl g.0.kept
          (λ l b. (rw h.shows refl, hole_fits_there h l b))
          (λ d C. (free_t q (after x n) g.1 (cut T d).at (t + d) C, used_t q (cut T d).at (t + d) C))
          (λ w e. next_t q (after x n) g.1 (cut T (span w)).at (t + span w) B cs (hole_there (span w) h (flip (ap span e))))
          (λ d l b C ds. next_t q (after x n) g.1 (cut T (d - t)).at (t + (d - t)) C ds (hole_there (d - t) h (cut_holds T (d - t) (omega arith))))

      next_f : (ps : Patterns) (n : ℕ) → GoodF Q ps n → (us : Forest) (t : ℕ) (B : List Entry) (cs : List ℕ) → HereF R t us
          → Next (walk_f Allowed allowed? ps us t B cs) (walk_f Allowed allowed? ps us t B (cs ++ (y ∷ []))) (walk_f Any any? ps us t B (cs ++ (y ∷ [])))
      next_f nil n g none t B cs h = record { is = (refl, refl) }
      next_f nil n g (some l us rest) t B cs h = record { is = refl }
      next_f (cons q ps) n g none t B cs h = record { is = refl }
      next_f (cons q ps) n g (some l us rest) t B cs h =
          next_then _ _ _ _ _ (next_t q n g.0 (term l us) t B cs (here_first (term l us) rest h))
          (λ C. free_f ps (after_t q n) g.1 rest (t + size (term l us)) C) (λ C. used_f ps rest (t + size (term l us)) C)
          (λ C ds. next_f ps (after_t q n) g.1 rest (t + size (term l us)) C ds (here_next (term l us) rest h))
      next_f (sequence x ps) n g us t B cs h =
          next_chosen (look (values B) x) cs x 0 (terms us) t (λ d. of_sequence (take_t d us)) B a_sequence _ _ refl g.0.kept
          (λ l b. (rw (sub-zero y) (ap of_sequence (taken_there us y h b)), terms_there us y h b))
          (λ d C. (free_f ps (after x n) g.1 (drop_t d us) (t + rows (take_t d us)) C, used_f ps (drop_t d us) (t + rows (take_t d us)) C))
          (λ w e. next_f ps (after x n) g.1 (drop_t (span w) us) (t + rows (take_t (span w) us)) B cs (rest_there us (span w) h))
          (λ d l b C ds. next_f ps (after x n) g.1 (drop_t (d - 0) us) (t + rows (take_t (d - 0) us)) C ds (rest_there us (d - 0) h))

  -- the whole walk: before any choice, and with one choice more
  module _ {P : Pattern} (g : Numbered P Q) (T : Term) where
    pub first_free : walk Allowed allowed? P T [] ≡ walk Any any? P T []
    first_free = ap over (free_t P 0 g.numbered T 0 [])

    next_at : (cs : List ℕ) (y : ℕ) {B : List Entry} {s lo hi : ℕ} → walk Allowed allowed? P T cs ≡ need B s lo hi
        → NextIs (T ◂ none) y (need B s lo hi) (walk_t Allowed allowed? P T 0 [] (cs ++ (y ∷ []))) (walk_t Any any? P T 0 [] (cs ++ (y ∷ [])))
    unfolding forest_from_row
    next_at cs y e =
        rw (over_need (walk_t Allowed allowed? P T 0 [] cs) e) at (next_t (T ◂ none) y P 0 g.numbered T 0 [] cs (record { rest = none; shows = refl })).is

    -- a value in the range that the walk asks for is good for a record
    pub next_fits : (cs : List ℕ) (y : ℕ) {B : List Entry} {s lo hi : ℕ} (k : Kind) → walk Allowed allowed? P T cs ≡ need B s lo hi → look Q (length (values B)) ≡ old k → lo ≤ y → y ≤ hi
        → Fits k (T ◂ none) s y
    next_fits cs y k e q l b = ((next_at cs y e).1 k q l b).0

    -- where it is allowed, the walk goes on without constraints; where not, it fails
    pub next_judged : (cs : List ℕ) (y : ℕ) {B : List Entry} {s lo hi : ℕ} (k : Kind) → walk Allowed allowed? P T cs ≡ need B s lo hi → look Q (length (values B)) ≡ old k → lo ≤ y → y ≤ hi
        → (Allowed (length (values B)) (value_at k (T ◂ none) s y) → walk Allowed allowed? P T (cs ++ (y ∷ [])) ≡ walk Any any? P T (cs ++ (y ∷ [])))
        × ((Allowed (length (values B)) (value_at k (T ◂ none) s y) → ⊥) → walk Allowed allowed? P T (cs ++ (y ∷ [])) ≡ fail)
    next_judged cs y k e q l b =
        let j = (next_at cs y e).1 k q l b in
        (λ a. ap over (j.1 a).0, λ a. ap over (j.2 a))
