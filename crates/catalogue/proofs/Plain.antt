-- The plain reading of tries and matches, for an honest walk.
use mathlib.Core.Path.{◌≡◌, refl, sym, ap, ◌∙◌}
use mathlib.Core.List.{List, [], ◌∷◌, ◌++◌, append_assoc, append-nil}
use Prim.Native.Nat.{ℕ}
use native.Mathlib.Omega.{arith}
use Rattle.catalogue.proofs.Events.{Outcome, fail, need, done, snoc, Within, Leads, Some}
use Rattle.catalogue.proofs.Run.{Match, IsTry, IsMatch}

-- ---- the plain reading. A walk is honest if choices that do not fail were each asked for.
module _ (walk : List ℕ → Outcome) (honest : (q : List ℕ) (x : ℕ) → (walk (snoc q x) ≡ fail → ⊥) → Within x (walk q)) where
  within_alive : (x : ℕ) (o : Outcome) → Within x o → o ≡ fail → ⊥
  within_alive x fail w e = w
  within_alive x (need lo n) w e = let z : ◌≡◌ {A = ℕ} 0 1 = cc in omega arith
  within_alive x (done r) w e = w

  -- what leads to an answer that is none does not fail on the way
  pub alive : (p s : List ℕ) → (walk (p ++ s) ≡ fail → ⊥) → walk p ≡ fail → ⊥
  alive p [] h e = h (ap walk (append-nil p) ∙ e)
  alive p (x ∷ s) h e = within_alive x (walk p) (honest p x (alive (snoc p x) s (λ k. h (ap walk (sym (append_assoc p (x ∷ []) s)) ∙ k)))) e

  leads : (p s : List ℕ) → (walk (p ++ s) ≡ fail → ⊥) → Leads walk p s
  leads p [] h = tt
  leads p (x ∷ s) h =
      let h' : walk (snoc p x ++ s) ≡ fail → ⊥ = λ k. h (ap walk (sym (append_assoc p (x ∷ []) s)) ∙ k) in
      (honest p x (alive (snoc p x) s h'), leads (snoc p x) s h')

  leads_more : (p s : List ℕ) (x : ℕ) → Leads walk p s → Within x (walk (p ++ s)) → Leads walk p (snoc s x)
  leads_more p [] x l w = (rw (append-nil p) at w, tt)
  leads_more p (y ∷ s) x l w = (l.0, leads_more (snoc p y) s x l.1 (rw (append_assoc p (y ∷ []) s) w))

  -- a try: the choices before the last are answered by a need, and the last is one of its values
  pub plain_try : (q : List ℕ) (x : ℕ) → Within x (walk q) → IsTry walk (snoc q x)
  plain_try q x w = (some_snoc q, leads_more [] q x (leads [] q (within_alive x (walk q) w)) w)
    where
      some_snoc : (l : List ℕ) → Some (snoc l x)
      some_snoc [] = tt
      some_snoc (y ∷ l) = tt

  -- a match: the choices are answered by a record
  pub plain_match : (s : Match) → walk s.choices ≡ done s.values → IsMatch walk s
  plain_match s h = (leads [] s.choices (λ e. let z : ◌≡◌ {A = ℕ} 0 1 = cc in omega arith), h)

-- and each try is so, of any walk
last_of : (walk : List ℕ → Outcome) (p : List ℕ) (x : ℕ) (s : List ℕ) → Leads walk p (x ∷ s) → (q : List ℕ) × (y : ℕ) × (x ∷ s ≡ snoc q y) × Within y (walk (p ++ q))
last_of walk p x [] l = ([], x, refl, rw (append-nil p) l.0)
last_of walk p x (z ∷ s) l =
    let i = last_of walk (snoc p x) z s l.1 in
    (x ∷ i.0, i.1, ap (λ k. x ∷ k) i.2, rw (append_assoc p (x ∷ []) i.0) at i.3)

pub try_plain : (walk : List ℕ → Outcome) (v : List ℕ) → IsTry walk v → (q : List ℕ) × (y : ℕ) × (v ≡ snoc q y) × Within y (walk q)
try_plain walk [] h = absurd h.0
try_plain walk (x ∷ v) h = last_of walk [] x v h.1
