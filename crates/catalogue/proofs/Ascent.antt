-- The order of tries: depth first, a list of choices before those that it begins.
use mathlib.Core.Path.{◌≡◌, refl, sym, ◌∙◌, subst}
use mathlib.Core.Logic.{◌⊎◌, inl, inr, ⊎_elim}
use mathlib.Core.List.{List, [], ◌∷◌, ◌++◌, append_assoc, append-nil}
use Prim.Native.Nat.{ℕ, zero, suc}
use native.Mathlib.Omega.{arith}
use Rattle.meaning.specs.Order.{◌⊏◌, Mem, Ascending}
use Rattle.catalogue.proofs.Events.{Outcome, fail, need, done, Event, tried, matched, key, snoc, branch, after, events, mem_cases, Some, Found, FoundAmong, sound, branch_found}

infix 30 ◌≪◌
pub ⊏-irrefl : (v : List ℕ) → v ⊏ v → ⊥
⊏-irrefl [] h = h
⊏-irrefl (x ∷ v) (inl h) = omega arith
⊏-irrefl (x ∷ v) (inr h) = ⊏-irrefl v h.1

pub ⊏-trans : (u v w : List ℕ) → u ⊏ v → v ⊏ w → u ⊏ w
⊏-trans u v [] g h = h
⊏-trans u [] (z ∷ w) g h = absurd g
⊏-trans [] (y ∷ v) (z ∷ w) g h = tt
⊏-trans (x ∷ u) (y ∷ v) (z ∷ w) (inl g) (inl h) = inl (omega arith)
⊏-trans (x ∷ u) (y ∷ v) (z ∷ w) (inl g) (inr h) = inl (omega (arith, h.0))
⊏-trans (x ∷ u) (y ∷ v) (z ∷ w) (inr g) (inl h) = inl (omega (arith, g.0))
⊏-trans (x ∷ u) (y ∷ v) (z ∷ w) (inr g) (inr h) = inr (g.0 ∙ h.0, ⊏-trans u v w g.1 h.1)

⊏-after : (p v w : List ℕ) → v ⊏ w → (p ++ v) ⊏ (p ++ w)
⊏-after [] v w h = h
⊏-after (x ∷ p) v w h = inr (refl, ⊏-after p v w h)

⊏-longer : (p s : List ℕ) → Some s → p ⊏ (p ++ s)
⊏-longer [] [] h = h
⊏-longer [] (y ∷ s) h = tt
⊏-longer (x ∷ p) s h = inr (refl, ⊏-longer p s h)

-- one event comes before another: by its choices, or it is the try that leads to the match
abbrev pub ◌≪◌ : Event → Event → Type 0
a ≪ tried w = key a ⊏ w
tried v ≪ matched w r = (v ⊏ w) ⊎ (v ≡ w)
matched v q ≪ matched w r = v ⊏ w

by_key : (a b : Event) → key a ⊏ key b → a ≪ b
by_key a (tried w) h = h
by_key (tried v) (matched w r) h = inl h
by_key (matched v q) (matched w r) h = h

ascending_append : {A : Type 0} (R : A → A → Type 0) (l k : List A) → Ascending R l → Ascending R k → ((a b : A) → Mem a l → Mem b k → R a b) → Ascending R (l ++ k)
ascending_append R [] k g h i = h
ascending_append R (a ∷ l) k g h i =
    (λ b m. ⊎_elim (λ n. g.0 b n) (λ n. i a b (inl refl) n) (mem_cases b l k m), ascending_append R l k g.1 h (λ a' b m n. i a' b (inr m) n))

module _ (walk : List ℕ → Outcome) where
  first_before : (p : List ℕ) (e : Event) → Found walk p e → tried p ≪ e
  first_before p (tried v) h = rw h.at (⊏-longer p h.path h.kind)
  first_before p (matched v r) h = go h.path h.at
    where
      go : (s : List ℕ) → v ≡ p ++ s → (p ⊏ v) ⊎ (p ≡ v)
      go [] k = inr (sym (k ∙ append-nil p))
      go (x ∷ s) k = inl (rw k (⊏-longer p (x ∷ s) tt))

  across : (p : List ℕ) (lo n : ℕ) (a b : Event) (s : List ℕ) → key a ≡ snoc p lo ++ s → FoundAmong walk p (suc lo) n b → a ≪ b
  across p lo n a b s g h =
      by_key a b (rw (g, append_assoc p (lo ∷ []) s, h.at) (⊏-after p (lo ∷ s) (h.first ∷ h.path) (inl (omega (arith, h.low)))))

  module _ (f : List ℕ → List Event) (p : List ℕ) (hf : (x : ℕ) (e : Event) → Mem e (f (snoc p x)) → Found walk (snoc p x) e) (hs : (x : ℕ) → Ascending ◌≪◌ (f (snoc p x))) where
    branch_ascending : (lo n : ℕ) → Ascending ◌≪◌ (branch f p lo n)
    branch_ascending lo zero = tt
    branch_ascending lo (suc n) = (
      λ e m.
          ⊎_elim (λ k. first_before (snoc p lo) e (hf lo e k))
          (λ k. across p lo n (tried (snoc p lo)) e [] (sym (append-nil (snoc p lo))) (branch_found walk f p hf (suc lo) n e k))
          (mem_cases e (f (snoc p lo)) (branch f p (suc lo) n) m),
      ascending_append ◌≪◌ (f (snoc p lo)) (branch f p (suc lo) n) (hs lo) (branch_ascending (suc lo) n)
          (λ a b k l. across p lo n a b (hf lo a k).path (hf lo a k).at (branch_found walk f p hf (suc lo) n b l)),
    )

    after_ascending : (o : Outcome) → Ascending ◌≪◌ (after f p o)
    after_ascending fail = tt
    after_ascending (need lo n) = branch_ascending lo n
    after_ascending (done r) = (λ e m. absurd m, tt)

  -- the events are in strictly ascending order
  pub ascending : (m : ℕ) (p : List ℕ) → Ascending ◌≪◌ (events walk m p)
  ascending zero p = after_ascending (λ q. []) p (λ x e k. absurd k) (λ x. tt) (walk p)
  ascending (suc m) p = after_ascending (events walk m) p (λ x e k. sound walk m (snoc p x) e k) (λ x. ascending m (snoc p x)) (walk p)

-- two lists in strictly ascending order with the same members are the same list
module _ {A : Type 0} (R : A → A → Type 0) (irr : (a : A) → R a a → ⊥) (tr : (a b c : A) → R a b → R b c → R a c) where
  same_head : (a b : A) (l k : List A) → Ascending R (a ∷ l) → Ascending R (b ∷ k) → Mem a (b ∷ k) → Mem b (a ∷ l) → a ≡ b
  same_head a b l k g h (inl e) n = e
  same_head a b l k g h (inr m) (inl e) = sym e
  same_head a b l k g h (inr m) (inr n) = absurd (irr a (tr a b a (g.0 b n) (h.0 a m)))

  within_tail : (a b : A) (l k : List A) → a ≡ b → Ascending R (a ∷ l) → ((c : A) → Mem c (a ∷ l) → Mem c (b ∷ k)) → (c : A) → Mem c l → Mem c k
  within_tail a b l k e g i c m =
      ⊎_elim (λ h. absurd (irr a (subst (λ (d : A). R a d) (h ∙ sym e) (g.0 c m)))) (λ h. h) (i c (inr m))

  pub unique : (l k : List A) → Ascending R l → Ascending R k → ((c : A) → Mem c l → Mem c k) → ((c : A) → Mem c k → Mem c l) → l ≡ k
  unique [] [] g h i j = refl
  unique [] (b ∷ k) g h i j = absurd (j b (inl refl))
  unique (a ∷ l) [] g h i j = absurd (i a (inl refl))
  unique (a ∷ l) (b ∷ k) g h i j =
      let e : a ≡ b = same_head a b l k g h (i a (inl refl)) (j b (inl refl)) in
      let t : l ≡ k = unique l k g.1 h.1 (within_tail a b l k e g i) (within_tail b a k l (sym e) h j) in
      cc
