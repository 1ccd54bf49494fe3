-- A deterministic walk answers a list of choices. The events of all tries in depth-first order.
use mathlib.Core.Path.{◌≡◌, refl, sym, ap, ◌∙◌, subst}
use mathlib.Core.Logic.{◌⊎◌, inl, inr, ⊎_elim}
use mathlib.Core.List.{List, [], ◌∷◌, ◌++◌, append_assoc, append-nil}
use Prim.Native.Nat.{ℕ, zero, suc, ◌+◌, ◌≤◌, ◌<◌}
use native.Mathlib.Omega.{arith}
use native.Mathlib.Decide.{ℕ_discrete, dec_lt}
use lib.ListN.{length, length-append}
use Rattle.meaning.specs.Order.{Mem}

-- what a walk answers: no match here; a choice is needed, lo .. lo + count - 1; a match, with its record
pub data Outcome : Type 0 where
  fail : Outcome
  need : ℕ → ℕ → Outcome
  done : List ℕ → Outcome

-- what happens, in order: a try, by its choices; a match, by its choices and its record
pub data Event : Type 0 where
  tried : List ℕ → Event
  matched : List ℕ → List ℕ → Event

abbrev pub key : Event → List ℕ
key (tried v) = v
key (matched v r) = v

-- one more choice
abbrev pub snoc : List ℕ → ℕ → List ℕ
snoc p x = p ++ (x ∷ [])

-- the values lo, lo + 1, .., count of them, each tried and then followed by what f says
abbrev pub branch : (List ℕ → List Event) → List ℕ → ℕ → ℕ → List Event
branch f p lo zero = []
branch f p lo (suc n) = tried (snoc p lo) ∷ (f (snoc p lo) ++ branch f p (suc lo) n)

abbrev pub after : (List ℕ → List Event) → List ℕ → Outcome → List Event
after f p fail = []
after f p (need lo n) = branch f p lo n
after f p (done r) = matched p r ∷ []

-- the events after the choices p, with at most m further choices
abbrev pub events : (List ℕ → Outcome) → ℕ → List ℕ → List Event
events walk zero p = after (λ q. []) p (walk p)
events walk (suc m) p = after (events walk m) p (walk p)

-- x is one of the values that an answer asks for
abbrev pub Within : ℕ → Outcome → Type 0
Within x fail = ⊥
Within x (need lo n) = (lo ≤ x) × (x < lo + n)
Within x (done r) = ⊥

-- s leads on from the choices p: each number of s is one that the walk of those before it asks for
abbrev pub Leads : (List ℕ → Outcome) → List ℕ → List ℕ → Type 0
Leads walk p [] = Unit {0}
Leads walk p (x ∷ s) = Within x (walk p) × Leads walk (snoc p x) s

module _ {A : Type 0} where
  pub mem_left : (a : A) (l k : List A) → Mem a l → Mem a (l ++ k)
  mem_left a [] k h = absurd h
  mem_left a (b ∷ l) k (inl e) = inl e
  mem_left a (b ∷ l) k (inr h) = inr (mem_left a l k h)

  pub mem_right : (a : A) (l k : List A) → Mem a k → Mem a (l ++ k)
  mem_right a [] k h = h
  mem_right a (b ∷ l) k h = inr (mem_right a l k h)

  pub mem_cases : (a : A) (l k : List A) → Mem a (l ++ k) → Mem a l ⊎ Mem a k
  mem_cases a [] k h = inr h
  mem_cases a (b ∷ l) k (inl e) = inl (inl e)
  mem_cases a (b ∷ l) k (inr h) = ⊎_elim (λ m. inl (inr m)) (λ m. inr m) (mem_cases a l k h)

-- s has a number
abbrev pub Some : List ℕ → Type 0
Some [] = ⊥
Some (x ∷ s) = Unit {0}

-- what more is true of an event that s leads to: a try has a last choice, a match is answered by its record
abbrev pub Kinded : (List ℕ → Outcome) → List ℕ → Event → Type 0
Kinded walk s (tried v) = Some s
Kinded walk s (matched v r) = walk v ≡ done r

-- e is an event that p leads to
pub record Found (walk : List ℕ → Outcome) (p : List ℕ) (e : Event) : Type 0 where
  pub path : List ℕ
  pub at : key e ≡ p ++ path
  pub leads : Leads walk p path
  pub kind : Kinded walk path e

pub record FoundAmong (walk : List ℕ → Outcome) (p : List ℕ) (lo n : ℕ) (e : Event) : Type 0 where
  pub first : ℕ
  pub path : List ℕ
  pub at : key e ≡ p ++ (first ∷ path)
  pub low : lo ≤ first
  pub high : first < lo + n
  pub leads : Leads walk (snoc p first) path
  pub kind : Kinded walk (first ∷ path) e

module _ (walk : List ℕ → Outcome) where
  kind_cons : (x : ℕ) (s : List ℕ) (e : Event) → Kinded walk s e → Kinded walk (x ∷ s) e
  kind_cons x s (tried v) h = tt
  kind_cons x s (matched v r) h = h

  module _ (f : List ℕ → List Event) (p : List ℕ) (hf : (x : ℕ) (e : Event) → Mem e (f (snoc p x)) → Found walk (snoc p x) e) where
    at_first : (lo n : ℕ) (e : Event) → e ≡ tried (snoc p lo) → FoundAmong walk p lo (suc n) e
    at_first lo n e h = subst (FoundAmong walk p lo (suc n)) (sym h) (record { first = lo; path = []; at = refl; low = omega arith; high = omega arith; leads = tt; kind = tt })

    below_first : (lo n : ℕ) (e : Event) → Found walk (snoc p lo) e → FoundAmong walk p lo (suc n) e
    below_first lo n e h =
        record {
          first = lo;
          path = h.path;
          at = h.at ∙ append_assoc p (lo ∷ []) h.path;
          low = omega arith;
          high = omega arith;
          leads = h.leads;
          kind = kind_cons lo h.path e h.kind;
        }

    past_first : (lo n : ℕ) (e : Event) → FoundAmong walk p (suc lo) n e → FoundAmong walk p lo (suc n) e
    past_first lo n e h =
        record {
          first = h.first;
          path = h.path;
          at = h.at;
          low = omega (arith, h.low);
          high = omega (arith, h.high);
          leads = h.leads;
          kind = h.kind;
        }

    pub branch_found : (lo n : ℕ) (e : Event) → Mem e (branch f p lo n) → FoundAmong walk p lo n e
    branch_found lo zero e m = absurd m
    branch_found lo (suc n) e (inl h) = at_first lo n e h
    branch_found lo (suc n) e (inr m) =
        ⊎_elim (λ k. below_first lo n e (hf lo e k)) (λ k. past_first lo n e (branch_found (suc lo) n e k))
        (mem_cases e (f (snoc p lo)) (branch f p (suc lo) n) m)

    after_found : (e : Event) (o : Outcome) → walk p ≡ o → Mem e (after f p o) → Found walk p e
    after_found e fail h m = absurd m
    after_found e (need lo n) h m =
        let w = branch_found lo n e m in
        record {
          path = w.first ∷ w.path;
          at = w.at;
          leads = (rw h (w.low, w.high), w.leads);
          kind = w.kind;
        }
    after_found e (done r) h (inl k) = subst (Found walk p) (sym k) (record { path = []; at = sym (append-nil p); leads = tt; kind = h })
    after_found e (done r) h (inr k) = absurd k

  -- every event is one that the walk leads to
  pub sound : (m : ℕ) (p : List ℕ) (e : Event) → Mem e (events walk m p) → Found walk p e
  sound zero p e m = after_found (λ q. []) p (λ x e k. absurd k) e (walk p) refl m
  sound (suc n) p e m = after_found (events walk n) p (λ x e k. sound n (snoc p x) e k) e (walk p) refl m

  here_first : (f : List ℕ → List Event) (p : List ℕ) (lo n x : ℕ) (e : Event) → lo ≡ x → Mem e (tried (snoc p x) ∷ f (snoc p x)) → Mem e (branch f p lo (suc n))
  here_first f p lo n x e k (inl h) = inl (h ∙ ap (λ (y : ℕ). tried (snoc p y)) (sym k))
  here_first f p lo n x e k (inr h) = inr (mem_left e (f (snoc p lo)) (branch f p (suc lo) n) (rw k h))

  branch_has : (f : List ℕ → List Event) (p : List ℕ) (lo n x : ℕ) (e : Event) → lo ≤ x → x < lo + n → Mem e (tried (snoc p x) ∷ f (snoc p x)) → Mem e (branch f p lo n)
  branch_has f p lo zero x e l h m = absurd (omega arith)
  branch_has f p lo (suc n) x e l h m =
      elim (ℕ_discrete lo x) [
        | yes k ↦ here_first f p lo n x e k m
        | no k ↦ inr (mem_right e (f (snoc p lo)) (branch f p (suc lo) n) (branch_has f p (suc lo) n x e (omega arith) (omega arith) m))
      ]

  after_has : (f : List ℕ → List Event) (p : List ℕ) (x : ℕ) (e : Event) (o : Outcome) → Within x o → Mem e (tried (snoc p x) ∷ f (snoc p x)) → Mem e (after f p o)
  after_has f p x e fail w m = absurd w
  after_has f p x e (need lo n) w m = branch_has f p lo n x e w.0 w.1 m
  after_has f p x e (done r) w m = absurd w

  -- an event of which s is the whole way is the first or below
  head_or_below : (f : List ℕ → List Event) (p : List ℕ) (x : ℕ) (s : List ℕ) (e : Event)
      → key e ≡ p ++ (x ∷ s) → Kinded walk (x ∷ s) e → (Kinded walk s e → Mem e (f (snoc p x))) → Mem e (tried (snoc p x) ∷ f (snoc p x))
  head_or_below f p x [] (tried v) h k b = inl (ap tried h)
  head_or_below f p x (y ∷ s) (tried v) h k b = inr (b tt)
  head_or_below f p x s (matched v r) h k b = inr (b k)

  events_done : (m : ℕ) (p : List ℕ) (e : Event) → key e ≡ p ++ [] → Kinded walk [] e → Mem e (events walk m p)
  events_done m p (tried v) h k = absurd k
  events_done zero p (matched v r) h k = rw (ap walk (sym (h ∙ append-nil p)) ∙ k) (inl (ap (λ q. matched q r) (h ∙ append-nil p)))
  events_done (suc m) p (matched v r) h k = rw (ap walk (sym (h ∙ append-nil p)) ∙ k) (inl (ap (λ q. matched q r) (h ∙ append-nil p)))

  -- every event that the walk leads to is there
  pub complete : (m : ℕ) (p s : List ℕ) (e : Event) → length s ≤ m → Leads walk p s → key e ≡ p ++ s → Kinded walk s e → Mem e (events walk m p)
  complete m p [] e b l h k = events_done m p e h k
  complete zero p (x ∷ s) e b l h k = absurd (omega arith)
  complete (suc m) p (x ∷ s) e b l h k =
      after_has (events walk m) p x e (walk p) l.0
      (head_or_below (events walk m) p x s e h k (λ k'. complete m (snoc p x) s e (omega arith) l.1 (h ∙ sym (append_assoc p (x ∷ []) s)) k'))

  -- where no list of bound choices or more is asked for a further one, no way is longer
  module _ (bound : ℕ) (stops : (v : List ℕ) (x : ℕ) → bound ≤ length v → Within x (walk v) → ⊥) where
    pub short : (p s : List ℕ) → length p ≤ bound → Leads walk p s → length p + length s ≤ bound
    short p [] h l = omega arith
    short p (x ∷ s) h l =
        let g : length p < bound = elim (dec_lt (length p) bound) [ yes k ↦ k | no k ↦ absurd (stops p x (omega arith) l.0) ] in
        let e : length (snoc p x) ≡ length p + 1 = length-append p (x ∷ []) in
        let i = short (snoc p x) s (omega arith) l.1 in
        omega arith
