-- Those of a list whose numbers come strictly after w.
use Prim.Native.Nat.{ℕ, suc, ◌+◌, ◌≤◌}
use mathlib.Core.Path.{◌≡◌, refl, ap, ◌∙◌, sym}
use mathlib.Core.Logic.{inl, inr}
use mathlib.Core.Bool.{Bool, true, false, cond}
use mathlib.Core.List.{List, [], ◌∷◌, ◌++◌}
use lib.ListN.{length}
use native.Mathlib.Omega.{arith}
use Rattle.meaning.specs.Order.{◌⊏◌, Mem, Ascending}
use Rattle.catalogue.specs.Answer.{upto, place}
use Rattle.catalogue.specs.Page.{beyond}
use Rattle.catalogue.proofs.Events.{mem_right}
use Rattle.catalogue.proofs.Run.{upto_less, upto_refl, upto_more}

pub split : {A : Type 0} (a : A) (l : List A) → Mem a l → (front : List A) × (rest : List A) × (l ≡ front ++ (a ∷ rest))
split a [] m = absurd m
split a (b ∷ l) (inl e) = ([], l, ap (λ c. c ∷ l) (sym e))
split a (b ∷ l) (inr m) = let s = split a l m in (b ∷ s.0, s.1, ap (λ k. b ∷ k) s.2)

module _ (numbers : List ℕ → List ℕ) where
  -- what is up to w is left out, and what stands behind that is kept
  pub beyond_part : (w : List ℕ) (a b : List (List ℕ)) → ((v : List ℕ) → Mem v a → upto (numbers v) w ≡ true) → ((v : List ℕ) → Mem v b → upto (numbers v) w ≡ false)
      → beyond numbers w (a ++ b) ≡ b
  beyond_part w (v ∷ a) b h k = rw (h v (inl refl)) (beyond_part w a b (λ u m. h u (inr m)) k)
  beyond_part w [] [] h k = refl
  beyond_part w [] (v ∷ b) h k = rw (k v (inl refl)) (ap (λ l. v ∷ l) (beyond_part w [] b h (λ u m. k u (inr m))))

  cut_off : (earlier rest : List (List ℕ)) (r : List ℕ) → Ascending (λ a b. numbers a ⊏ numbers b) (earlier ++ (r ∷ rest)) → beyond numbers (numbers r) (earlier ++ (r ∷ rest)) ≡ rest
  cut_off [] rest r a = rw (upto_refl (numbers r)) (beyond_part (numbers r) [] rest (λ v m. absurd m) (λ v m. upto_more (numbers r) (numbers v) (a.0 v m)))
  cut_off (v ∷ earlier) rest r a = rw (upto_less (numbers v) (numbers r) (a.0 r (mem_right r earlier (r ∷ rest) (inl refl)))) (cut_off earlier rest r a.1)

  -- of a list in order all up to r are left out, and all behind it are kept
  pub beyond_cut : (l earlier rest : List (List ℕ)) (r : List ℕ) → Ascending (λ a b. numbers a ⊏ numbers b) l → l ≡ earlier ++ (r ∷ rest) → beyond numbers (numbers r) l ≡ rest
  beyond_cut l earlier rest r a e = rw e (cut_off earlier rest r (rw e at a))

  pub cut_at : (r : List ℕ) (l : List (List ℕ)) → Ascending (λ a b. numbers a ⊏ numbers b) l → Mem r l → (earlier : List (List ℕ)) × (l ≡ earlier ++ (r ∷ beyond numbers (numbers r) l))
  cut_at r l a m = let s = split r l m in (s.0, s.2 ∙ ap (λ k. s.0 ++ (r ∷ k)) (sym (beyond_cut l s.0 s.1 r a s.2)))

  beyond_in : (w v : List ℕ) (vs : List (List ℕ)) → Mem v (beyond numbers w vs) → Mem v vs
  beyond_in w v [] m = m
  beyond_in w v (u ∷ vs) m = go (upto (numbers u) w) m (beyond_in w v vs)
    where
      go : (b : Bool) → Mem v (cond b (beyond numbers w vs) (u ∷ beyond numbers w vs)) → (Mem v (beyond numbers w vs) → Mem v vs) → Mem v (u ∷ vs)
      go true m i = inr (i m)
      go false (inl e) i = inl e
      go false (inr m) i = inr (i m)

  pub beyond_ascending : (R : List ℕ → List ℕ → Type 0) (w : List ℕ) (vs : List (List ℕ)) → Ascending R vs → Ascending R (beyond numbers w vs)
  beyond_ascending R w [] a = tt
  beyond_ascending R w (v ∷ vs) a = go (upto (numbers v) w) (beyond_ascending R w vs a.1)
    where
      go : (b : Bool) → Ascending R (beyond numbers w vs) → Ascending R (cond b (beyond numbers w vs) (v ∷ beyond numbers w vs))
      go true i = i
      go false i = (λ u m. a.0 u (beyond_in w u vs m), i)

  pub beyond_few : (w : List ℕ) (vs : List (List ℕ)) → length (beyond numbers w vs) ≤ length vs
  beyond_few w [] = omega arith
  beyond_few w (v ∷ vs) = go (upto (numbers v) w) (beyond_few w vs)
    where
      go : (b : Bool) → length (beyond numbers w vs) ≤ length vs → length (cond b (beyond numbers w vs) (v ∷ beyond numbers w vs)) ≤ suc (length vs)
      go true i = omega arith
      go false i = omega arith

-- those up to w and those behind it are all
pub place_beyond : (ts : List (List ℕ)) (w : List ℕ) → place ts w + length (beyond (λ v. v) w ts) ≡ length ts
place_beyond [] w = omega arith
place_beyond (v ∷ ts) w = go (upto v w) (place_beyond ts w)
  where
    go : (b : Bool) → place ts w + length (beyond (λ v. v) w ts) ≡ length ts
        → cond b (suc (place ts w)) (place ts w) + length (cond b (beyond (λ v. v) w ts) (v ∷ beyond (λ v. v) w ts)) ≡ suc (length ts)
    go true i = omega arith
    go false i = omega arith

-- in order, all that stands before an element comes before it, and what stands behind is in order
module _ {A : Type 0} (R : A → A → Type 0) where
  pub ascending_before : (l k : List A) (a : A) → Ascending R (l ++ (a ∷ k)) → (b : A) → Mem b l → R b a
  ascending_before [] k a h b m = elim m [ ]
  ascending_before (c ∷ l) k a h b (inl e) = rw e (h.0 a (mem_right a l (a ∷ k) (inl refl)))
  ascending_before (c ∷ l) k a h b (inr m) = ascending_before l k a h.1 b m

  pub ascending_behind : (l k : List A) → Ascending R (l ++ k) → Ascending R k
  ascending_behind [] k h = h
  ascending_behind (c ∷ l) k h = ascending_behind l k h.1
