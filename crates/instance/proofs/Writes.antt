-- Numbers written one after another into a list.
use Prim.Native.Nat.{ℕ, zero, suc, ◌+◌, ◌<◌, ◌≤◌}
use mathlib.Core.Path.{◌≡◌, refl, ap, ap₂, ◌∙◌, sym}
use mathlib.Core.Logic.{◌≢◌}
use mathlib.Core.List.{List, [], ◌∷◌, ◌++◌}
use lib.ListN.{length, set, drop}
use lib.Seq.{sets, set_comm, sets-eq}
use native.Mathlib.Omega.{arith}
use native.Mathlib.Nat.{add-zero}
use Rattle.instance.specs.Places.{along}

-- one part behind another
pub sets_both : (l : List ℕ) (i : ℕ) (xs ys : List ℕ) → sets l i (xs ++ ys) ≡ sets (sets l i xs) (i + length xs) ys
sets_both l i [] ys = rw (add-zero i)
sets_both l i (x ∷ xs) ys =
    let z : suc i + length xs ≡ i + suc (length xs) = omega arith in
    sets_both (set l i x) (suc i) xs ys ∙ rw z

-- the order does not matter where the places are others
set_sets : (l : List ℕ) (i j : ℕ) (x : ℕ) (ys : List ℕ) → i < j → set (sets l j ys) i x ≡ sets (set l i x) j ys
set_sets l i j x [] h = refl
set_sets l i j x (y ∷ ys) h =
    let n : j ≢ i = λ e. omega arith in
    set_sets (set l j y) i (suc j) x ys (omega arith) ∙ ap (λ (m : List ℕ). sets m (suc j) ys) (set_comm l j i y x n)

pub sets_first : (l : List ℕ) (i j : ℕ) (xs ys : List ℕ) → i + length xs ≤ j → sets (sets l j ys) i xs ≡ sets (sets l i xs) j ys
sets_first l i j [] ys h = refl
sets_first l i j (x ∷ xs) ys h =
    ap (λ (m : List ℕ). sets m (suc i) xs) (set_sets l i j x ys (omega arith)) ∙ sets_first (set l i x) (suc i) j xs ys (omega arith)

-- what stands before is written after
pub sets_before : (l : List ℕ) (i j : ℕ) (xs ys : List ℕ) → i + length xs ≡ j → sets (sets l j ys) i xs ≡ sets l i (xs ++ ys)
sets_before l i j xs ys h = sets_first l i j xs ys (omega arith) ∙ ap (λ (k : ℕ). sets (sets l i xs) k ys) (sym h) ∙ sym (sets_both l i xs ys)

pub sets_head : (l : List ℕ) (i j x : ℕ) (ys : List ℕ) → i + 1 ≡ j → set (sets l j ys) i x ≡ sets l i (x ∷ ys)
sets_head l i j x ys h = sets_before l i j (x ∷ []) ys h

-- from the start of the list on
pub sets_whole : (l xs : List ℕ) (n : ℕ) → length xs ≡ n → n ≤ length l → sets l 0 xs ≡ xs ++ drop n l
sets_whole l xs n e h =
    let z : 0 + length xs ≡ n = omega arith in
    sets-eq xs l 0 (omega arith) ∙ rw z

-- one more of what f gives
pub along_length : (f : ℕ → ℕ) (a k : ℕ) → length (along f a k) ≡ k
unfolding along
along_length f a zero = refl
along_length f a (suc k) = ap suc (along_length f (a + 1) k)

pub along_both : (f : ℕ → ℕ) (a j k : ℕ) → along f a (j + k) ≡ along f a j ++ along f (a + j) k
unfolding along
along_both f a zero k =
    let z : 0 + k ≡ k = omega arith in
    rw (z, add-zero a)
along_both f a (suc j) k =
    let y : suc j + k ≡ suc (j + k) = omega arith in
    let z : a + 1 + j ≡ a + suc j = omega arith in
    rw y (ap (λ (l : List ℕ). f a ∷ l) (along_both f (a + 1) j k ∙ rw z))

pub along_same : (f g : ℕ → ℕ) (a k : ℕ) → ((i : ℕ) → a ≤ i → i < a + k → f i ≡ g i) → along f a k ≡ along g a k
unfolding along
along_same f g a zero h = refl
along_same f g a (suc k) h =
    ap₂ (λ (x : ℕ) (l : List ℕ). x ∷ l) (h a (omega arith) (omega arith)) (along_same f g (a + 1) k (λ i p q. h i (omega arith) (omega arith)))

-- a turn of a loop that writes them
pub sets_more : (l : List ℕ) (t : ℕ) (f : ℕ → ℕ) (a i : ℕ) → set (sets l t (along f a i)) (t + i) (f (a + i)) ≡ sets l t (along f a (i + 1))
unfolding along
sets_more l t f a i =
    sym (ap (sets l t) (along_both f a i 1) ∙ sets_both l t (along f a i) (f (a + i) ∷ [])
    ∙ ap (λ (k : ℕ). set (sets l t (along f a i)) k (f (a + i))) (ap (λ (k : ℕ). t + k) (along_length f a i)))
