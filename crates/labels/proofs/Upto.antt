-- A list that is filled from its start on.
use mathlib.Core.Path.{◌≡◌, refl, sym, ap, ◌∙◌}
use mathlib.Core.List.{List, ◌++◌}
use Prim.Native.Nat.{ℕ, suc, ◌+◌, ◌<◌}
use native.Mathlib.Omega.{arith}
use native.Mathlib.Numerals.{add-one}
use lib.ListN.{length, get_or, set, take, drop, length-set}
use lib.Seq.{drop-cons, take-suc, set_at, length-take-le, append_snoc, take_all}
use Rattle.meaning.specs.Calls.{Filled}

one_more : (s d : List ℕ) (j : ℕ) → j < length s → j < length d → set (take j s ++ drop j d) j (get_or s j 0) ≡ take (j + 1) s ++ drop (j + 1) d
one_more s d j p q =
    ap (λ (l : List ℕ). set (take j s ++ l) j (get_or s j 0)) (drop-cons d j 0 q)
    ∙ set_at (take j s) (get_or d j 0) (drop (suc j) d) (get_or s j 0) j (length-take-le j s (omega arith))
    ∙ rw (add-one, take-suc s j 0 p) (sym (append_snoc (take j s) (get_or s j 0) (drop (suc j) d)))

-- the list l was l₀ and has the numbers xs up to n
pub record Upto (xs l₀ : List ℕ) (n : ℕ) (l : List ℕ) : Type 0 where
  pub is : l ≡ take n xs ++ drop n l₀
  pub long : length l ≡ length l₀

pub upto_more : {xs l₀ l l' : List ℕ} {n v : ℕ} → Upto xs l₀ n l → n < length l₀ → n < length xs → get_or xs n 0 ≡ v → l' ≡ set l n v → Upto xs l₀ (n + 1) l'
upto_more {xs} {l₀} {l} {l'} {n} {v} h room p e q = record {
  is = q ∙ ap (λ (k : List ℕ). set k n v) h.is ∙ rw (← e) (one_more xs l₀ n p (omega arith));
  long = ap length q ∙ length-set l n v ∙ h.long;
}

pub upto_all : {xs l₀ l : List ℕ} {n : ℕ} → Upto xs l₀ n l → n ≡ length xs → Filled xs l₀ l
upto_all {xs} {l₀} {l} {n} h e = h.is ∙ rw e (rw (take_all (length xs) xs (omega arith)) refl)
