-- A list that has some numbers first.
use mathlib.Core.Path.{◌≡◌, sym, ap, ◌∙◌}
use mathlib.Core.List.{List, [], ◌∷◌, ◌++◌, append_assoc}
use Prim.Native.Nat.{ℕ, ◌<◌}
use native.Mathlib.Omega.{arith}
use lib.ListN.{length, set, length-append}
use lib.Seq.{set_at}
use Rattle.labels.specs.Lists.{Holds}

-- what is stored behind them makes no difference ..
pub holds_beside : (xs l : List ℕ) (n v : ℕ) → length xs ≡ n → n < length l → Holds xs l → Holds xs (set l n v)
holds_beside xs l n v e h k = go k.rest k.is
  where
    go : (rest : List ℕ) → l ≡ xs ++ rest → Holds xs (set l n v)
    go [] q = absurd (omega (arith, h, ap length q, length-append xs [], e))
    go (y ∷ ys) q = record { rest = v ∷ ys; is = ap (λ (m : List ℕ). set m n v) q ∙ set_at xs y ys v n e }

-- .. or is one number more
pub holds_more : (xs l : List ℕ) (n v : ℕ) → length xs ≡ n → n < length l → Holds xs l → Holds (xs ++ (v ∷ [])) (set l n v)
holds_more xs l n v e h k = go k.rest k.is
  where
    go : (rest : List ℕ) → l ≡ xs ++ rest → Holds (xs ++ (v ∷ [])) (set l n v)
    go [] q = absurd (omega (arith, h, ap length q, length-append xs [], e))
    go (y ∷ ys) q = record { rest = ys; is = ap (λ (m : List ℕ). set m n v) q ∙ set_at xs y ys v n e ∙ sym (append_assoc xs (v ∷ []) ys) }

-- a number in their midst is stored anew
pub holds_again : (xs ys l : List ℕ) (x n v : ℕ) → length xs ≡ n → Holds (xs ++ (x ∷ ys)) l → Holds (xs ++ (v ∷ ys)) (set l n v)
holds_again xs ys l x n v e k = record {
  rest = k.rest;
  is = ap (λ (m : List ℕ). set m n v) (k.is ∙ append_assoc xs (x ∷ ys) k.rest) ∙ set_at xs x (ys ++ k.rest) v n e ∙ sym (append_assoc xs (v ∷ ys) k.rest);
}
