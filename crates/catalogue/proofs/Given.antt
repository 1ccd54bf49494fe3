-- The variables that are chosen.
use Prim.Native.Nat.{ℕ, zero, suc, ◌+◌, ◌≤◌}
use mathlib.Core.Path.{◌≡◌, refl, sym, ap}
use mathlib.Core.List.{List, [], ◌∷◌, ◌++◌}
use lib.ListN.{length, get_or, take}
use native.Mathlib.Omega.{arith}
use Rattle.meaning.specs.Pattern.{Kind, an_individual, a_sequence, a_function, a_context, old, look}
use Rattle.meaning.specs.Order.{choices}
use Rattle.meaning.proofs.Tame.{count}

-- the kinds of variables that are chosen
abbrev pub Chosen : Kind → Type 0
Chosen an_individual = ⊥
Chosen a_sequence = Unit {0}
Chosen a_function = ⊥
Chosen a_context = Unit {0}

pub count_less : (Q : List Kind) (x y : ℕ) → x ≤ y → count (take x Q) ≤ count (take y Q)
count_less Q zero y h = omega arith
count_less Q (suc x) zero h = absurd (omega arith)
count_less [] (suc x) (suc y) h = omega arith
count_less (k ∷ Q) (suc x) (suc y) h = omega (arith, count_less Q x y (omega arith))

-- a number stands among the choices, behind so many
pub record Among (v n : ℕ) (choices : List ℕ) : Type 0 where
  pub before : List ℕ
  pub behind : List ℕ
  pub is : choices ≡ before ++ (v ∷ behind)
  pub many : length before ≡ n

among_more : (j : Kind) (Q : List Kind) (a b : ℕ) (list : List ℕ) (x : ℕ) {v : ℕ} → Among v (count (take x Q)) (choices Q list)
    → Among v (count (take (suc x) (j ∷ Q))) (choices (j ∷ Q) (a ∷ b ∷ list))
among_more an_individual Q a b list x h = record { before = h.before; behind = h.behind; is = h.is; many = omega (arith, h.many) }
among_more a_sequence Q a b list x h = record { before = b ∷ h.before; behind = h.behind; is = ap (λ (m : List ℕ). b ∷ m) h.is; many = omega (arith, h.many) }
among_more a_function Q a b list x h = record { before = h.before; behind = h.behind; is = h.is; many = omega (arith, h.many) }
among_more a_context Q a b list x h = record { before = b ∷ h.before; behind = h.behind; is = ap (λ (m : List ℕ). b ∷ m) h.is; many = omega (arith, h.many) }

-- the choice of one variable among those of a record
pub choices_at : (Q : List Kind) (list : List ℕ) (x : ℕ) (k : Kind) → look Q x ≡ old k → Chosen k → length list ≡ length Q + length Q
    → Among (get_or list (x + x + 1) 0) (count (take x Q)) (choices Q list)
choices_at [] list zero k e c l = let z : ◌≡◌ {A = ℕ} 0 1 = cc in absurd (omega arith)
choices_at [] list (suc x) k e c l = let z : ◌≡◌ {A = ℕ} 0 1 = cc in absurd (omega arith)
choices_at (j ∷ Q) [] x k e c l = absurd (omega arith)
choices_at (j ∷ Q) (a ∷ []) x k e c l = absurd (omega arith)
choices_at (an_individual ∷ Q) (a ∷ b ∷ list) zero k e c l = let z : an_individual ≡ k = cc in absurd (rw (sym z) at c)
choices_at (a_sequence ∷ Q) (a ∷ b ∷ list) zero k e c l = record { before = []; behind = choices Q list; is = refl; many = refl }
choices_at (a_function ∷ Q) (a ∷ b ∷ list) zero k e c l = let z : a_function ≡ k = cc in absurd (rw (sym z) at c)
choices_at (a_context ∷ Q) (a ∷ b ∷ list) zero k e c l = record { before = []; behind = choices Q list; is = refl; many = refl }
choices_at (j ∷ Q) (a ∷ b ∷ list) (suc x) k e c l =
    let z : suc x + suc x + 1 ≡ suc (suc (x + x + 1)) = omega arith in
    rw z (among_more j Q a b list x (choices_at Q list x k e c (omega arith)))
