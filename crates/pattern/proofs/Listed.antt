-- The kinds of the variables as a list of 16 numbers.
use Prim.Native.Nat.{ℕ, zero, suc, ◌-◌, ◌<◌, ◌≤◌}
use mathlib.Core.Path.{◌≡◌, refl, ap, ◌∙◌, sym}
use mathlib.Core.List.{List, [], ◌∷◌, ◌++◌, append_assoc}
use lib.ListN.{length, get_or, set, replicate, length-append, length-replicate, get_or-append}
use lib.Seq.{set_at}
use native.Mathlib.Omega.{arith}
use Rattle.meaning.specs.Pattern.{Kind, an_individual, a_sequence, a_function, a_context, old, look}
use Rattle.meaning.proofs.Lists.{look_old}
use Rattle.pattern.specs.Rows.{code}
use Rattle.pattern.specs.Answer.{codes, listed}

-- a number stands for one kind
abbrev kind_of : ℕ → Kind
kind_of zero = an_individual
kind_of (suc zero) = an_individual
kind_of (suc (suc zero)) = a_sequence
kind_of (suc (suc (suc zero))) = a_function
kind_of (suc (suc (suc (suc k)))) = a_context

kind_of_code : (v : Kind) → kind_of (code v) ≡ v
kind_of_code an_individual = refl
kind_of_code a_sequence = refl
kind_of_code a_function = refl
kind_of_code a_context = refl

pub one_code : (v w : Kind) → code v ≡ code w → v ≡ w
one_code v w e = sym (kind_of_code v) ∙ ap kind_of e ∙ kind_of_code w

pub code_some : (v : Kind) → code v ≡ 0 → ⊥
code_some an_individual e = omega arith
code_some a_sequence e = omega arith
code_some a_function e = omega arith
code_some a_context e = omega arith

pub codes_length : (A : List Kind) → length (codes A) ≡ length A
unfolding codes
codes_length [] = refl
codes_length (v ∷ A) = ap suc (codes_length A)

pub codes_snoc : (A : List Kind) (v : Kind) → codes (A ++ (v ∷ [])) ≡ codes A ++ (code v ∷ [])
unfolding codes
codes_snoc [] v = refl
codes_snoc (w ∷ A) v = ap (λ (l : List ℕ). code w ∷ l) (codes_snoc A v)

codes_look : (A : List Kind) (x : ℕ) (v : Kind) → look A x ≡ old v → get_or (codes A) x 0 ≡ code v
unfolding codes
codes_look [] x v e = absurd (omega (arith, look_old [] x v e))
codes_look (w ∷ A) zero v e = let d : w ≡ v = cc in ap code d
codes_look (w ∷ A) (suc x) v e = codes_look A x v e

look_some : (A : List Kind) (x : ℕ) → x < length A → (v : Kind) × (look A x ≡ old v)
look_some [] x h = absurd (omega arith)
look_some (v ∷ A) zero h = (v, refl)
look_some (v ∷ A) (suc x) h = look_some A x (omega arith)

pub listed_length : (A : List Kind) → length A ≤ 16 → length (listed A) ≡ 16
unfolding listed
listed_length A h = omega (arith, length-append (codes A) (replicate (16 - length A) 0), codes_length A, length-replicate {A = ℕ} (16 - length A) 0)

-- the number at a variable's place is its kind's
pub listed_look : (A : List Kind) (x : ℕ) (v : Kind) → look A x ≡ old v → get_or (listed A) x 0 ≡ code v
unfolding listed
listed_look A x v e = get_or-append (codes A) (replicate (16 - length A) 0) 0 x (omega (arith, codes_length A, look_old A x v e)) ∙ codes_look A x v e

pub look_listed : (A : List Kind) (x : ℕ) (v : Kind) → x < length A → get_or (listed A) x 0 ≡ code v → look A x ≡ old v
look_listed A x v h e =
    let w = look_some A x h in
    w.1 ∙ ap old (one_code w.0 v (sym (listed_look A x w.0 w.1) ∙ e))

-- one more
pub listed_set : (A : List Kind) (v : Kind) → length A < 16 → set (listed A) (length A) (code v) ≡ listed (A ++ (v ∷ []))
unfolding listed
listed_set A v h =
    let m = 15 - length A in
    let e : 16 - length A ≡ suc m = omega arith in
    let f : 16 - length (A ++ (v ∷ [])) ≡ m = omega (arith, length-append A (v ∷ [])) in
    ap (λ (j : ℕ). set (codes A ++ replicate j 0) (length A) (code v)) e ∙ set_at (codes A) 0 (replicate m 0) (code v) (length A) (codes_length A)
    ∙ rw (f, codes_snoc A v, append_assoc (codes A) (code v ∷ []) (replicate m 0))
