-- How many rows end where: the loop that counts them.
use Prim.Native.Nat.{ℕ, zero, suc, ◌+◌, ◌<◌, ◌≤◌}
use mathlib.Core.Path.{◌≡◌, refl, ap, ◌∙◌, sym}
use mathlib.Core.Logic.{◌≢◌}
use mathlib.Core.Bool.{true, false}
use mathlib.Core.List.{List}
use lib.ListN.{length, get_or, set, replicate, length-set, length-replicate, get_or-replicate}
use lib.Seq.{get_or-set_same, get_or-set_other}
use native.Mathlib.Omega.{arith}
use native.Mathlib.Decide.{ℕ_discrete}
use native.Mathlib.Numerals.{add-one}
use borrow.Author.Count.{below_more, below_none}
use Rattle.meaning.proofs.Answers.{says_yes, says_no}
use Rattle.tree.specs.Endings.{one, endings, Within, Told, EndingPost}

pub one_yes : {A : Type 0} (d : Dec A) → A → one d ≡ 1
unfolding one
one_yes (yes a) h = refl
one_yes (no n) h = absurd (n h)

pub one_no : {A : Type 0} (d : Dec A) → (A → ⊥) → one d ≡ 0
unfolding one
one_no (yes a) h = absurd (h a)
one_no (no n) h = refl

one_le : {A : Type 0} (d : Dec A) → one d ≤ 1
unfolding one
one_le (yes a) = omega arith
one_le (no n) = omega arith

endings_le : (S : List ℕ) (n e : ℕ) → endings S n e ≤ n
unfolding endings
endings_le S zero e = omega arith
endings_le S (suc n) e = omega (arith, one_le (ℕ_discrete (n + get_or S n 0) e), endings_le S n e)

-- at a row none ends that stands there or behind it
pub endings_before : {S : List ℕ} {row : ℕ} → Within S → (n : ℕ) → row ≤ n → n ≤ length S → endings S n row ≡ endings S row row
unfolding endings
endings_before {S} {row} w zero p q = let z : zero ≡ row = omega arith in ap (λ (i : ℕ). endings S i row) z
endings_before {S} {row} w (suc n) p q =
    elim (ℕ_discrete row (suc n)) [
      | yes z ↦ ap (λ (i : ℕ). endings S i row) (sym z)
      | no z ↦ omega (arith, one_no (ℕ_discrete (n + get_or S n 0) row) (λ e. omega (arith, w.each n (omega arith))), endings_before {row = row} w n (omega arith) (omega arith))
    ]

-- a list of zeros tells of no row; its length is a variable, so that nothing writes the list out
pub zeros_tell : {S : List ℕ} (n : ℕ) → n ≡ 2049 → length S ≤ 2048 → Told S (replicate n 0) 0
unfolding endings
zeros_tell n z few = record { few = few; long = length-replicate {A = ℕ} n 0 ∙ z; each = λ e h. get_or-replicate n e 0 0 (omega arith) }

-- the rows before this one have a size and end within the rows, and it is told of them
pub record Ending (S C : List ℕ) (row : ℕ) : Type 0 where
  pub low : row ≤ length S
  pub within : (i : ℕ) → i < row → (get_or S i 0 ≢ 0) × (i + get_or S i 0 ≤ length S)
  pub told : Told S C row

pub ending_none : {S C : List ℕ} → Told S C 0 → Ending S C 0
ending_none told = record { low = omega arith; within = below_none _; told = told }

no_telling : {S C : List ℕ} → (Within S → ⊥) → EndingPost S C false
no_telling h = record { within = says_no h; told = λ e. absurd (let z : ◌≡◌ {A = ℕ} 0 1 = cc in omega arith) }

module _ {S C : List ℕ} {row : ℕ} (ending : Ending S C row) where
  pub ending_all : length S ≤ row → EndingPost S C true
  ending_all h =
      let z : row ≡ length S = omega (arith, ending.low) in
      record { within = says_yes (record { each = rw z at ending.within }); told = λ _. rw z at ending.told }

  module _ {after : ℕ} (inside : row < length S) (is : after ≡ row + get_or S row 0) where
    pub ending_empty : after ≡ row → EndingPost S C false
    ending_empty h = no_telling (λ w. (w.each row inside).0 (omega arith))

    pub ending_beyond : length S < after → EndingPost S C false
    ending_beyond h = no_telling (λ w. omega (arith, (w.each row inside).1))

    module _ (some : after ≢ row) (within : after ≤ length S) where
      pub ending_fits : get_or C after 0 ≤ 2048
      ending_fits = omega (arith, ending.told.each after within, endings_le S row after, ending.low, ending.told.few)

      counted : (e : ℕ) → e ≤ length S → get_or (set C after (get_or C after 0 + 1)) e 0 ≡ endings S (suc row) e
      unfolding endings
      counted e h =
          elim (ℕ_discrete (row + get_or S row 0) e) [
            | yes z ↦
                let y : after ≡ e = is ∙ z in
                let x : get_or (set C after (get_or C after 0 + 1)) e 0 ≡ get_or C after 0 + 1 =
                ap (λ (i : ℕ). get_or (set C after (get_or C after 0 + 1)) i 0) (sym y) ∙ get_or-set_same C after (get_or C after 0 + 1) 0 (omega (arith, ending.told.long, ending.told.few))
                in
                omega (arith, one_yes (ℕ_discrete (row + get_or S row 0) e) z, ending.told.each e h, ap (λ (i : ℕ). get_or C i 0) y)
            | no z ↦
                omega (arith, one_no (ℕ_discrete (row + get_or S row 0) e) z, ending.told.each e h, get_or-set_other C after e (get_or C after 0 + 1) 0 (λ y. z (sym (y ∙ is))))
          ]

      pub ending_more : Ending S (set C after (get_or C after 0 + 1)) (row + 1)
      ending_more =
          record {
            low = omega arith;
            within = below_more _ _ ending.within (omega (arith, some), omega (arith, within));
            told = record { few = ending.told.few; long = simp length-set ending.told.long; each = λ e h. rw (add-one row) (counted e h) };
          }
