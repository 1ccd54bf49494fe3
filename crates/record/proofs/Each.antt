-- A record is good where each variable's two numbers are, and there are no others; the turns of the loop that goes through them.
use Prim.Native.Nat.{ℕ, zero, suc, ◌+◌, ◌<◌, ◌≤◌}
use mathlib.Core.Path.{◌≡◌, refl, ◌∙◌, sym, subst}
use mathlib.Core.Bool.{Bool, true, false}
use mathlib.Core.List.{List, [], ◌∷◌}
use lib.ListN.{length, get_or}
use native.Mathlib.Omega.{arith}
use native.Mathlib.Decide.{ℕ_discrete}
use Rattle.meaning.specs.Forest.{Forest}
use Rattle.meaning.specs.Pattern.{Kind, an_individual, a_sequence, a_function, a_context, old, look}
use Rattle.meaning.specs.Calls.{Says}
use Rattle.meaning.specs.Read.{value_at, read_off, Fits, GoodRecord}
use Rattle.meaning.proofs.Lists.{look_old, look_some}
use Rattle.meaning.proofs.Answers.{says_yes, says_no, said_no}
use Rattle.tree.specs.Places.{TermsAt}
use Rattle.pattern.specs.Rows.{code}
use Rattle.pattern.specs.Known.{KindsAre}
use Rattle.pattern.proofs.Listed.{one_code, listed_length, listed_look}
use Rattle.record.specs.Pairs.{FitsPost, PairPost, RecordPre, RecordPost}

-- the kinds by their numbers
pub pair_sequence : {S : List ℕ} {kind a b : ℕ} {r : Bool} → kind ≡ 2 → FitsPost S a_sequence a b r → PairPost S kind a b r
pair_sequence {S} {kind} {a} {b} {r} e f = record { is = λ k h. subst (λ (j : Kind). FitsPost S j a b r) (sym (one_code k a_sequence (h ∙ e))) f }

pub pair_context : {S : List ℕ} {kind a b : ℕ} {r : Bool} → kind ≡ 4 → FitsPost S a_context a b r → PairPost S kind a b r
pair_context {S} {kind} {a} {b} {r} e f = record { is = λ k h. subst (λ (j : Kind). FitsPost S j a b r) (sym (one_code k a_context (h ∙ e))) f }

pub pair_row : {S : List ℕ} {kind a b : ℕ} {r : Bool} → (kind ≡ 2 → ⊥) → (kind ≡ 4 → ⊥) → FitsPost S an_individual a b r × FitsPost S a_function a b r → PairPost S kind a b r
pair_row {S} {kind} {a} {b} {r} s c f = record { is = go }
  where
    go : (k : Kind) → code k ≡ kind → FitsPost S k a b r
    go an_individual e = f.0
    go a_sequence e = absurd (s (sym e))
    go a_function e = f.1
    go a_context e = absurd (c (sym e))

-- the numbers of the variables below n are good
pub record Each (Q : List Kind) (R : Forest) (list : List ℕ) (n : ℕ) : Type 0 where
  pub fits : (x : ℕ) (k : Kind) → x < n → look Q x ≡ old k → Fits k R (get_or list (x + x) 0) (get_or list (x + x + 1) 0)

pub good_each : (Q : List Kind) (R : Forest) (list : List ℕ) (n : ℕ) → GoodRecord Q R list → Each Q R list n
good_each [] R list n g = record { fits = λ x k l e. absurd (omega (arith, look_old [] x k e)) }
good_each (j ∷ Q) R [] n g = absurd g
good_each (j ∷ Q) R (a ∷ []) n g = absurd g
good_each (j ∷ Q) R (a ∷ b ∷ list) n g = record { fits = go (good_each Q R list n g.1) }
  where
    go : Each Q R list n → (x : ℕ) (k : Kind) → x < n → look (j ∷ Q) x ≡ old k → Fits k R (get_or (a ∷ b ∷ list) (x + x) 0) (get_or (a ∷ b ∷ list) (x + x + 1) 0)
    go i zero k l e = let z : j ≡ k = cc in subst (λ (h : Kind). Fits h R a b) z g.0
    go i (suc x) k l e =
        let p : suc x + suc x ≡ suc (suc (x + x)) = omega arith in
        let q : suc (suc (x + x)) + 1 ≡ suc (suc (x + x + 1)) = omega arith in
        rw (p, q) (i.fits x k (omega arith) e)

each_good : (Q : List Kind) (R : Forest) (list : List ℕ) → length list ≡ length Q + length Q → Each Q R list (length Q) → GoodRecord Q R list
each_good [] R [] h e = tt
each_good [] R (a ∷ list) h e = absurd (omega arith)
each_good (j ∷ Q) R [] h e = absurd (omega arith)
each_good (j ∷ Q) R (a ∷ []) h e = absurd (omega arith)
each_good (j ∷ Q) R (a ∷ b ∷ list) h e = (e.fits 0 j (omega arith) refl, each_good Q R list (omega arith) (record { fits = go }))
  where
    go : (x : ℕ) (k : Kind) → x < length Q → look Q x ≡ old k → Fits k R (get_or list (x + x) 0) (get_or list (x + x + 1) 0)
    go x k l d =
        let p : suc x + suc x ≡ suc (suc (x + x)) = omega arith in
        let q : suc (suc (x + x)) + 1 ≡ suc (suc (x + x + 1)) = omega arith in
        rw (p, q) at (e.fits (suc x) k (omega arith) d)

pub good_long : (Q : List Kind) (R : Forest) (list : List ℕ) → GoodRecord Q R list → length list ≡ length Q + length Q
good_long [] R [] g = refl
good_long [] R (a ∷ list) g = absurd g
good_long (k ∷ Q) R [] g = absurd g
good_long (k ∷ Q) R (a ∷ []) g = absurd g
good_long (k ∷ Q) R (a ∷ b ∷ list) g = omega (arith, good_long Q R list g.1)

-- the values that a record means, one by one
pub read_look : (Q : List Kind) (R : Forest) (list : List ℕ) (x : ℕ) (k : Kind) → GoodRecord Q R list → look Q x ≡ old k
    → look (read_off Q R list) x ≡ old (value_at k R (get_or list (x + x) 0) (get_or list (x + x + 1) 0))
read_look [] R list x k g e = absurd (omega (arith, look_old [] x k e))
read_look (j ∷ Q) R [] x k g e = absurd g
read_look (j ∷ Q) R (a ∷ []) x k g e = absurd g
read_look (j ∷ Q) R (a ∷ b ∷ list) zero k g e = let z : j ≡ k = cc in rw z
read_look (j ∷ Q) R (a ∷ b ∷ list) (suc x) k g e =
    let p : suc x + suc x ≡ suc (suc (x + x)) = omega arith in
    let q : suc (suc (x + x)) + 1 ≡ suc (suc (x + x + 1)) = omega arith in
    rw (p, q) (read_look Q R list x k g.1 e)

-- the loop: for every tree and every list of kinds, the variables below x are good
pub record Passed (S kinds : List ℕ) (variables : ℕ) (list : List ℕ) (x : ℕ) : Type 0 where
  pub low : x ≤ variables
  pub long : length list ≡ variables + variables
  pub each : (L : List ℕ) (R : Forest) (Q : List Kind) → TermsAt L S 0 (length S) R → KindsAre Q variables kinds → Each Q R list x

pub wrong_length : {S kinds list : List ℕ} {variables : ℕ} → (length list ≡ variables + variables → ⊥) → RecordPost S kinds variables list false
wrong_length h = record { is = λ L R Q r k. says_no (λ g. h (omega (arith, good_long Q R _ g, k.many))) }

pub passed_none : {S kinds list : List ℕ} {variables : ℕ} → length list ≡ variables + variables → Passed S kinds variables list 0
passed_none h = record { low = omega arith; long = h; each = λ L R Q r k. record { fits = λ x j l e. absurd (omega arith) } }

pub kinds_long : {S kinds : List ℕ} {variables : ℕ} → RecordPre S kinds variables → (length kinds ≡ 16) × (variables ≤ 16)
kinds_long p =
    let k = p.kinded.1 in
    (rw k.are (listed_length p.kinded.0 k.few), omega (arith, k.many, k.few))

module _ {S kinds list : List ℕ} {variables x : ℕ} (p : Passed S kinds variables list x) (l : x < variables) where
  kind_at : {r : Bool} (L : List ℕ) (R : Forest) (Q : List Kind) → TermsAt L S 0 (length S) R → KindsAre Q variables kinds → PairPost S (get_or kinds x 0) (get_or list (x + x) 0) (get_or list (x + x + 1) 0) r
      → (k : Kind) × (look Q x ≡ old k) × Says r (Fits k R (get_or list (x + x) 0) (get_or list (x + x + 1) 0))
  kind_at L R Q t k q =
      let w = look_some Q x (omega (arith, k.many)) in
      (w.0, w.1, (q.is w.0 (sym (listed_look Q x w.0 w.1) ∙ rw k.are)).is L R t)

  -- the pair as the code has read it, and the answer on it
  pub read_pair : {k a b : ℕ} {r o : Bool} → k ≡ get_or kinds x 0 → a ≡ get_or list (x + x) 0 → b ≡ get_or list (x + x + 1) 0 → PairPost S k a b r → r ≡ o
      → PairPost S (get_or kinds x 0) (get_or list (x + x) 0) (get_or list (x + x + 1) 0) o
  read_pair e f g q h = rw (← e, ← f, ← g, ← h) q

  pub passed_bad : PairPost S (get_or kinds x 0) (get_or list (x + x) 0) (get_or list (x + x + 1) 0) false → RecordPost S kinds variables list false
  passed_bad q =
      record {
        is = λ L R Q t k.
            let w = kind_at L R Q t k q in
            says_no (λ g. said_no w.2 refl ((good_each Q R list variables g).fits x w.0 l w.1));
      }

  pub passed_more : PairPost S (get_or kinds x 0) (get_or list (x + x) 0) (get_or list (x + x + 1) 0) true → Passed S kinds variables list (x + 1)
  passed_more q =
      record {
        low = omega arith;
        long = p.long;
        each = λ L R Q t k. record { fits = λ y j m e. go L R Q t k y j m e (decide y) };
      }
    where
      decide : (y : ℕ) → Dec (y ≡ x)
      decide y = ℕ_discrete y x

      go : (L : List ℕ) (R : Forest) (Q : List Kind) → TermsAt L S 0 (length S) R → KindsAre Q variables kinds → (y : ℕ) (j : Kind) → y < x + 1 → look Q y ≡ old j → Dec (y ≡ x)
          → Fits j R (get_or list (y + y) 0) (get_or list (y + y + 1) 0)
      go L R Q t k y j m e (yes d) =
          let w = kind_at L R Q t k q in
          let z : old j ≡ old w.0 = sym e ∙ rw d w.1 in
          let h : j ≡ w.0 = cc in
          rw (d, h) (w.2.0 refl)
      go L R Q t k y j m e (no d) = (p.each L R Q t k).fits y j (omega arith) e

pub passed_all : {S kinds list : List ℕ} {variables x : ℕ} → Passed S kinds variables list x → variables ≤ x → RecordPost S kinds variables list true
passed_all {list = list} {x = x} p h =
    record {
      is = λ L R Q t k.
          let e : x ≡ length Q = omega (arith, p.low, k.many) in
          says_yes (each_good Q R list (omega (arith, p.long, k.many)) (rw e at (p.each L R Q t k)));
    }
