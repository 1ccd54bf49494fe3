-- Whether a word is in the language of an expression can be decided.
use Prim.Native.Nat.{ℕ, zero, suc, ◌≤◌, ◌<◌}
use mathlib.Core.Path.{◌≡◌, refl, ap, sym}
use mathlib.Core.Logic.{◌⊎◌, inl, inr}
use mathlib.Core.List.{List, [], ◌∷◌, ◌++◌}
use lib.ListN.{length, length-append}
use native.Mathlib.Omega.{arith}
use native.Mathlib.Decide.{ℕ_discrete, dec_lt}
use Rattle.expression.specs.Expression.{Expression, symbol, empty, concatenation, choice, repetition, in_symbol, in_empty, in_concatenation, in_first, in_second, in_none, in_more, In}
use Rattle.constraint.proofs.Decide.{when?, by?, either?}

-- a word in two parts, the first of one kind and the second of another
abbrev Parts : (List ℕ → Type 0) → (List ℕ → Type 0) → List ℕ → Type 0
Parts P R w = (u : List ℕ) × (v : List ℕ) × (w ≡ u ++ v) × P u × R v

-- the first part is empty, or it begins the word
pub parts_none : (P R : List ℕ → Type 0) → Parts P R [] → P [] × R []
parts_none P R ([], v, e, f, g) = (f, rw e g)
parts_none P R (a ∷ u, v, e, f, g) = absurd (let z : ◌≡◌ {A = ℕ} 0 1 = cc in omega arith)

pub none_parts : (P R : List ℕ → Type 0) → P [] × R [] → Parts P R []
none_parts P R (f, g) = ([], [], refl, f, g)

pub parts_some : (P R : List ℕ → Type 0) (c : ℕ) (w : List ℕ) → Parts P R (c ∷ w) → (P [] × R (c ∷ w)) ⊎ Parts (λ u. P (c ∷ u)) R w
parts_some P R c w ([], v, e, f, g) = inl (f, rw e g)
parts_some P R c w (a ∷ u, v, e, f, g) =
    let same : a ≡ c = cc in
    let rest : w ≡ u ++ v = cc in
    inr (u, v, rest, rw same at f, g)

pub some_parts : (P R : List ℕ → Type 0) (c : ℕ) (w : List ℕ) → (P [] × R (c ∷ w)) ⊎ Parts (λ u. P (c ∷ u)) R w → Parts P R (c ∷ w)
some_parts P R c w (inl (f, g)) = ([], c ∷ w, refl, f, g)
some_parts P R c w (inr (u, v, e, f, g)) = (c ∷ u, v, ap (λ (l : List ℕ). c ∷ l) e, f, g)

unfoldable pub parts? : (P R : List ℕ → Type 0) → ((u : List ℕ) → Dec (P u)) → ((v : List ℕ) → Dec (R v)) → (w : List ℕ) → Dec (Parts P R w)
parts? P R p r [] = by? (none_parts P R) (parts_none P R) (when? (p []) (λ _. r []))
parts? P R p r (c ∷ w) = by? (some_parts P R c w) (parts_some P R c w) (either? (when? (p []) (λ _. r (c ∷ w))) (parts? (λ u. P (c ∷ u)) R (λ u. p (c ∷ u)) r w))

-- a word of a repetition begins with a word of its inside that is not empty
abbrev Turns : Expression → ℕ → ℕ → List ℕ → Type 0
Turns a n c w = Parts (λ u. In a (c ∷ u)) (λ v. (length v < n) × In (repetition a) v) w

pub turn : {a : Expression} {w : List ℕ} → In (repetition a) w → (c : ℕ) (l : List ℕ) → w ≡ c ∷ l → Turns a (length w) c l
turn in_none c l e = absurd (let z : ◌≡◌ {A = ℕ} 0 1 = cc in omega arith)
turn (in_more {u = []} i j) c l e = turn j c l e
turn (in_more {u = d ∷ u} {v = v} i j) c l e =
    let same : d ≡ c = cc in
    let rest : l ≡ u ++ v = cc in
    (u, v, rest, rw same at i, (simp length-append (omega arith), j))

pub turned : (a : Expression) (n c : ℕ) (w : List ℕ) → Turns a n c w → In (repetition a) (c ∷ w)
turned a n c w (u, v, e, i, (h, j)) = rw e (in_more i j)

module _ (a : Expression) (inside? : (w : List ℕ) → Dec (In a w)) where
  unfoldable pub again? : (n : ℕ) → ((v : List ℕ) → length v < n → Dec (In (repetition a) v)) → (w : List ℕ) → length w ≤ n → Dec (In (repetition a) w)
  again? n shorter? [] h = yes in_none
  again? n shorter? (c ∷ w) h =
      by? (turned a (suc (length w)) c w) (λ i. turn i c w refl)
      (parts? (λ u. In a (c ∷ u)) (λ v. (length v < suc (length w)) × In (repetition a) v) (λ u. inside? (c ∷ u))
      (λ v. when? (dec_lt (length v) (suc (length w))) (λ k. shorter? v (omega arith))) w)

  unfoldable pub repeated? : (n : ℕ) (w : List ℕ) → length w ≤ n → Dec (In (repetition a) w)
  repeated? zero w h = again? 0 (λ v k. absurd (omega arith)) w h
  repeated? (suc n) w h = again? (suc n) (λ v k. repeated? n v (omega arith)) w h

pub in_parts : (a b : Expression) (w : List ℕ) → Parts (In a) (In b) w → In (concatenation a b) w
in_parts a b w (u, v, e, i, j) = rw e (in_concatenation i j)

pub parts_in : {a b : Expression} {w : List ℕ} → In (concatenation a b) w → Parts (In a) (In b) w
parts_in (in_concatenation {u = u} {v = v} i j) = (u, v, refl, i, j)

pub in_either : (a b : Expression) (w : List ℕ) → In a w ⊎ In b w → In (choice a b) w
in_either a b w (inl i) = in_first i
in_either a b w (inr i) = in_second i

pub either_in : {a b : Expression} {w : List ℕ} → In (choice a b) w → In a w ⊎ In b w
either_in (in_first i) = inl i
either_in (in_second i) = inr i

pub one_letter : {f : ℕ} {w : List ℕ} → In (symbol f) w → w ≡ f ∷ []
one_letter (in_symbol e) = ap (λ (c : ℕ). c ∷ []) (sym e)

pub no_letter : {w : List ℕ} → In empty w → w ≡ []
no_letter in_empty = refl

pub same_word : {a b : ℕ} {v w : List ℕ} → (a ≡ b) × (v ≡ w) → a ∷ v ≡ b ∷ w
same_word (e, f) = λ i. e i ∷ f i

pub word_same : {a b : ℕ} {v w : List ℕ} → a ∷ v ≡ b ∷ w → (a ≡ b) × (v ≡ w)
word_same e = (cc, cc)

pub no_word : {a : ℕ} {v : List ℕ} → [] ≡ a ∷ v → ⊥
no_word e = let z : ◌≡◌ {A = ℕ} 0 1 = cc in omega arith

unfoldable pub word? : (v w : List ℕ) → Dec (v ≡ w)
word? [] [] = yes refl
word? [] (b ∷ w) = no no_word
word? (a ∷ v) [] = no (λ e. no_word (sym e))
word? (a ∷ v) (b ∷ w) = by? same_word word_same (when? (ℕ_discrete a b) (λ _. word? v w))

unfoldable pub in? : (e : Expression) (w : List ℕ) → Dec (In e w)
in? (symbol f) w = by? (λ e. rw e (in_symbol refl)) one_letter (word? w (f ∷ []))
in? empty w = by? (λ e. rw e in_empty) no_letter (word? w [])
in? (concatenation a b) w = by? (in_parts a b w) parts_in (parts? (In a) (In b) (in? a) (in? b) w)
in? (choice a b) w = by? (in_either a b w) either_in (either? (in? a w) (in? b w))
in? (repetition a) w = repeated? a (in? a) (length w) w (omega arith)
