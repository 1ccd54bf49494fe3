-- Not needed to believe the promise: the rows that a walk has come to, and what is left of it behind a row.
use Rattle.std.specs.Prelude.{ℕ, suc, ◌+◌, ◌<◌, ◌≤◌, ◌≡◌, ◌≢◌, List, [], ◌∷◌, length, get_or, set}
use Rattle.meaning.specs.Forest.{Forest, Term}
use Rattle.meaning.specs.Pattern.{Pattern, Patterns, Kind, a_sequence, a_context, old, look, GoodT, GoodF, after_t, after_f}
use Rattle.meaning.proofs.Resume.{Frame, frame, Stop, at_sequence, at_context}
use Rattle.tree.specs.Places.{TermsAt, TermAt}
use Rattle.pattern.specs.Places.{PatternAt, PatternsAt}
use Rattle.walk.specs.Packed.{Past, Holds}

-- A has the row of the tree for each row of the pattern that the walk came to. The term that the row p came to ends before the row e.
pub record Marked (S A : List ℕ) (p e : ℕ) : Type 0 where
  pub row : get_or A p 0 < length S
  pub behind : get_or A p 0 + get_or S (get_or A p 0) 0 ≡ e

-- A has room for all rows of the pattern
pub record Marks (K A : List ℕ) : Type 0 where
  pub few : length K ≤ 256
  pub long : length A ≡ 256

-- the walk comes to the row p at the row t of the tree
pub record Came (A : List ℕ) (p t : ℕ) (A' : List ℕ) : Type 0 where
  pub is : A' ≡ set A p t

-- A became A', and the first q numbers are as they were
pub record Unchanged (q : ℕ) (A A' : List ℕ) : Type 0 where
  pub long : length A' ≡ length A
  pub before : (i : ℕ) → i < q → get_or A' i 0 ≡ get_or A i 0

-- the pattern term at the row p is held by h, and the term of the tree that it came to ends before the row u. Where n variables are
-- bound then, the frames are left: of the list of h, of the list that h stands in, and so on. A context has no more than one argument.
pub data Behind (L S A K N Z : List ℕ) (Q : List Kind) : ℕ → ℕ → ℕ → ℕ → List Frame → Type 0 where
  at_root : {h p u n : ℕ} → p ≡ 0 → Behind L S A K N Z Q h p u n []
  in_list : {h p u n g e : ℕ} {ps : Patterns} {us : Forest} {fs : List Frame} → Holds Z h p → Past Z h (p + get_or Z p 0) → p < length K → get_or K h 0 ≢ 4
      → PatternsAt K N Z Q (p + get_or Z p 0) (h + get_or Z h 0) ps → GoodF Q ps n → TermsAt L S u e us → Marked S A h e
      → Behind L S A K N Z Q g h e (after_f ps n) fs → Behind L S A K N Z Q h p u n (frame ps us u ∷ fs)
  in_context : {h p u n g e : ℕ} {fs : List Frame} → Holds Z h p → p < length K → get_or K h 0 ≡ 4 → p + get_or Z p 0 ≤ h + get_or Z h 0 → Marked S A h e
      → Behind L S A K N Z Q g h e n fs → Behind L S A K N Z Q h p u n fs

-- the row h holds a list of arguments, up to the row pe of the pattern and the row te of the tree; where n variables are bound behind
-- it, the frames are left
pub record Held (L S A K N Z : List ℕ) (Q : List Kind) (h pe te n : ℕ) (fs : List Frame) : Type 0 where
  pub holder : ℕ
  pub kind : get_or K h 0 ≢ 4
  pub inside : h < length K
  pub ends : h + get_or Z h 0 ≡ pe
  pub marked : Marked S A h te
  pub above : Behind L S A K N Z Q holder h te n fs

-- the walk stops at the row p of the pattern and the row s of the tree, where the variable x comes first
pub data Stands (L S A K N Z : List ℕ) (Q : List Kind) (p x s : ℕ) : Stop → List Frame → Type 0 where
  before_terms : {h pe te : ℕ} {ps : Patterns} {us : Forest} {fs : List Frame} → look Q x ≡ old a_sequence → get_or N p 0 ≡ x → get_or K p 0 ≡ 2 → Holds Z h p → Past Z h (p + 1)
      → PatternsAt K N Z Q (p + 1) pe ps → GoodF Q ps (x + 1) → TermsAt L S s te us → Held L S A K N Z Q h pe te (after_f ps (x + 1)) fs
      → Stands L S A K N Z Q p x s (at_sequence ps us) fs
  over_term : {h : ℕ} {q : Pattern} {T : Term} {fs : List Frame} → look Q x ≡ old a_context → get_or N p 0 ≡ x → get_or K p 0 ≡ 4 → get_or Z p 0 ≡ suc (get_or Z (p + 1) 0) → PatternAt K N Z Q (p + 1) q
      → GoodT Q q (x + 1) → TermAt L S s T.label T.args → Marked S A p (s + get_or S s 0) → Behind L S A K N Z Q h p (s + get_or S s 0) (after_t q (x + 1)) fs
      → Stands L S A K N Z Q p x s (at_context q T) fs
