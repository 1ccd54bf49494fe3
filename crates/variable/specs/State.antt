-- Not needed to believe the promise: the state of a walk in its middle, and what it leaves of a record.
use Rattle.std.specs.Prelude.{ℕ, ◌+◌, ◌<◌, ◌≤◌, ◌≡◌, List, length, get_or, take}
use Rattle.meaning.specs.Forest.{Forest, Context, hole_row}
use Rattle.meaning.specs.Pattern.{Kind, an_individual, a_function, old, look}
use Rattle.meaning.specs.Matcher.{Value, of_individual, of_sequence, of_function, of_context}
use Rattle.meaning.specs.Record.{Entry, numbers}
use Rattle.meaning.proofs.Steps.{Inv}
use Rattle.meaning.proofs.Next.{Any}
use Rattle.tree.specs.Places.{TermsAt, TermAt, ContextAt}

-- the value v starts at the row a of the tree
pub data ValueAt (L S : List ℕ) (a : ℕ) : Value → Type 0 where
  a_term : {l : ℕ} {us : Forest} → TermAt L S a l us → ValueAt L S a (of_individual l us)
  some_terms : {e : ℕ} {f : Forest} → TermsAt L S a e f → ValueAt L S a (of_sequence f)
  a_label : {l : ℕ} → a < length L → get_or L a 0 ≡ l → ValueAt L S a (of_function l)
  a_context_value : {c : Context} → ContextAt L S a (a + hole_row c) c → ValueAt L S a (of_context c)

-- n variables are bound, as B says, and the record R has their numbers
pub record State (L S R : List ℕ) (Q : List Kind) (n : ℕ) (B : List Entry) : Type 0 where
  pub small : length L < 4294967296
  pub room : length Q + length Q ≤ length R
  pub bound : Inv Any Q n B
  pub stand : (x : ℕ) (e : Entry) → look B x ≡ old e → ValueAt L S e.row e.value
  pub numbered : take (n + n) R ≡ numbers B

-- the places i of a record that a walk may write where n variables are bound: not the second number of a sequence or context
pub data Written (Q : List Kind) (n i : ℕ) : Type 0 where
  row_of : (x : ℕ) → n ≤ x → x < length Q → i ≡ x + x → Written Q n i
  zero_of_individual : (x : ℕ) → n ≤ x → look Q x ≡ old an_individual → i ≡ x + x + 1 → Written Q n i
  zero_of_function : (x : ℕ) → n ≤ x → look Q x ≡ old a_function → i ≡ x + x + 1 → Written Q n i

-- the record R became R', and is as it was at all other places
pub record Kept (Q : List Kind) (n : ℕ) (R R' : List ℕ) : Type 0 where
  pub long : length R' ≡ length R
  pub rest : (i : ℕ) → (Written Q n i → ⊥) → get_or R' i 0 ≡ get_or R i 0
