-- Not needed to believe the promise: the rules of a pattern, row by row, for the contracts of functions that only this crate calls.
use Rattle.std.specs.Prelude.{ℕ, suc, ◌+◌, ◌<◌, ◌≤◌, ◌≡◌, true, false, List, [], ◌∷◌, length, get_or, drop}
use Rattle.meaning.specs.Pattern.{Kind, an_individual, a_sequence, a_function, a_context, Comes, after}
use Rattle.pattern.specs.Rows.{code}
use Rattle.pattern.specs.Answer.{listed}
use Rattle.pattern.specs.declared.Checked.{Checked}
use Rattle.pattern.specs.declared.Pattern.{Pattern}
use Rattle.pattern.specs.declared.Naming.{Naming}
use Rattle.pattern.specs.declared.Naming.TheVariants.{Bad, Known, New}

-- a pattern's three lists are of one length
pub record SameLengths (p : Pattern) : Type 0 where
  pub named : length p.name.now ≡ length p.kind.now
  pub sized : length p.size.now ≡ length p.kind.now

-- a row of the size s has one argument, not a sequence variable; K and S are the kinds and sizes of the rows behind it
pub record OneArgument (s : ℕ) (K S : List ℕ) : Type 0 where
  pub some : 2 ≤ s
  pub one : s ≡ suc (get_or S 0 0)
  pub term : get_or K 0 0 ≡ code a_sequence → ⊥

-- the size of a variable's row
abbrev pub Sized : Kind → ℕ → List ℕ → List ℕ → Type 0
Sized an_individual s K S = s ≡ 1
Sized a_sequence s K S = s ≡ 1
Sized a_function s K S = Unit {0}
Sized a_context s K S = OneArgument s K S

-- the rows keep the rules, where n variables have appeared before and Q has the kinds of all
pub data Scan (Q : List Kind) : ℕ → List ℕ → List ℕ → List ℕ → Type 0 where
  end : {n : ℕ} → n ≡ length Q → Scan Q n [] [] []
  symbol_row : {n k x s : ℕ} {K N S : List ℕ} → k ≡ 0 → x < 65536 → Scan Q n K N S → Scan Q n (k ∷ K) (x ∷ N) (s ∷ S)
  variable_row : {n k x s : ℕ} {K N S : List ℕ} (v : Kind) → k ≡ code v → Sized v s K S → Comes Q x v n
      → Scan Q (after x n) K N S → Scan Q n (k ∷ K) (x ∷ N) (s ∷ S)

-- the size of any row, of the kind k
pub data RowSized (k s : ℕ) (K S : List ℕ) : Type 0 where
  of_symbol : k ≡ 0 → RowSized k s K S
  of_variable : (v : Kind) → k ≡ code v → Sized v s K S → RowSized k s K S

-- the same of the row p of the lists
abbrev pub OneArgumentAt : List ℕ → List ℕ → ℕ → Type 0
OneArgumentAt kind size p = OneArgument (get_or size p 0) (drop (p + 1) kind) (drop (p + 1) size)

abbrev pub SizedAt : List ℕ → List ℕ → ℕ → Type 0
SizedAt kind size p = RowSized (get_or kind p 0) (get_or size p 0) (drop (p + 1) kind) (drop (p + 1) size)

-- the name x of a row of the kind k, where n variables have appeared before and A has their kinds
pub data Named (A : List ℕ) (k x n : ℕ) : Naming → Type 0 where
  small_symbol : k ≡ 0 → x < 65536 → Named A k x n Known
  large_symbol : k ≡ 0 → 65536 ≤ x → Named A k x n Bad
  same_kind : (k ≡ 0 → ⊥) → x < n → get_or A x 0 ≡ k → Named A k x n Known
  other_kind : (k ≡ 0 → ⊥) → x < n → (get_or A x 0 ≡ k → ⊥) → Named A k x n Bad
  next : (k ≡ 0 → ⊥) → x ≡ n → n < 16 → Named A k x n New
  too_many : (k ≡ 0 → ⊥) → x ≡ n → 16 ≤ n → Named A k x n Bad
  left_out : (k ≡ 0 → ⊥) → n < x → Named A k x n Bad

-- a refusal has no variables
pub record Refused (r : Checked) : Type 0 where
  pub bad : r.good ≡ false
  pub none : r.variables ≡ 0
  pub empty : r.kinds ≡ listed []

-- what the scan answers: the kinds of all variables if the rows keep the rules, else a refusal
pub data Scanned (K N S : List ℕ) (r : Checked) : Type 0 where
  passed : (Q : List Kind) → length Q ≤ 16 → Scan Q 0 K N S → r.good ≡ true → r.variables ≡ length Q → r.kinds ≡ listed Q → Scanned K N S r
  failed : ((Q : List Kind) → length Q ≤ 16 → Scan Q 0 K N S → ⊥) → Refused r → Scanned K N S r
