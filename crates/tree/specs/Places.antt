-- Not needed to believe the promise: where terms, sequences and contexts stand in the rows, for the contracts of functions that
-- only our own crates call.
use Rattle.std.specs.Prelude.{ℕ, suc, ◌+◌, ◌<◌, ◌≤◌, ◌≡◌, List, length, get_or}
use Rattle.meaning.specs.Forest.{Forest, none, some, rows, Context, hole, node}

-- the row t of a tree: its label l and its size n
pub record Row (L S : List ℕ) (t l n : ℕ) : Type 0 where
  pub label : get_or L t 0 ≡ l
  pub size : get_or S t 0 ≡ n

-- the rows from t up to e are the sequence
pub data TermsAt (L S : List ℕ) : ℕ → ℕ → Forest → Type 0 where
  stop : {t e : ℕ} → t ≡ e → e ≤ length L → e ≤ length S → TermsAt L S t e none
  step : {t e l : ℕ} {us rest : Forest} → Row L S t l (suc (rows us)) → TermsAt L S (t + 1) (t + suc (rows us)) us
      → t + suc (rows us) ≤ e → TermsAt L S (t + suc (rows us)) e rest → TermsAt L S t e (some l us rest)

-- the term l(us) begins at row t
pub record TermAt (L S : List ℕ) (t l : ℕ) (us : Forest) : Type 0 where
  pub row : Row L S t l (suc (rows us))
  pub inner : TermsAt L S (t + 1) (t + suc (rows us)) us

-- what stands at row t: a term whose rows are within the lists
pub record Next (L S : List ℕ) (t : ℕ) : Type 0 where
  pub labelled : t < length L
  pub sized : t < length S
  pub positive : 1 ≤ get_or S t 0
  pub in_labels : t + get_or S t 0 ≤ length L
  pub in_sizes : t + get_or S t 0 ≤ length S

-- the term at row a is l(left, the term at row u, right)
pub record Level (L S : List ℕ) (a u l : ℕ) (left right : Forest) : Type 0 where
  pub here : Next L S a
  pub label : get_or L a 0 ≡ l
  pub before : TermsAt L S (a + 1) u left
  pub there : Next L S u
  pub ends : u + get_or S u 0 ≤ a + get_or S a 0
  pub after : TermsAt L S (u + get_or S u 0) (a + get_or S a 0) right

-- the term at row a with the hole at row b is the context
pub data ContextAt (L S : List ℕ) : ℕ → ℕ → Context → Type 0 where
  at_hole : {a b : ℕ} → Next L S a → a ≡ b → ContextAt L S a b hole
  at_node : {a b l u : ℕ} {left right : Forest} {c : Context} → Level L S a u l left right → u ≤ b → b < u + get_or S u 0
      → ContextAt L S u b c → ContextAt L S a b (node l left c right)

-- k rows from a on are those from t on
pub record SameRows (L S : List ℕ) (a t k : ℕ) : Type 0 where
  pub each : (i : ℕ) → i < k → (get_or L (a + i) 0 ≡ get_or L (t + i) 0) × (get_or S (a + i) 0 ≡ get_or S (t + i) 0)
