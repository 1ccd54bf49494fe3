-- Not needed to believe the promise: what the walk needs of a pattern, prepared once: six numbers a row.
use Rattle.std.specs.Prelude.{ℕ, ◌+◌, ◌-◌, ◌*◌, ◌<◌, ◌≤◌, ◌≡◌, List, [], ◌∷◌, length, get_or}
use Rattle.walk.specs.declared.PatternRow.{PatternRow}

-- the six numbers of each row, one row after another
unfoldable pub numbers_of : List PatternRow → List ℕ
numbers_of [] = []
numbers_of (r ∷ rows) = r.kind ∷ r.name ∷ r.size ∷ r.holder ∷ r.start ∷ r.flag ∷ numbers_of rows

-- a row before it is packed
abbrev pub unpacked : PatternRow
unpacked = record { kind = 0; name = 0; size = 0; holder = 0; start = 0; flag = 0 }

-- the terms at the rows between h and p end before p
pub record Past (Z : List ℕ) (h p : ℕ) : Type 0 where
  pub lower : h < p
  pub ended : (r : ℕ) → h < r → r < p → r + get_or Z r 0 ≤ p

-- the row h holds the row p: no other between them has it
pub record Holds (Z : List ℕ) (h p : ℕ) : Type 0 where
  pub past : Past Z h p
  pub inside : p < h + get_or Z h 0

-- M has the kind, the name and the size of each row, the row that holds it, and its variable's constraint
pub record Packed (K N Z M : List ℕ) : Type 0 where
  pub room : 6 * length K ≤ length M
  pub kinds : (p : ℕ) → p < length K → get_or M (6 * p) 0 ≡ get_or K p 0
  pub names : (p : ℕ) → p < length K → get_or M (6 * p + 1) 0 ≡ get_or N p 0
  pub sizes : (p : ℕ) → p < length K → get_or M (6 * p + 2) 0 ≡ get_or Z p 0
  pub holders : (h p : ℕ) → p < length K → Holds Z h p → get_or M (6 * p + 3) 0 ≡ h

-- the row of the expression of each row's variable
abbrev pub root_of : List ℕ → ℕ → ℕ
root_of M p = get_or M (6 * p + 4) 0 - 1

-- C has two numbers for each variable: where its expression starts, and its flag
pub record Bounds (K N C M : List ℕ) : Type 0 where
  pub starts : (p : ℕ) → p < length K → get_or M (6 * p + 4) 0 ≡ get_or C (get_or N p 0 + get_or N p 0) 0
  pub flags : (p : ℕ) → p < length K → get_or M (6 * p + 5) 0 ≡ get_or C (get_or N p 0 + get_or N p 0 + 1) 0

-- the root's term has all rows
pub record PackPre (K N Z M : List ℕ) : Type 0 where
  pub names : length N ≡ length K
  pub sizes : length Z ≡ length K
  pub few : length K ≤ 256
  pub whole : get_or Z 0 0 ≡ length K
  pub room : 6 * length K ≤ length M

-- the six numbers of the row p are replaced
pub record Put (M : List ℕ) (p k x z h s f : ℕ) (M' : List ℕ) : Type 0 where
  pub long : length M' ≡ length M
  pub before : (i : ℕ) → i < 6 * p → get_or M' i 0 ≡ get_or M i 0
  pub kind : get_or M' (6 * p) 0 ≡ k
  pub name : get_or M' (6 * p + 1) 0 ≡ x
  pub size : get_or M' (6 * p + 2) 0 ≡ z
  pub holder : get_or M' (6 * p + 3) 0 ≡ h
  pub start : get_or M' (6 * p + 4) 0 ≡ s
  pub flag : get_or M' (6 * p + 5) 0 ≡ f

-- the rows before p have their holders
pub record HeldBefore (Z M : List ℕ) (p : ℕ) : Type 0 where
  pub is : (q : ℕ) → 0 < q → q < p → Holds Z (get_or M (6 * q + 3) 0) q

pub record HolderPre (Z M : List ℕ) (p : ℕ) : Type 0 where
  pub inside : p < get_or Z 0 0
  pub within : get_or Z 0 0 ≤ length Z
  pub room : 6 * p ≤ length M
  pub held : HeldBefore Z M p

pub record HolderPost (Z : List ℕ) (p h : ℕ) : Type 0 where
  pub least : h ≤ p
  pub holds : 0 < p → Holds Z h p
