-- Not needed to believe the promise: what the functions that count the rows of the instance ask of the lists, and what they answer.
use Rattle.std.specs.Prelude.{ℕ, zero, suc, ◌+◌, ◌<◌, ◌≤◌, ◌≡◌, List, length, get_or}
use Rattle.meaning.specs.Forest.{Forest, rows, size, Context, hole, node}
use Rattle.meaning.specs.Pattern.{Pattern, Kind}
use Rattle.meaning.specs.Matcher.{Value, of_individual, of_sequence, of_function, of_context, at, apply}
use Rattle.pattern.specs.Rows.{code}
use Rattle.pattern.specs.Places.{Variable, PatternAt}
use Rattle.instance.specs.Places.{Ground, meant}

-- row_adds: how many rows of the instance the pattern row p adds, those of the rows below it not counted
unfoldable pub beside_hole : Context → ℕ
beside_hole hole = 0
beside_hole (node l left c right) = suc (rows left + beside_hole c + rows right)

abbrev pub adds : Value → ℕ
adds (of_individual l us) = suc (rows us)
adds (of_sequence f) = rows f
adds (of_function l) = 1
adds (of_context c) = beside_hole c

abbrev pub row_addition : List Value → ℕ → ℕ → ℕ
row_addition σ zero x = 1
row_addition σ (suc k) x = adds (at σ x)

-- the pattern row p is a symbol's or a variable's
pub data RowIs (K N : List ℕ) (Q : List Kind) (p : ℕ) : Type 0 where
  a_symbol : get_or K p 0 ≡ 0 → RowIs K N Q p
  a_variable : (v : Kind) → get_or K p 0 ≡ code v → Variable Q v (get_or N p 0) → RowIs K N Q p

pub record RowPre (S K N W : List ℕ) (p : ℕ) : Type 0 where
  pub in_kind : p < length K
  pub in_name : p < length N
  pub some : (L : List ℕ) × (Q : List Kind) × (R : Forest) × Ground L S W Q R × RowIs K N Q p

pub record RowPost (S K N W : List ℕ) (p r : ℕ) : Type 0 where
  pub few : r ≤ 2048
  pub is : (L : List ℕ) (Q : List Kind) (R : Forest) → Ground L S W Q R → RowIs K N Q p → r ≡ row_addition (meant W Q R) (get_or K p 0) (get_or N p 0)

-- rows_of: the rows of the whole instance
pub record RowsPre (S K N W : List ℕ) : Type 0 where
  pub few : length K ≤ 256
  pub named : length N ≡ length K
  pub some : (L : List ℕ) × (Q : List Kind) × (R : Forest) × (Z : List ℕ) × (P : Pattern) × Ground L S W Q R × PatternAt K N Z Q 0 P × (get_or Z 0 0 ≡ length K)

pub record RowsPost (S K N W : List ℕ) (r : ℕ) : Type 0 where
  pub is : (L : List ℕ) (Q : List Kind) (R : Forest) (Z : List ℕ) (P : Pattern) → Ground L S W Q R → PatternAt K N Z Q 0 P → get_or Z 0 0 ≡ length K → r ≡ size (apply (meant W Q R) P)
