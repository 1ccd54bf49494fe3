-- Not needed to believe the promise: what the functions that write one piece of the instance ask of the lists, and what they answer.
use Rattle.std.specs.Prelude.{ℕ, ◌+◌, ◌-◌, ◌<◌, ◌≤◌, ◌≡◌, List, length, get_or, set}
use Rattle.meaning.specs.Forest.{Forest, none, Term, ◌◂◌, rows, size, Context, plug, hole_row}
use Rattle.meaning.specs.Pattern.{Kind, an_individual, a_sequence, a_function, a_context}
use Rattle.meaning.specs.Matcher.{Value, at, as_term, as_forest, as_symbol, as_context}
use Rattle.tree.specs.Places.{TermAt, ContextAt}
use Rattle.pattern.specs.Rows.{code}
use Rattle.pattern.specs.Places.{Variable}
use Rattle.instance.specs.Places.{Ground, meant, Room, Written}

-- copy: both stretches of k numbers are within the lists
pub record CopyPre (X O : List ℕ) (from k t : ℕ) : Type 0 where
  pub read : from + k ≤ length X
  pub written : t + k ≤ length O

-- resized, copy_above: a row that holds the row b is not smaller than what is taken away, and stays small
pub record ResizedPre (S : List ℕ) (b s m u : ℕ) : Type 0 where
  pub within : u < length S
  pub ends : u + get_or S u 0 ≤ length S
  pub holds : b < u + get_or S u 0 → s ≤ get_or S u 0 + m
  pub small : get_or S u 0 + m < 4294967296

pub record AbovePre (S O : List ℕ) (from k b s m t : ℕ) : Type 0 where
  pub read : from + k ≤ length S
  pub written : t + k ≤ length O
  pub each : (u : ℕ) → from ≤ u → u < from + k → ResizedPre S b s m u

-- around: the term at row a holds the row b; what fills it is written and has m rows; t is the row where all of it starts
pub record AroundPre (L S OL OS : List ℕ) (a b t m : ℕ) : Type 0 where
  pub few : length S ≤ 2048
  pub some : (l : ℕ) × (us : Forest) × TermAt L S a l us
  pub low : a ≤ b
  pub high : b < a + get_or S a 0
  pub room : (s : ℕ) → s + get_or S b 0 ≡ get_or S a 0 + m → Room OL OS t s

pub record AroundPost (L S OL OS : List ℕ) (a b t m r : ℕ) (NL NS : List ℕ) : Type 0 where
  pub is : (c : Context) (U : Term) (XL XS : List ℕ) → ContextAt L S a b c → size U ≡ m → Written XL XS OL OS (t + (b - a)) (U ◂ none)
      → (r ≡ t + size (plug c U)) × Written XL XS NL NS t (plug c U ◂ none)

-- individual: the value of the variable x is written from t on; the answer is the row behind it
pub record IndividualPre (L S W OL OS : List ℕ) (x t : ℕ) : Type 0 where
  pub some : (Q : List Kind) × (R : Forest) × Ground L S W Q R × Variable Q an_individual x × Room OL OS t (size (as_term (at (meant W Q R) x)))

pub record IndividualPost (L S W OL OS : List ℕ) (x t r : ℕ) (NL NS : List ℕ) : Type 0 where
  pub is : (Q : List Kind) (R : Forest) → Ground L S W Q R → Variable Q an_individual x
      → (r ≡ t + size (as_term (at (meant W Q R) x))) × Written OL OS NL NS t (as_term (at (meant W Q R) x) ◂ none)

-- sequence: the same for a sequence variable
pub record SequencePre (L S W OL OS : List ℕ) (x t : ℕ) : Type 0 where
  pub some : (Q : List Kind) × (R : Forest) × Ground L S W Q R × Variable Q a_sequence x × Room OL OS t (rows (as_forest (at (meant W Q R) x)))

pub record SequencePost (L S W OL OS : List ℕ) (x t r : ℕ) (NL NS : List ℕ) : Type 0 where
  pub is : (Q : List Kind) (R : Forest) → Ground L S W Q R → Variable Q a_sequence x
      → (r ≡ t + rows (as_forest (at (meant W Q R) x))) × Written OL OS NL NS t (as_forest (at (meant W Q R) x))

-- filling: the row of the hole of the context x, where the context starts at the row t
pub record FillingPre (W : List ℕ) (x t : ℕ) : Type 0 where
  pub some : (L : List ℕ) × (S : List ℕ) × (Q : List Kind) × (R : Forest) × Ground L S W Q R × Variable Q a_context x × (t + hole_row (as_context (at (meant W Q R) x)) < 18446744073709551616)

pub record FillingPost (W : List ℕ) (x t r : ℕ) : Type 0 where
  pub is : (L S : List ℕ) (Q : List Kind) (R : Forest) → Ground L S W Q R → Variable Q a_context x → r ≡ t + hole_row (as_context (at (meant W Q R) x))

-- context: the context x is written from t on around the term that is written from the row f of its hole on up to the row e
pub record ContextPre (L S W OL OS : List ℕ) (x t f e : ℕ) : Type 0 where
  pub some : (Q : List Kind) × (R : Forest) × (U : Term) × Ground L S W Q R × Variable Q a_context x × (f ≡ t + hole_row (as_context (at (meant W Q R) x)))
      × (e ≡ f + size U) × Room OL OS t (size (plug (as_context (at (meant W Q R) x)) U))

pub record ContextPost (L S W OL OS : List ℕ) (x t f e r : ℕ) (NL NS : List ℕ) : Type 0 where
  pub is : (Q : List Kind) (R : Forest) (U : Term) (XL XS : List ℕ) → Ground L S W Q R → Variable Q a_context x → f ≡ t + hole_row (as_context (at (meant W Q R) x)) → e ≡ f + size U
      → Written XL XS OL OS f (U ◂ none)
      → (r ≡ t + size (plug (as_context (at (meant W Q R) x)) U)) × Written XL XS NL NS t (plug (as_context (at (meant W Q R) x)) U ◂ none)

-- head: the pattern row p is a symbol or a function variable, and l is its label in the instance
pub data HeadIs (K N : List ℕ) (Q : List Kind) (σ : List Value) (p l : ℕ) : Type 0 where
  of_symbol : get_or K p 0 ≡ 0 → get_or N p 0 ≡ l → HeadIs K N Q σ p l
  of_function_pair : get_or K p 0 ≡ code a_function → Variable Q a_function (get_or N p 0) → as_symbol (at σ (get_or N p 0)) ≡ l → HeadIs K N Q σ p l

pub record HeadPre (L K N W OL OS : List ℕ) (p t e : ℕ) : Type 0 where
  pub in_kind : p < length K
  pub in_name : p < length N
  pub some : (S : List ℕ) × (Q : List Kind) × (R : Forest) × (l : ℕ) × Ground L S W Q R × HeadIs K N Q (meant W Q R) p l
  pub first : t < e
  pub room : Room OL OS t (e - t)

pub record HeadPost (L K N W OL OS : List ℕ) (p t e : ℕ) (NL NS : List ℕ) : Type 0 where
  pub labelled : (S : List ℕ) (Q : List Kind) (R : Forest) (l : ℕ) → Ground L S W Q R → HeadIs K N Q (meant W Q R) p l → NL ≡ set OL t l
  pub sized : NS ≡ set OS t (e - t)
