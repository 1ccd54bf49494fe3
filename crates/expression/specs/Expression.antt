-- 01, "Patterns and constraints": "symbol, .. empty, .. concatenation of two, .. choice of two, .. repetition of one".
use Rattle.std.specs.Prelude.{ℕ, ◌≡◌, List, [], ◌∷◌, ◌++◌}

pub data Expression : Type 0 where
  symbol : (f : ℕ) → Expression
  empty : Expression
  concatenation : (a b : Expression) → Expression
  choice : (a b : Expression) → Expression
  repetition : (a : Expression) → Expression

-- "Languages are those of 000" (000, section 4: L(E), the regular language that E describes): the words of an expression. What the letters of a word are, and which of them a symbol of the expression reads, is left open.
pub data Language {Letter : Type 0} (Reads : ℕ → Letter → Type 0) : Expression → List Letter → Type 0 where
  in_symbol : {f : ℕ} {c : Letter} → Reads f c → Language Reads (symbol f) (c ∷ [])
  in_empty : Language Reads empty []
  in_concatenation : {a b : Expression} {u v : List Letter} → Language Reads a u → Language Reads b v → Language Reads (concatenation a b) (u ++ v)
  in_first : {a b : Expression} {u : List Letter} → Language Reads a u → Language Reads (choice a b) u
  in_second : {a b : Expression} {u : List Letter} → Language Reads b u → Language Reads (choice a b) u
  in_none : {a : Expression} → Language Reads (repetition a) []
  in_more : {a : Expression} {u v : List Letter} → Language Reads a u → Language Reads (repetition a) v → Language Reads (repetition a) (u ++ v)

-- here a word is of labels, and a symbol reads itself
abbrev pub Same : ℕ → ℕ → Type 0
Same f label = f ≡ label

abbrev pub In : Expression → List ℕ → Type 0
In e word = Language Same e word
