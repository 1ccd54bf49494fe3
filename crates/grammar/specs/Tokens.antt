-- Not needed to believe the promise: tokens judged byte by byte, by small automata, and what the machine knows of its level. Which bytes
-- belong to a class is an automaton's parameter: the theory knows the states, what may follow in each and where a token may end, and no
-- byte but `]` and `>`, since 01 forbids `]]>` in text.
use Rattle.std.specs.Prelude.{◌≡◌, Bool, true, false, cond, ◌&&◌, ℕ, eqb}
use Rattle.grammar.specs.Classes.{white, name_start, name_byte, text}
use Rattle.grammar.specs.Grammar.{Bytes, ε, ◌▸◌, greater, bracket, Content, nothing, empty_element, element}

pub record Automaton : Type 0 where
  -- the state before the first byte, and that behind a byte
  pub start : ℕ
  pub step : ℕ → ℕ → ℕ
  -- in this state this byte may follow
  pub goes : ℕ → ℕ → Bool
  -- in this state the token may end
  pub accepting : ℕ → Bool

-- the state behind the bytes
abbrev pub after : Automaton → Bytes → ℕ
after A ε = A.start
after A (s ▸ b) = A.step (after A s) b

-- each byte may follow those before it
abbrev pub Reads : Automaton → Bytes → Type 0
Reads A ε = Unit {0}
Reads A (s ▸ b) = Reads A s × (A.goes (after A s) b ≡ true)

-- .. and the token may end
abbrev pub Token : Automaton → Bytes → Type 0
Token A s = Reads A s × (A.accepting (after A s) ≡ true)

-- bytes of one class, none too
abbrev pub spaces : (ℕ → Bool) → Automaton
spaces class = record { start = 0; step = λ q b. 0; goes = λ q b. class b; accepting = λ q. true }

-- a byte of the first class, and then bytes of the second: behind the first byte the state is 1
abbrev pub names : (ℕ → Bool) → (ℕ → Bool) → Automaton
names first further =
    record { start = 0; step = λ q b. 1; goes = λ q b. cond (eqb q 0) (first b) (further b); accepting = λ q. eqb q 1 }

-- bytes of one class without "]]>": the state counts the ] at the end, up to 2
abbrev pub texts : (ℕ → Bool) → Automaton
texts class = record {
  start = 0;
  step = λ q b. cond (eqb b bracket) (cond (eqb q 0) 1 2) 0;
  goes = λ q b. cond (eqb b greater && eqb q 2) false (class b);
  accepting = λ q. true;
}

-- the subset's tokens, by 01's classes
abbrev pub space_token : Automaton
space_token = spaces white

abbrev pub name_token : Automaton
name_token = names name_start name_byte

abbrev pub ReadsWhite : Bytes → Type 0
ReadsWhite s = Reads space_token s

abbrev pub ReadsName : Bytes → Type 0
ReadsName s = Token name_token s

-- outside the root element only white space may stand; inside, text without "]]>"
pub data Level : Type 0 where
  outer inner : Level

abbrev pub run_token : Level → Automaton
run_token outer = space_token
run_token inner = texts text

abbrev pub Run : Level → Bytes → Type 0
Run k s = Reads (run_token k) s

abbrev pub no_element : Content → Bool
no_element nothing = true
no_element (empty_element f t n g) = false
no_element (element f t n g i l h) = false

-- outside there is one element only
abbrev pub may_open : Level → Content → Bool
may_open outer f = no_element f
may_open inner f = true

abbrev pub WellFormed : Level → Content → Type 0
WellFormed k nothing = Unit {0}
WellFormed k (empty_element f t n g) = WellFormed k f × Run k t × (may_open k f ≡ true) × ReadsName n × ReadsWhite g
WellFormed k (element f t n g i l h) =
    (WellFormed k f × Run k t × (may_open k f ≡ true) × ReadsName n × ReadsWhite g) × WellFormed inner i × Run inner l × ReadsWhite h
