-- Not needed to believe the promise: where a token of the document ends, which the token loops answer.
use Rattle.std.specs.Prelude.{◌≡◌, Bool, true, false, cond, List, ℕ, zero, suc, ◌+◌, ◌-◌, ◌*◌, ◌≤◌, ◌<◌, eqb, ltb, length, get_or}
use Rattle.grammar.specs.Classes.{class_number, name_byte}
use Rattle.grammar.specs.Tokens.{Automaton, after, space_token, name_token, run_token, Level, outer, inner}
use Rattle.grammar.specs.Grammar.{Bytes, ε, ◌▸◌}

-- a table that has the class of each ASCII code
pub record Coded (table : List ℕ) : Type 0 where
  pub each : (k : ℕ) → k < 128 → get_or table k 0 ≡ class_number k

-- 1 for a class whose bytes stop plain text: those of no text, and >
unfoldable pub stop_number : ℕ → ℕ
stop_number c = cond (ltb 1 c) 0 1

-- the classes of all bytes
pub record Spread (table : List ℕ) : Type 0 where
  pub long : length table ≡ 512
  pub each : (k : ℕ) → k < 256 → get_or table k 0 ≡ class_number k

-- .. and behind them which bytes stop plain text
pub record Classed (table : List ℕ) : Type 0 where
  pub each : (k : ℕ) → k < 256 → get_or table k 0 ≡ class_number k
  pub stops : (k : ℕ) → k < 256 → get_or table (256 + k) 0 ≡ stop_number (class_number k)

-- n bytes of w from the place a on
unfoldable pub bytes : List ℕ → ℕ → ℕ → Bytes
bytes w a zero = ε
bytes w a (suc n) = bytes w a n ▸ get_or w (a + n) 0

-- the test holds of every place from a up to r
pub record Passed (test : ℕ → Bool) (w : List ℕ) (a r : ℕ) : Type 0 where
  pub from : a ≤ r
  pub within : r ≤ length w
  pub each : (k : ℕ) → a ≤ k → k < r → test k ≡ true

-- .. and r is the first where it does not, or the end
pub record Span (test : ℕ → Bool) (w : List ℕ) (a r : ℕ) : Type 0 where
  pub passed : Passed test w a r
  pub stop : r < length w → test r ≡ false

-- .. or the limit
pub record SpanTo (test : ℕ → Bool) (w : List ℕ) (a limit r : ℕ) : Type 0 where
  pub passed : Passed test w a r
  pub below : r ≤ limit
  pub stop : r < limit → test r ≡ false

-- the byte at k may stand in white space, or in a name behind its first byte
abbrev pub white_at : List ℕ → ℕ → Bool
white_at w k = space_token.goes 0 (get_or w k 0)

abbrev pub name_at : List ℕ → ℕ → Bool
name_at w k = name_token.goes 1 (get_or w k 0)

-- outside the root depth is 0
abbrev pub level_of : ℕ → Level
level_of zero = outer
level_of (suc n) = inner

-- the byte at k goes on with the token that starts at a
abbrev pub goes_at : Automaton → List ℕ → ℕ → ℕ → Bool
goes_at A w a k = A.goes (after A (bytes w a (k - a))) (get_or w k 0)

unfoldable pub run_at : Level → List ℕ → ℕ → ℕ → Bool
run_at l w a k = goes_at (run_token l) w a k

abbrev pub is_text_at : List ℕ → ℕ → ℕ → Bool
is_text_at w a k = run_at inner w a k

-- 1 where the byte at k stops plain text
unfoldable pub stop_at : List ℕ → ℕ → ℕ
stop_at w k = stop_number (class_number (get_or w k 0))

-- n binary digits from the one at i on, the first the lowest, and then those of the number m
unfoldable pub digits : (ℕ → ℕ) → ℕ → ℕ → ℕ → ℕ
digits s i zero m = m
digits s i (suc n) m = s i + 2 * digits s (i + 1) n m

-- a byte that is text whatever stands before it
unfoldable pub plain : ℕ → Bool
plain b = ltb 1 (class_number b)

-- .. stands at k
abbrev pub plain_at : List ℕ → ℕ → Bool
plain_at w k = plain (get_or w k 0)

-- the byte at k goes on with the name that starts at name and stands again from a on
unfoldable pub same_at : List ℕ → ℕ → ℕ → ℕ → Bool
same_at w name a k = cond (name_byte (get_or w (name + (k - a)) 0)) (eqb (get_or w k 0) (get_or w (name + (k - a)) 0)) false
