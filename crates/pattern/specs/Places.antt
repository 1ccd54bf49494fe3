-- Not needed to believe the promise: where a pattern and its arguments stand in the rows, for the contracts of functions that only
-- our own crates call.
use Rattle.std.specs.Prelude.{ℕ, suc, ◌+◌, ◌<◌, ◌≤◌, ◌≡◌, List, length, get_or}
use Rattle.meaning.specs.Pattern.{Pattern, symbol, individual, function, context, Patterns, nil, cons, sequence, Kind, an_individual, a_sequence, a_function, a_context, old, look}
use Rattle.pattern.specs.Rows.{code}

-- the row p of a pattern: its kind k and its name x
pub record PatternRow (kind name size : List ℕ) (p k x : ℕ) : Type 0 where
  pub in_kind : p < length kind
  pub in_name : p < length name
  pub in_size : p < length size
  pub kinded : get_or kind p 0 ≡ k
  pub named : get_or name p 0 ≡ x
  pub some : 1 ≤ get_or size p 0

-- the variable x of the kind v; Q has each variable's kind
pub record Variable (Q : List Kind) (v : Kind) (x : ℕ) : Type 0 where
  pub few : x < 16
  pub kept : look Q x ≡ old v

-- the rows from p on are the pattern; those from p up to e the arguments
mutual
  pub data PatternAt (kind name size : List ℕ) (Q : List Kind) : ℕ → Pattern → Type 0 where
    at_symbol : {p f : ℕ} {ps : Patterns} → PatternRow kind name size p 0 f → PatternsAt kind name size Q (p + 1) (p + get_or size p 0) ps
        → PatternAt kind name size Q p (symbol f ps)
    at_individual : {p x : ℕ} → PatternRow kind name size p (code an_individual) x → Variable Q an_individual x → get_or size p 0 ≡ 1
        → PatternAt kind name size Q p (individual x)
    at_function : {p x : ℕ} {ps : Patterns} → PatternRow kind name size p (code a_function) x → Variable Q a_function x
        → PatternsAt kind name size Q (p + 1) (p + get_or size p 0) ps → PatternAt kind name size Q p (function x ps)
    at_context : {p x : ℕ} {q : Pattern} → PatternRow kind name size p (code a_context) x → Variable Q a_context x → get_or size p 0 ≡ suc (get_or size (p + 1) 0)
        → PatternAt kind name size Q (p + 1) q → PatternAt kind name size Q p (context x q)

  pub data PatternsAt (kind name size : List ℕ) (Q : List Kind) : ℕ → ℕ → Patterns → Type 0 where
    at_nil : {p e : ℕ} → p ≡ e → e ≤ length kind → PatternsAt kind name size Q p e nil
    at_cons : {p e : ℕ} {q : Pattern} {ps : Patterns} → PatternAt kind name size Q p q → p + get_or size p 0 ≤ e
        → PatternsAt kind name size Q (p + get_or size p 0) e ps → PatternsAt kind name size Q p e (cons q ps)
    at_sequence : {p e x : ℕ} {ps : Patterns} → PatternRow kind name size p (code a_sequence) x → Variable Q a_sequence x → get_or size p 0 ≡ 1 → p < e
        → PatternsAt kind name size Q (p + 1) e ps → PatternsAt kind name size Q p e (sequence x ps)
