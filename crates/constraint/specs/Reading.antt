-- Not needed to believe the promise: what the functions that read a value's word along the rows ask and answer; only our own
-- crates call them.
use Rattle.std.specs.Prelude.{ℕ, ◌+◌, ◌<◌, ◌≤◌, ◌≡◌, Bool, List, []}
use Rattle.meaning.specs.Calls.{Says}
use Rattle.meaning.specs.Forest.{Forest, terms, Context}
use Rattle.meaning.specs.Pattern.{Kind, a_sequence, a_context}
use Rattle.meaning.specs.Matcher.{Value, of_sequence, of_context}
use Rattle.meaning.specs.Read.{take_t}
use Rattle.meaning.proofs.Laws.{drop_t}
use Rattle.tree.specs.Places.{TermsAt, ContextAt}
use Rattle.pattern.specs.Rows.{code}
use Rattle.expression.specs.Expression.{Expression}
use Rattle.expression.specs.Rows.{StartsAt}
use Rattle.letters.specs.declared.Tables.{Tables}
use Rattle.letters.specs.State.{StateOf, TablesOf}
use Rattle.constraint.specs.Obeys.{heads, word, Constraint, Obeys}
use Rattle.constraint.specs.Good.{MayHave}
use Rattle.constraint.specs.Pair.{Pair}

-- the two numbers a and b of a variable of this kind mean this value: so many neighbours from the row a on, or the term at the
-- row a with the hole at the row b. Values of other kinds are never judged.
pub data ValueAt (L S : List ℕ) (a b : ℕ) : Kind → Value → Type 0 where
  a_sequence_value : {e : ℕ} {f : Forest} → TermsAt L S a e f → b ≤ terms f → ValueAt L S a b a_sequence (of_sequence (take_t b f))
  a_context_value : {c : Context} → ContextAt L S a b c → ValueAt L S a b a_context (of_context c)
  another : {k : Kind} {v : Value} → (MayHave k → ⊥) → ValueAt L S a b k v

-- so many neighbours stand from the row a on
pub record HeadsPre (L S : List ℕ) (root a count : ℕ) : Type 0 where
  pub low : root < 64
  pub some : (e : ℕ) × (f : Forest) × TermsAt L S a e f × (count ≤ terms f)

-- the term at the row a holds the row b
pub record PathPre (L S : List ℕ) (root a b : ℕ) : Type 0 where
  pub low : root < 64
  pub some : (c : Context) × ContextAt L S a b c

-- next and end are the state after the word, for the expression that starts at the row root
pub record After (tables : Tables) (root : ℕ) (w : List ℕ) (next : ℕ) (end : Bool) : Type 0 where
  pub is : (es : List Expression) (e : Expression) → TablesOf es tables → StartsAt es e root → StateOf tables e w next end

-- so many neighbours stand from the row on
pub record MorePre (L S : List ℕ) (row more : ℕ) : Type 0 where
  pub some : (e : ℕ) × (f : Forest) × TermsAt L S row e f × (more ≤ terms f)

-- the heads of the first c neighbours from the row a on are read: the reading stands at the row, in this state
pub record ReadTo (L S : List ℕ) (tables : Tables) (root a c row next : ℕ) (end : Bool) : Type 0 where
  pub is : (e : ℕ) (f : Forest) → TermsAt L S a e f → c ≤ terms f → TermsAt L S row e (drop_t c f) × After tables root (heads (take_t c f)) next end

-- wherever the reading began, it has gone on by so many
pub record ReadOn (L S : List ℕ) (tables : Tables) (row next : ℕ) (end : Bool) (more row' next' : ℕ) (end' : Bool) : Type 0 where
  pub on : (root a c : ℕ) → ReadTo L S tables root a c row next end → ReadTo L S tables root a (c + more) row' next' end'

-- the two numbers start and flag give a variable of this kind a constraint, and the rows a value
pub record ObeysPre (L S : List ℕ) (start flag kind a b : ℕ) : Type 0 where
  pub low : start ≤ 64
  pub some : (es : List Expression) × (k : Kind) × (c : Constraint) × (v : Value) × (kind ≡ code k) × Pair es k start flag c × ValueAt L S a b k v

-- the answer says whether the value obeys the constraint
pub record ObeysPost (L S : List ℕ) (tables : Tables) (start flag kind a b : ℕ) (r : Bool) : Type 0 where
  pub is : (es : List Expression) (k : Kind) (c : Constraint) (v : Value) → TablesOf es tables → kind ≡ code k → Pair es k start flag c → ValueAt L S a b k v → Says r (Obeys c v)

-- the answer says whether the flag forbids the value
pub record ForbiddenPost (flag kind a b : ℕ) (r : Bool) : Type 0 where
  pub is : (L S : List ℕ) (k : Kind) (v : Value) → kind ≡ code k → MayHave k → ValueAt L S a b k v → Says r ((flag ≡ 1) × (word v ≡ []))
