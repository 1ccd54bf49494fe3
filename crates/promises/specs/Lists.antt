-- Demand 3: "For every well-formed problem whose list ends complete, every substitution that solves it is listed once, in the stated
-- order, and nothing else is. A list is cut short by room or budget exactly when the rules say; it is then the leading part of all
-- solutions, its tries are those that the rules define, and more room or budget only lengthens it."
use Rattle.std.specs.Prelude.{ℕ, ◌≤◌, ◌<◌, ◌≡◌, ◌↔◌, List, [], length, get_or}
use Rattle.meaning.specs.Forest.{Term}
use Rattle.meaning.specs.Pattern.{Pattern, Kind}
use Rattle.meaning.specs.Matcher.{Value, kinds, Solves}
use Rattle.meaning.specs.Record.{record_of, IsRecord}
use Rattle.meaning.specs.Order.{choices, Mem}
use Rattle.meaning.specs.Means.{RecordMeans}
use Rattle.meaning.specs.Reached.{Begins, Reached}
use Rattle.expression.specs.Expression.{Expression}
use Rattle.expression.specs.Rows.{StartsAt}
use Rattle.constraint.specs.Obeys.{Constraint, free, bound, Allowed}
use Rattle.problem.specs.Problem.{Lists, Poses}
use Rattle.catalogue.specs.Listing.{Listing}
use Rattle.lister.specs.Listed.{Listed, Settled}

-- what an answer of the lister is, for the problem that the lists pose
pub record ListIs (Q : List Kind) (P : Pattern) (T : Term) (cs : List Constraint) (budget : ℕ) (before : List ℕ) (r : Listed) (after : List ℕ) : Type 0 where
  pub accepted : r.code ≡ 0
  -- all solutions in order and all tries; how far room and budget go, and with which ending; the records in the lent list, and behind
  -- them what it held
  pub listing : Listing (Allowed cs) Q P T budget before r.ending r.records r.tries after
  pub leading : Begins listing.result.records listing.meant.solutions
  pub within : r.tries ≤ budget
  -- a list that ends complete
  pub every : r.ending ≡ 0 → (σ : List Value) → Solves (Allowed cs) Q σ P T → Mem (record_of P σ) listing.result.records
  pub only : (x : List ℕ) → Mem x listing.result.records → IsRecord (Allowed cs) Q P T x
  -- a record means its substitution and no other, so that each that solves has one; and no two that are listed mean the same
  pub means : (σ τ : List Value) → Solves (Allowed cs) Q σ P T → RecordMeans T Q (record_of P σ) τ ↔ (τ ≡ σ)
  pub once : (i j : ℕ) (σ : List Value) → i < j → j < length listing.result.records → RecordMeans T Q (get_or listing.result.records i []) σ → RecordMeans T Q (get_or listing.result.records j []) σ → ⊥

pub record Listings : Type 0 where
  -- of every answer that keeps the lister's promise, for every problem that is well formed
  pub lists_all : (l : Lists) (budget : ℕ) (before after : List ℕ) (r : Listed) (T : Term) (P : Pattern) (Q : List Kind) (es : List Expression) (cs : List Constraint)
      → Settled l budget before r after → Poses l T P Q es cs → ListIs Q P T cs budget before r after
  -- the choices up to a try tell which it is: where two places are reached by the same choices, the values so far are the same, and so are
  -- those to be tried. So each vector in the list of tries is one try.
  pub one_place : (l : Lists) (T : Term) (P : Pattern) (Q : List Kind) (es : List Expression) (cs : List Constraint) (σ τ : List Value) (a b c d : ℕ)
      → Poses l T P Q es cs → Reached (Allowed cs) Q σ P T a b → Reached (Allowed cs) Q τ P T c d
      → choices (kinds σ) (record_of P σ) ≡ choices (kinds τ) (record_of P τ) → (σ ≡ τ) × (a ≡ c) × (b ≡ d)
  -- a complete list is empty if and only if nothing solves
  pub empty_is_none : (l : Lists) (budget : ℕ) (before after : List ℕ) (r : Listed) (T : Term) (P : Pattern) (Q : List Kind) (es : List Expression) (cs : List Constraint)
      → Settled l budget before r after → r.ending ≡ 0 → Poses l T P Q es cs → (r.records ≡ 0) ↔ ((σ : List Value) → Solves (Allowed cs) Q σ P T → ⊥)
  -- more room or budget only lengthens the list
  pub more_lengthens : (l : Lists) (b c : ℕ) (before after before' after' : List ℕ) (r s : Listed) (T : Term) (P : Pattern) (Q : List Kind) (es : List Expression) (cs : List Constraint)
      → b ≤ c → length before ≤ length before' → Poses l T P Q es cs → (x : ListIs Q P T cs b before r after) (y : ListIs Q P T cs c before' s after')
      → Begins x.listing.result.records y.listing.result.records
  -- 02, #104: every expression of the table is the constraint of a variable, so that none is forgotten
  pub every_expression_counts : (l : Lists) (T : Term) (P : Pattern) (Q : List Kind) (es : List Expression) (cs : List Constraint) (e : Expression) (row : ℕ)
      → Poses l T P Q es cs → StartsAt es e row → (x : ℕ) × (flag : ℕ) × (get_or cs x free ≡ bound e flag)
  -- .. and a table of more expressions than variables poses no problem
  pub no_more_expressions : (l : Lists) (T : Term) (P : Pattern) (Q : List Kind) (es : List Expression) (cs : List Constraint) → Poses l T P Q es cs → length es ≤ length Q
