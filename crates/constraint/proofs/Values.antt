-- For callers: the values that a record's numbers mean stand at their rows, and `obeys` on them says what the constraints allow.
use Prim.Native.Nat.{ℕ, ◌+◌, ◌-◌, ◌≤◌, ◌<◌}
use mathlib.Core.Path.{◌≡◌, ap}
use mathlib.Core.Bool.{Bool}
use mathlib.Core.List.{List}
use lib.ListN.{get_or}
use native.Mathlib.Omega.{arith}
use native.Mathlib.Decide.{dec_lt}
use Rattle.meaning.specs.Calls.{Says}
use Rattle.meaning.specs.Forest.{Forest, none, rows, terms, size}
use Rattle.meaning.specs.Pattern.{Kind, an_individual, a_sequence, a_function, a_context, old, look}
use Rattle.meaning.specs.Matcher.{Value, of_sequence, of_context}
use Rattle.meaning.specs.Read.{take_t, forest_from_row, head_term, cut, value_at, Fits}
use Rattle.meaning.proofs.Laws.{no_rows}
use Rattle.meaning.proofs.From.{from_past}
use Rattle.tree.specs.Places.{TermsAt, ContextAt}
use Rattle.tree.proofs.Terms.{terms_end, terms_rows, nothing_at, FirstAt, first_at}
use Rattle.tree.proofs.Cuts.{from_row, cut_at}
use Rattle.pattern.specs.Rows.{code}
use Rattle.expression.specs.Expression.{Expression}
use Rattle.expression.specs.Rows.{GoodTable}
use Rattle.expression.proofs.Places.{start_below}
use Rattle.letters.specs.declared.Tables.{Tables}
use Rattle.letters.specs.State.{TablesOf}
use Rattle.constraint.specs.Obeys.{Constraint, Allowed}
use Rattle.constraint.specs.Good.{GoodConstraints}
use Rattle.constraint.specs.Pair.{Pair, no_pair, a_pair}
use Rattle.constraint.specs.Reading.{ValueAt, a_sequence_value, a_context_value, another, ObeysPre, ObeysPost}
use Rattle.constraint.proofs.Constraints.{pair_at}

around_at : {L S : List ℕ} {a e : ℕ} {f : Forest} (b : ℕ) → FirstAt L S a e f → a ≤ b → b < a + size (head_term f) → ContextAt L S a b (cut (head_term f) (b - a)).around
around_at b h p q =
    let z = ap (λ (g : Forest). size (head_term g)) h.is in
    rw h.is (cut_at b h.first p (omega (arith, h.first.row.size))).0

-- R is all of the tree's rows
module _ {L S : List ℕ} {n : ℕ} {R : Forest} (all : TermsAt L S 0 n R) where
  many : rows R ≡ n
  many = omega (arith, terms_rows all)

  sequence_at : (a b : ℕ) → a ≤ rows R → b ≤ terms (forest_from_row R a) → ValueAt L S a b a_sequence (of_sequence (take_t b (forest_from_row R a)))
  sequence_at a b h k = go (dec_lt a n)
    where
      go : Dec (a < n) → ValueAt L S a b a_sequence (of_sequence (take_t b (forest_from_row R a)))
      go (yes x) = a_sequence_value (from_row a all x).0.here k
      go (no x) =
          let z : forest_from_row R a ≡ none = no_rows (forest_from_row R a) (from_past R a (omega (arith, many))) in
          let e = terms_end all in
          a_sequence_value {e = a} {f = forest_from_row R a} (rw z (nothing_at a (omega (arith, many)) (omega (arith, many)))) k

  context_at : (a b : ℕ) → a < rows R → a ≤ b → b < a + size (head_term (forest_from_row R a)) → ValueAt L S a b a_context (of_context (cut (head_term (forest_from_row R a)) (b - a)).around)
  context_at a b h p q =
      let w = (from_row a all (omega (arith, many))).0 in
      a_context_value (around_at b (first_at w.here w.later) p q)

  pub value_at_lem : (k : Kind) (a b : ℕ) → Fits k R a b → ValueAt L S a b k (value_at k R a b)
  value_at_lem an_individual a b f = another (λ m. m)
  value_at_lem a_sequence a b f = sequence_at a b f.0 f.1
  value_at_lem a_function a b f = another (λ m. m)
  value_at_lem a_context a b f = context_at a b f.0 f.1 f.2

-- a good table's expressions start below 64
pub pair_low : {kind name size : List ℕ} {es : List Expression} {k : Kind} {first flag : ℕ} {c : Constraint} → GoodTable kind name size es → Pair es k first flag c → first ≤ 64
pair_low g no_pair = omega arith
pair_low g (a_pair m s f) = start_below g s

-- the variable x of the kind k, with its two numbers in the list
module _ {es : List Expression} {Q : List Kind} {list : List ℕ} {cs : List Constraint} {k : Kind} {number : ℕ} (x : ℕ) (good : GoodConstraints es Q list cs) (kept : look Q x ≡ old k) (numbered : number ≡ code k) where
  pub obeys_asked : {kind name size L S : List ℕ} {a b : ℕ} {v : Value} → GoodTable kind name size es → ValueAt L S a b k v
      → ObeysPre L S (get_or list (x + x) 0) (get_or list (x + x + 1) 0) number a b
  obeys_asked {v = v} g w =
      let p = pair_at x good kept in
      record { low = pair_low g p; some = (es, k, _, v, numbered, p, w) }

  -- the answer of `obeys` is exactly what is allowed
  pub obeys_allowed : {L S : List ℕ} {tables : Tables} {a b : ℕ} {r : Bool} {v : Value}
      → ObeysPost L S tables (get_or list (x + x) 0) (get_or list (x + x + 1) 0) number a b r → TablesOf es tables → ValueAt L S a b k v
      → Says r (Allowed cs x v)
  obeys_allowed {v = v} post t w = post.is es k _ v t numbered (pair_at x good kept) w
