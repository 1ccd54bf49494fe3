-- Not needed to believe the promise: the levels of the search, and one try.
use Rattle.std.specs.Prelude.{ℕ, suc, ◌+◌, ◌-◌, ◌<◌, ◌≤◌, ◌≡◌, List, [], ◌∷◌, ◌++◌, length, get_or, take, Result, Err}
use Rattle.meaning.specs.Forest.{none, Term, ◌◂◌}
use Rattle.meaning.specs.Pattern.{Pattern, Kind, old, look}
use Rattle.meaning.specs.Read.{value_at, Fits}
use Rattle.meaning.proofs.Walk.{Res, walk_t}
use Rattle.meaning.proofs.Next.{Any, any?}
use Rattle.pattern.specs.Rows.{GoodPattern}
use Rattle.expression.specs.Expression.{Expression}
use Rattle.constraint.specs.Obeys.{Constraint, Allowed}
use Rattle.problem.specs.Allowing.{Allowing}
use Rattle.walk.specs.Packed.{Packed, Bounds}
use Rattle.walk.specs.Above.{Marks, Unchanged}
use Rattle.walk.specs.Cycle.{Needs, Agree}
use Rattle.walk.specs.Onward.{Lands}
use Rattle.walk.specs.Taken.{TakeAsked}
use Rattle.walk.specs.declared.Halt.{Halt}
use Rattle.walk.specs.declared.Halt.TheVariants as halt
use Rattle.letters.specs.declared.Tables.{Tables}

-- the problem that is searched: the tree, the packed pattern, the constraints and the tables of the expressions
pub record Search (L S M : List ℕ) (tables : Tables) (T : Term) (P : Pattern) (Q : List Kind) (es : List Expression) (cs : List Constraint) : Type 0 where
  pub K : List ℕ
  pub N : List ℕ
  pub Z : List ℕ
  pub C : List ℕ
  pub kinds : List ℕ
  pub allowing : Allowing L S tables C kinds T Q es cs
  pub pattern : GoodPattern K N Z P Q
  pub packed : Packed K N Z M
  pub bounds : Bounds K N C M

-- one try: the value v of the variable x at the pattern row p, which starts at the row s; f is the walk that asked for it
pub record AttemptPre (L S M : List ℕ) (tables : Tables) (R A : List ℕ) (p x s u v : ℕ) : Type 0 where
  pub long : length R ≡ 32
  pub some : (T : Term) × (P : Pattern) × (Q : List Kind) × (es : List Expression) × (cs : List Constraint) × (k : Kind) × (f : List ℕ → Res) × (lo : ℕ) × (hi : ℕ)
      × (w : Search L S M tables T P Q es cs) × (look Q x ≡ old k) × Fits k (T ◂ none) s v × TakeAsked L S M R A p x s u v w.K w.N w.Z Q f lo hi

-- where the value is not allowed it fails; else the walk goes on with it. What stands before the variable is kept.
pub record AttemptPost (L S M : List ℕ) (tables : Tables) (R A : List ℕ) (p x s u v : ℕ) (o : Result ℕ Halt) (R' A' : List ℕ) : Type 0 where
  pub is : (T : Term) (P : Pattern) (Q : List Kind) (es : List Expression) (cs : List Constraint) (k : Kind) (f : List ℕ → Res) (lo hi : ℕ)
      (w : Search L S M tables T P Q es cs) → look Q x ≡ old k → Fits k (T ◂ none) s v → TakeAsked L S M R A p x s u v w.K w.N w.Z Q f lo hi
      → ((Allowed cs x (value_at k (T ◂ none) s v) → ⊥) → o ≡ (Err halt.Fail))
      × (Allowed cs x (value_at k (T ◂ none) s v) → (m : ℕ) × Agree L S R' A' w.K w.N w.Z Q (p + 1) m [] (λ ds. f (v ∷ ds)) o)
      × Unchanged (x + x) R R' × Unchanged (p + 1) A A'

-- a level: the walk f asked for the variable x, and goes on at the row u with the next value v; left values are left
pub record Pause (L S R A K N Z : List ℕ) (Q : List Kind) (f : List ℕ → Res) (p x s u v left : ℕ) : Type 0 where
  pub lo : ℕ
  pub hi : ℕ
  pub needs : Needs L S R A K N Z Q [] f p x s lo hi
  pub low : lo ≤ v
  pub high : v + left ≡ suc hi
  pub lands : 0 < left → Lands L S s u (v - lo) needs.stop

-- the levels below depth, each after the choices of those before it, deeper ones further right in the pattern
pub record Pauses (L S R A K N Z : List ℕ) (Q : List Kind) (P : Pattern) (T : Term) (vals places variables starts rows nexts lefts : List ℕ) (depth : ℕ) : Type 0 where
  pub marks : Marks K A
  pub each : (k : ℕ) → k < depth
      → Pause L S R A K N Z Q (λ ds. walk_t Any any? P T 0 [] (take k vals ++ ds)) (get_or places k 0) (get_or variables k 0) (get_or starts k 0) (get_or rows k 0) (get_or nexts k 0) (get_or lefts k 0)
  pub rise : (j k : ℕ) → j < k → k < depth → get_or places j 0 < get_or places k 0
