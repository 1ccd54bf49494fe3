-- Not needed to believe the promise: a variable that a walk asked for takes a value, and the walk goes on.
use Rattle.std.specs.Prelude.{ℕ, ◌+◌, ◌-◌, ◌≤◌, ◌≡◌, List, [], ◌∷◌, length, take, Result, Ok, Err}
use Rattle.meaning.specs.Pattern.{Kind}
use Rattle.meaning.specs.Record.{Entry, numbers}
use Rattle.meaning.proofs.Walk.{Res, fail, need, ok}
use Rattle.walk.specs.Packed.{Packed}
use Rattle.walk.specs.Above.{Marks, Unchanged}
use Rattle.walk.specs.Cycle.{stop_at, Needs, Agree}
use Rattle.walk.specs.Onward.{Lands}
use Rattle.walk.specs.declared.Halt.{Halt}
use Rattle.walk.specs.declared.Halt.TheVariants as halt

-- the walk f asks for the variable x at the pattern row p and the row s; v is one of its values, with which it goes on at the row u
pub record TakeAsked (L S M R A : List ℕ) (p x s u v : ℕ) (K N Z : List ℕ) (Q : List Kind) (f : List ℕ → Res) (lo hi : ℕ) : Type 0 where
  pub packed : Packed K N Z M
  pub long : length R ≡ 32
  pub marks : Marks K A
  pub needs : Needs L S R A K N Z Q [] f p x s lo hi
  pub low : lo ≤ v
  pub high : v ≤ hi
  pub lands : Lands L S s u (v - lo) needs.stop

pub record TakePre (L S M R A : List ℕ) (p x s u v : ℕ) : Type 0 where
  pub some : (K : List ℕ) × (N : List ℕ) × (Z : List ℕ) × (Q : List Kind) × (f : List ℕ → Res) × (lo : ℕ) × (hi : ℕ) × TakeAsked L S M R A p x s u v K N Z Q f lo hi

-- the answer is that of the walk with v as one more choice; what stands before the variable is kept
pub record TakePost (L S M R A : List ℕ) (p x s u v : ℕ) (o : Result ℕ Halt) (R' A' : List ℕ) : Type 0 where
  pub is : (K N Z : List ℕ) (Q : List Kind) (f : List ℕ → Res) (lo hi : ℕ) → TakeAsked L S M R A p x s u v K N Z Q f lo hi
      → (m : ℕ) × Agree L S R' A' K N Z Q (p + 1) m [] (λ cs. f (v ∷ cs)) o × Unchanged (x + x) R R' × Unchanged (p + 1) A A'

-- the answer is the walk's; the record R then has the numbers of the variables that are bound
pub data Answers (R : List ℕ) : Result ℕ Halt → Res → Type 0 where
  fails : Answers R (Err halt.Fail) fail
  needs : {B : List Entry} {p x t lo hi : ℕ} → length B ≡ x → take (x + x) R ≡ numbers B → Answers R (Err (halt.Need (stop_at p x t))) (need B t lo hi)
  matches : {B : List Entry} {n : ℕ} → length B ≡ n → take (n + n) R ≡ numbers B → Answers R (Ok n) (ok B [])
