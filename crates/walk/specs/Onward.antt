-- Not needed to believe the promise: how a walk begins, and how it goes on where it stopped.
use Rattle.std.specs.Prelude.{ℕ, ◌+◌, ◌≤◌, ◌≡◌, List, [], length, get_or, Result}
use Rattle.meaning.specs.Forest.{Forest, Term}
use Rattle.meaning.specs.Pattern.{Pattern, Patterns, Kind, after_t}
use Rattle.meaning.specs.Record.{Entry}
use Rattle.meaning.proofs.Walk.{walk_t}
use Rattle.meaning.proofs.Resume.{Frame, Stop, at_sequence, at_context, run, onward}
use Rattle.meaning.proofs.Next.{Any, any?}
use Rattle.tree.specs.Rows.{GoodTree}
use Rattle.pattern.specs.Rows.{GoodPattern}
use Rattle.variable.specs.State.{State, Kept}
use Rattle.variable.specs.Steps.{InHole}
use Rattle.variable.specs.Steps as steps
use Rattle.walk.specs.Packed.{Packed}
use Rattle.walk.specs.Above.{Marks, Unchanged, Marked, Behind, Stands}
use Rattle.walk.specs.Cycle.{Agree}
use Rattle.walk.specs.declared.Halt.{Halt}

-- up: the walk is behind the pattern term at the row p, and the frames are left
pub record UpAsked (L S M R A : List ℕ) (p n : ℕ) (K N Z : List ℕ) (Q : List Kind) (B : List Entry) (fs : List Frame) : Type 0 where
  pub packed : Packed K N Z M
  pub state : State L S R Q n B
  pub marks : Marks K A
  pub holder : ℕ
  pub end : ℕ
  pub marked : Marked S A p end
  pub above : Behind L S A K N Z Q holder p end n fs

pub record UpPre (L S M R A : List ℕ) (p n : ℕ) : Type 0 where
  pub some : (K : List ℕ) × (N : List ℕ) × (Z : List ℕ) × (Q : List Kind) × (B : List Entry) × (fs : List Frame) × UpAsked L S M R A p n K N Z Q B fs

-- all of the frames are walked. It asks behind the term at p.
pub record UpPost (L S M R A : List ℕ) (p n : ℕ) (o : Result ℕ Halt) (R' A' : List ℕ) : Type 0 where
  pub is : (K N Z : List ℕ) (Q : List Kind) (B : List Entry) (fs : List Frame) → UpAsked L S M R A p n K N Z Q B fs
      → (m : ℕ) × Agree L S R' A' K N Z Q (p + get_or Z p 0) m [] (run Any any? fs B) o × Kept Q n R R' × Unchanged (p + get_or Z p 0) A A'

-- the row u at which the walk goes on from a stop at the row s, d above the least value
pub data Lands (L S : List ℕ) (s u d : ℕ) : Stop → Type 0 where
  at_terms : {e : ℕ} {ps : Patterns} {us : Forest} → steps.Behind L S s e us u d → Lands L S s u d (at_sequence ps us)
  at_hole : {q : Pattern} {T : Term} → InHole L S s T u d → Lands L S s u d (at_context q T)

-- resume: n variables are bound, the last of them, x, at the stop w
pub record ResumeAsked (L S M R A : List ℕ) (p u n : ℕ) (K N Z : List ℕ) (Q : List Kind) (B : List Entry) (x s : ℕ) (w : Stop) (fs : List Frame) (d : ℕ) : Type 0 where
  pub packed : Packed K N Z M
  pub state : State L S R Q n B
  pub marks : Marks K A
  pub stands : Stands L S A K N Z Q p x s w fs
  pub last : n ≡ x + 1
  pub lands : Lands L S s u d w

pub record ResumePre (L S M R A : List ℕ) (p u n : ℕ) : Type 0 where
  pub some : (K : List ℕ) × (N : List ℕ) × (Z : List ℕ) × (Q : List Kind) × (B : List Entry) × (x : ℕ) × (s : ℕ) × (w : Stop) × (fs : List Frame) × (d : ℕ)
      × ResumeAsked L S M R A p u n K N Z Q B x s w fs d

pub record ResumePost (L S M R A : List ℕ) (p u n : ℕ) (o : Result ℕ Halt) (R' A' : List ℕ) : Type 0 where
  pub is : (K N Z : List ℕ) (Q : List Kind) (B : List Entry) (x s : ℕ) (w : Stop) (fs : List Frame) (d : ℕ) → ResumeAsked L S M R A p u n K N Z Q B x s w fs d
      → (m : ℕ) × Agree L S R' A' K N Z Q (p + 1) m [] (onward Any any? w s fs d B) o × Kept Q n R R' × Unchanged (p + 1) A A'

-- begin: the rows are those of the tree T and of the pattern P with variables of the kinds Q, and the record has room for their numbers
pub record Problem (L S M R A : List ℕ) (T : Term) (P : Pattern) (Q : List Kind) : Type 0 where
  pub K : List ℕ
  pub N : List ℕ
  pub Z : List ℕ
  pub tree : GoodTree L S T
  pub pattern : GoodPattern K N Z P Q
  pub packed : Packed K N Z M
  pub room : length Q + length Q ≤ length R
  pub marks : Marks K A

pub record BeginPre (L S M R A : List ℕ) : Type 0 where
  pub some : (T : Term) × (P : Pattern) × (Q : List Kind) × Problem L S M R A T P Q

pub record BeginPost (L S M R A : List ℕ) (o : Result ℕ Halt) (R' A' : List ℕ) : Type 0 where
  pub is : (T : Term) (P : Pattern) (Q : List Kind) (h : Problem L S M R A T P Q)
      → Agree L S R' A' h.K h.N h.Z Q 0 (after_t P 0) [] (walk_t Any any? P T 0 []) o × Kept Q 0 R R' × Unchanged 0 A A'
