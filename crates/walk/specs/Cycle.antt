-- Not needed to believe the promise: what the term walk and the argument-list walk ask and answer.
use Rattle.std.specs.Prelude.{ℕ, ◌+◌, ◌<◌, ◌≤◌, ◌≡◌, List, [], ◌∷◌, length, get_or, Result, Ok, Err}
use Rattle.meaning.specs.Forest.{Forest, Term}
use Rattle.meaning.specs.Pattern.{Pattern, Patterns, Kind, GoodT, GoodF, after_t, after_f}
use Rattle.meaning.specs.Record.{Entry}
use Rattle.meaning.proofs.Walk.{Res, fail, need, ok, and_then, walk_t, walk_f}
use Rattle.meaning.proofs.Resume.{Frame, Stop, least, largest, run, enter}
use Rattle.tree.specs.Places.{TermsAt, TermAt}
use Rattle.pattern.specs.Places.{PatternAt, PatternsAt}
use Rattle.variable.specs.State.{State, Kept}
use Rattle.walk.specs.Packed.{Past, Packed}
use Rattle.walk.specs.Above.{Marks, Unchanged, Behind, Held, Stands}
use Rattle.meaning.proofs.Next.{Any, any?}
use Rattle.walk.specs.declared.Halt.{Halt}
use Rattle.walk.specs.declared.Halt.TheVariants as halt
use Rattle.walk.specs.declared.Stop.{Stop as Stopped}

-- f is a walk, which says its result for each list of choices; fs is left behind it. It asks for the variable x at the row p of the
-- pattern and the row s of the tree. With one choice more it goes on from there.
pub record Needs (L S R A K N Z : List ℕ) (Q : List Kind) (fs : List Frame) (f : List ℕ → Res) (p x s lo hi : ℕ) : Type 0 where
  pub bound : List Entry
  pub stop : Stop
  pub frames : List Frame
  pub within : x < length Q
  pub state : State L S R Q x bound
  pub stands : Stands L S A K N Z Q p x s stop frames
  pub low : least stop s ≡ lo
  pub high : largest stop s ≡ hi
  pub asks : f [] ≡ need bound s lo hi
  pub goes : (v : ℕ) (cs : List ℕ) → and_then (f (v ∷ cs)) (run Any any? fs) ≡ enter Any any? stop x s frames bound v cs

-- where the code's walk stops
abbrev pub stop_at : ℕ → ℕ → ℕ → Stopped
stop_at p x s = record { place = p; variable = x; start = s }

-- the code's answer, with the record R and the rows A, is that of the walk f; where it goes on, m variables are bound. It does not ask
-- before the row p₀.
pub data Agree (L S R A K N Z : List ℕ) (Q : List Kind) (p₀ m : ℕ) (fs : List Frame) (f : List ℕ → Res) : Result ℕ Halt → Type 0 where
  both_fail : ((cs : List ℕ) → f cs ≡ fail) → Agree L S R A K N Z Q p₀ m fs f (Err halt.Fail)
  both_need : {p x s lo hi : ℕ} → p₀ ≤ p → Needs L S R A K N Z Q fs f p x s lo hi → Agree L S R A K N Z Q p₀ m fs f (Err (halt.Need (stop_at p x s)))
  both_ok : {B : List Entry} {k : ℕ} → k ≡ m → State L S R Q k B → ((cs : List ℕ) → f cs ≡ ok B cs) → Agree L S R A K N Z Q p₀ m fs f (Ok k)

-- the pattern term q at row p, the term T at row t, and the state of the walk between them
pub record TermAsked (L S M R A : List ℕ) (p t n : ℕ) (K N Z : List ℕ) (Q : List Kind) (q : Pattern) (T : Term) (B : List Entry) (fs : List Frame) : Type 0 where
  pub packed : Packed K N Z M
  pub pattern : PatternAt K N Z Q p q
  pub good : GoodT Q q n
  pub tree : TermAt L S t T.label T.args
  pub state : State L S R Q n B
  pub marks : Marks K A
  pub holder : ℕ
  pub above : Behind L S A K N Z Q holder p (t + get_or S t 0) (after_t q n) fs

pub record TermPre (L S M R A : List ℕ) (p t n : ℕ) : Type 0 where
  pub K : List ℕ
  pub N : List ℕ
  pub Z : List ℕ
  pub Q : List Kind
  pub q : Pattern
  pub T : Term
  pub B : List Entry
  pub fs : List Frame
  pub asked : TermAsked L S M R A p t n K N Z Q q T B fs

pub record TermPost (L S M R A : List ℕ) (p t n : ℕ) (o : Result ℕ Halt) (R' A' : List ℕ) : Type 0 where
  pub is : (K N Z : List ℕ) (Q : List Kind) (q : Pattern) (T : Term) (B : List Entry) (fs : List Frame) → TermAsked L S M R A p t n K N Z Q q T B fs
      → Agree L S R' A' K N Z Q p (after_t q n) fs (walk_t Any any? q T t B) o × Kept Q n R R' × Unchanged p A A'

-- the pattern's arguments ps from row p up to pe, the terms us from row t up to te, and the state
pub record ListAsked (L S M R A : List ℕ) (p pe t te n : ℕ) (K N Z : List ℕ) (Q : List Kind) (ps : Patterns) (us : Forest) (B : List Entry) (fs : List Frame) : Type 0 where
  pub packed : Packed K N Z M
  pub pattern : PatternsAt K N Z Q p pe ps
  pub good : GoodF Q ps n
  pub tree : TermsAt L S t te us
  pub state : State L S R Q n B
  pub marks : Marks K A
  pub holder : ℕ
  pub below : Past Z holder p
  pub held : Held L S A K N Z Q holder pe te (after_f ps n) fs

pub record ListPre (L S M R A : List ℕ) (p pe t te n : ℕ) : Type 0 where
  pub K : List ℕ
  pub N : List ℕ
  pub Z : List ℕ
  pub Q : List Kind
  pub ps : Patterns
  pub us : Forest
  pub B : List Entry
  pub fs : List Frame
  pub asked : ListAsked L S M R A p pe t te n K N Z Q ps us B fs

pub record ListPost (L S M R A : List ℕ) (p pe t te n : ℕ) (o : Result ℕ Halt) (R' A' : List ℕ) : Type 0 where
  pub is : (K N Z : List ℕ) (Q : List Kind) (ps : Patterns) (us : Forest) (B : List Entry) (fs : List Frame) → ListAsked L S M R A p pe t te n K N Z Q ps us B fs
      → Agree L S R' A' K N Z Q p (after_f ps n) fs (walk_f Any any? ps us t B) o × Kept Q n R R' × Unchanged p A A'
