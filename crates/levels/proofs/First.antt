-- The first walk, before any choice.
use Prim.Native.Nat.{ℕ}
use mathlib.Core.Path.{◌≡◌, ap, ◌∙◌}
use mathlib.Core.List.{List, []}
use lib.ListN.{length}
use native.Mathlib.Omega.{arith}
use Rattle.meaning.specs.Forest.{Term}
use Rattle.meaning.specs.Pattern.{Pattern, Kind}
use Rattle.meaning.proofs.Walk.{over, walk}
use Rattle.meaning.proofs.Next.{Any, any?, first_free}
use Rattle.expression.specs.Expression.{Expression}
use Rattle.constraint.specs.Obeys.{Constraint, Allowed}
use Rattle.constraint.proofs.Allowed.{allowed?}
use Rattle.variable.proofs.States.{count_bound}
use Rattle.walk.specs.Above.{Marks}
use Rattle.walk.specs.Cycle.{stop_at}
use Rattle.walk.specs.Onward.{Problem, BeginPost}
use Rattle.walk.specs.Taken.{Answers}
use Rattle.std.specs.Prelude.{Result, Err}
use Rattle.walk.specs.declared.Halt.{Halt}
use Rattle.walk.specs.declared.Halt.TheVariants as halt
use Rattle.walk.proofs.Marks.{marks_kept}
use Rattle.walk.proofs.Views.{need_agree}
use Rattle.walk.proofs.Answered.{answers}
use Rattle.levels.specs.Levels.{Search}
use Rattle.levels.proofs.Going.{Asks, individuals, functions}
use Rattle.letters.specs.declared.Tables.{Tables}

module _ {L S M : List ℕ} {tables : Tables} {T : Term} {P : Pattern} {Q : List Kind} {es : List Expression} {cs : List Constraint}
    (w : Search L S M tables T P Q es cs) {R A : List ℕ} (long : length R ≡ 32) (rows_long : length A ≡ 256) where
  pub first_asked : Problem L S M R A T P Q
  first_asked =
      record {
        K = w.K;
        N = w.N;
        Z = w.Z;
        tree = w.allowing.tree;
        pattern = w.pattern;
        packed = w.packed;
        room = omega (arith, w.allowing.few);
        marks = record { few = w.pattern.few; long = rows_long };
      }

  module _ {o : Result ℕ Halt} {R' A' : List ℕ} (b : BeginPost L S M R A o R' A') where
    pub first_marks : Marks w.K A'
    first_marks = marks_kept (b.is T P Q first_asked).2 (record { few = w.pattern.few; long = rows_long })

    pub first_long : length R' ≡ 32
    first_long = (b.is T P Q first_asked).1.long ∙ long

    free : walk (Allowed cs) (allowed? cs) P T [] ≡ walk Any any? P T []
    free = first_free (Allowed cs) (allowed? cs) Q (individuals w) (functions w) w.pattern.numbered T

    pub first_answered : Answers R' o (walk (Allowed cs) (allowed? cs) P T [])
    first_answered = rw free (answers (b.is T P Q first_asked).0)

    pub first_asks : (vals G : List ℕ) (p x s : ℕ) → o ≡ Err (halt.Need (stop_at p x s)) → Asks w R' A' vals G 0 p x s
    unfolding first_asked
    first_asks vals G p x s e =
        let n = need_agree (rw e at (b.is T P Q first_asked).0) in
        record {
          later = λ k l. absurd (omega arith);
          lo = n.1;
          hi = n.2;
          needs = n.3;
          bound = n.3.bound;
          asked = free ∙ ap over n.3.asks;
          its = count_bound n.3.state;
        }
