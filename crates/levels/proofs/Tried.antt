-- One try: judged, and walked with.
use Prim.Native.Nat.{ℕ, ◌+◌, ◌*◌, ◌<◌}
use mathlib.Core.Path.{◌≡◌, refl, sym, ap, ◌∙◌}
use mathlib.Core.Bool.{Bool, true, false}
use mathlib.Core.List.{List}
use lib.ListN.{length, get_or}
use native.Mathlib.Omega.{arith}
use Rattle.meaning.specs.Forest.{none, Term, ◌◂◌}
use Rattle.meaning.specs.Pattern.{Pattern, Kind, old, look}
use Rattle.meaning.specs.Read.{Fits}
use Rattle.meaning.proofs.Answers.{said_no}
use Rattle.meaning.proofs.Walk.{Res}
use Rattle.meaning.proofs.Resume.{Frame, Stop}
use Rattle.pattern.specs.Rows.{code}
use Rattle.expression.specs.Expression.{Expression}
use Rattle.constraint.specs.Obeys.{Constraint}
use Rattle.constraint.specs.Reading.{ObeysPre, ObeysPost}
use Rattle.problem.specs.Allowing.{AllowedPost}
use Rattle.problem.proofs.Allows.{kind_number, allowed_asks, allowed_by}
use Rattle.memory.specs.declared.Memory.{Memory}
use Rattle.paths.specs.declared.Path.{Path}
use Rattle.memory.specs.Memory.{Both, GrowPre}
use Rattle.walk.specs.Packed.{root_of}
use Rattle.walk.specs.Above.{Stands, before_terms, over_term}
use Rattle.walk.specs.Taken.{TakeAsked, TakePre, TakePost}
use Rattle.std.specs.Prelude.{Result, Err}
use Rattle.walk.specs.declared.Halt.{Halt}
use Rattle.walk.specs.declared.Halt.TheVariants as halt
use Rattle.walk.proofs.Marks.{unchanged_same}
use Rattle.walk.proofs.Resumes.{stop_row}
use Rattle.levels.specs.Levels.{Search, AttemptPre, AttemptPost}
use Rattle.letters.specs.declared.Tables.{Tables}

one_kind : {a b : Kind} → old a ≡ old b → a ≡ b
one_kind e = cc

its_name : {L S A K N Z : List ℕ} {Q : List Kind} {p x s : ℕ} {w : Stop} {fs : List Frame} → Stands L S A K N Z Q p x s w fs → get_or N p 0 ≡ x
its_name (before_terms c nm k e l pt g t hd) = nm
its_name (over_term c nm k z i g t m b) = nm

kind_there : {L S A K N Z : List ℕ} {Q : List Kind} {p x s : ℕ} {w : Stop} {fs : List Frame} → Stands L S A K N Z Q p x s w fs → (k : Kind) → look Q x ≡ old k → get_or K p 0 ≡ code k
kind_there (before_terms c nm d e l pt g t hd) k f = d ∙ ap code (one_kind (sym c ∙ f))
kind_there (over_term c nm d z i g t m b) k f = d ∙ ap code (one_kind (sym c ∙ f))

module _ {L S M : List ℕ} {tables : Tables} {R A : List ℕ} {p x s u v : ℕ}
    (pre : AttemptPre L S M tables R A p x s u v) where
  -- the three numbers of the choice are those of its variable
  module _ {T : Term} {P : Pattern} {Q : List Kind} {es : List Expression} {cs : List Constraint} {k : Kind} {f : List ℕ → Res} {lo hi : ℕ}
      (w : Search L S M tables T P Q es cs) (e : look Q x ≡ old k) (a : TakeAsked L S M R A p x s u v w.K w.N w.Z Q f lo hi) where
    there : p < length w.K
    there = stop_row w.packed a.needs.stands

    its_start : get_or M (6 * p + 4) 0 ≡ get_or w.C (x + x) 0
    its_start = w.bounds.starts p there ∙ ap (λ (y : ℕ). get_or w.C (y + y) 0) (its_name a.needs.stands)

    its_flag : get_or M (6 * p + 5) 0 ≡ get_or w.C (x + x + 1) 0
    its_flag = w.bounds.flags p there ∙ ap (λ (y : ℕ). get_or w.C (y + y + 1) 0) (its_name a.needs.stands)

    its_kind : get_or M (6 * p) 0 ≡ get_or w.kinds x 0
    its_kind = w.packed.kinds p there ∙ kind_there a.needs.stands k e ∙ sym (kind_number x k w.allowing e)

    asks : Fits k (T ◂ none) s v → ObeysPre L S (get_or M (6 * p + 4) 0) (get_or M (6 * p + 5) 0) (get_or M (6 * p) 0) s v
    asks g = rw (its_start, its_flag, its_kind) (allowed_asks (record { some = (T, Q, es, cs, k, w.allowing, e, g) }))

    says : {r : Bool} → ObeysPost L S tables (get_or M (6 * p + 4) 0) (get_or M (6 * p + 5) 0) (get_or M (6 * p) 0) s v r → AllowedPost L S tables w.C w.kinds x s v r
    says post = allowed_by x s v (rw (its_start, its_flag, its_kind) at post)

  pub try_judged : {memory : Memory} {path : Path} → Both L S tables (root_of M) memory path → GrowPre L S M tables p s v memory path
  try_judged both =
      let h = pre.some in
      record {
        asked = asks h.9 h.10 h.12 h.11;
        few = omega (arith, there h.9 h.10 h.12, h.12.marks.few);
        small = omega (arith, h.9.allowing.tree.few);
        remembers = both;
      }

  abbrev Judged : Bool → Type 0
  Judged r = ObeysPost L S tables (get_or M (6 * p + 4) 0) (get_or M (6 * p + 5) 0) (get_or M (6 * p) 0) s v r

  pub try_fails : {r : Bool} → Judged r → r ≡ false → AttemptPost L S M tables R A p x s u v (Err halt.Fail) R A
  try_fails post e =
      record {
        is = λ T P Q es cs k f lo hi w l g a. (λ n. refl, λ b. absurd (said_no ((says w l a post).is T Q es cs k w.allowing l g) e b), unchanged_same, unchanged_same);
      }

  pub try_asked : TakePre L S M R A p x s u v
  try_asked = let h = pre.some in record { some = (h.9.K, h.9.N, h.9.Z, h.2, h.6, h.7, h.8, h.12) }

  pub try_walked : {r : Bool} {o : Result ℕ Halt} {R' A' : List ℕ} → Judged r → r ≡ true → TakePost L S M R A p x s u v o R' A'
      → AttemptPost L S M tables R A p x s u v o R' A'
  try_walked post e walk =
      record {
        is = λ T P Q es cs k f lo hi w l g a.
            let y = walk.is w.K w.N w.Z Q f lo hi a in
            (λ n. absurd (n (((says w l a post).is T Q es cs k w.allowing l g).0 e)), λ b. (y.0, y.1), y.2, y.3);
      }

  -- the record keeps its length
  pub try_long : {o : Result ℕ Halt} {R' A' : List ℕ} → AttemptPost L S M tables R A p x s u v o R' A' → length R' ≡ length R
  try_long post =
      let h = pre.some in
      (post.is h.0 h.1 h.2 h.3 h.4 h.5 h.6 h.7 h.8 h.9 h.10 h.11 h.12).2.long
