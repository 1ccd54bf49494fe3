-- The search from a record on: the levels stand there, and what they have left is the page.
use Prim.Native.Nat.{ℕ}
use mathlib.Core.Path.{◌≡◌, refl}
use mathlib.Core.List.{List}
use lib.ListN.{length}
use Rattle.meaning.specs.Forest.{Term}
use Rattle.meaning.specs.Pattern.{Pattern, Kind}
use Rattle.expression.specs.Expression.{Expression}
use Rattle.constraint.specs.Obeys.{Constraint}
use Rattle.levels.specs.declared.Level.{Level}
use Rattle.levels.specs.Columns.{places, variables, starts, rows, nexts, lefts}
use Rattle.page.specs.Page.{ReachPre, Arrived, ReachPost, nowhere, reached}
use Rattle.std.specs.Prelude.{Some, None}
use Rattle.search.specs.Search.{GoAsked, GoPre, GoPost}
use Rattle.search.specs.declared.Found.{Found}
use Rattle.entry.specs.Resumed.{ResumeAsked, ResumePre, ResumePost, not_there, from_there}
use Rattle.letters.specs.declared.Tables.{Tables}

module _ {L S M : List ℕ} {tables : Tables} {list : List ℕ} {room width : ℕ} {before : List ℕ} where
  pub reach_asked : {R A : List ℕ} {W : List Level} → ResumePre L S M tables list room width before → length R ≡ 32 → length A ≡ 256 → length W ≡ 256 → ReachPre L S M tables list R A W
  reach_asked p r a w =
      let s = p.some in
      record { record_long = r; rows_long = a; levels_long = w; some = (s.0, s.1, s.2, s.3, s.4, s.5.asked) }

  module _ {R A : List ℕ} {W : List Level} where
    pub resumed_nowhere : {budget : ℕ} → ReachPost L S M tables list R A W None → ResumePost L S M tables list budget room width before before None
    resumed_nowhere (nowhere n) = not_there refl (λ T P Q es cs a i. n T P Q es cs a.asked i)

pub arrived : {L S M : List ℕ} {tables : Tables} {list R A : List ℕ} {W : List Level} {depth : ℕ} → ReachPost L S M tables list R A W (Some depth) → Arrived L S M tables list R A W depth
arrived (reached r) = r

module _ {L S M : List ℕ} {tables : Tables} {list : List ℕ} {room width : ℕ} {before R A : List ℕ} {W : List Level} {depth : ℕ} (at : Arrived L S M tables list R A W depth) where
  asked : {T : Term} {P : Pattern} {Q : List Kind} {es : List Expression} {cs : List Constraint} (a : ResumeAsked L S M tables list room width before T P Q es cs)
      → GoAsked L S M tables room width R A (places W) (variables W) (starts W) (rows W) (nexts W) (lefts W) depth before T P Q es cs (at.each T P Q es cs a.asked).vals
  asked {T} {P} {Q} {es} {cs} a =
      let r = at.each T P Q es cs a.asked in
      record { search = a.asked.search; wide = a.wide; fits = a.fits; vals_long = r.vals_long; deep = r.deep; levels = r.levels; pauses = r.pauses }

  pub resumed_asked : ResumePre L S M tables list room width before → GoPre L S M tables room width R A (places W) (variables W) (starts W) (rows W) (nexts W) (lefts W) depth before
  resumed_asked p =
      let s = p.some in
      record { record_long = at.record_long; some = (s.0, s.1, s.2, s.3, s.4, _, asked s.5) }

  pub resumed_page : {budget : ℕ} {f : Found} {after : List ℕ} → GoPost L S M tables budget room width R A (places W) (variables W) (starts W) (rows W) (nexts W) (lefts W) depth before f after
      → ResumePost L S M tables list budget room width before after (Some f)
  resumed_page go =
      from_there
      (λ T P Q es cs a.
      let r = at.each T P Q es cs a.asked in
      record { is_record = r.is_record; events = _; later = r.later; fills = go.all T P Q es cs r.vals (asked a) })
