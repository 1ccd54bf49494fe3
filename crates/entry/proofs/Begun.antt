-- The first walk, before any choice, and what the search begins with.
use Prim.Native.Nat.{ℕ, ◌+◌, ◌*◌, ◌<◌, ◌≤◌}
use mathlib.Core.Path.{◌≡◌, refl, ap, ◌∙◌}
use mathlib.Core.List.{List, []}
use lib.ListN.{length, take, set, replicate, length-replicate}
use lib.Seq.{paste}
use native.Mathlib.Omega.{arith}
use Rattle.meaning.specs.Forest.{Term, size}
use Rattle.meaning.specs.Pattern.{Pattern, Kind}
use Rattle.meaning.specs.Record.{Entry, numbers}
use Rattle.meaning.proofs.Walk.{ok, walk}
use Rattle.meaning.proofs.Tame.{count}
use Rattle.expression.specs.Expression.{Expression}
use Rattle.constraint.specs.Obeys.{Constraint, Allowed}
use Rattle.constraint.proofs.Allowed.{allowed?}
use Rattle.walk.specs.Above.{Marks}
use Rattle.walk.specs.Cycle.{stop_at}
use Rattle.walk.specs.Onward as onward
use Rattle.walk.specs.Taken.{Answers}
use Rattle.std.specs.Prelude.{Result, Ok, Err}
use Rattle.walk.specs.declared.Halt.{Halt}
use Rattle.meaning.specs.declared.endings.Ending.TheVariants.{All, Room}
use Rattle.walk.specs.declared.Halt.TheVariants as halt
use Rattle.walk.proofs.Answered.{failed, matched}
use Rattle.choice.specs.Stops.{many, StopAt, AtStop, LeastPost, ValuesPost}
use Rattle.choice.proofs.Stops.{at_room}
use Rattle.catalogue.proofs.Events as events
use Rattle.catalogue.proofs.Fill.{fill}
use Rattle.catalogue.proofs.Levels.{Levels}
use Rattle.catalogue.proofs.Loop.{Fixed, first_fail, first_need, first_full, first_done, first_room, first_deep}
use Rattle.catalogue.proofs.Whole.{walked, outcome}
use Rattle.search.specs.Search.{GoAsked, GoPre, GoPost}
use Rattle.search.specs.declared.Found.{Found}
use Rattle.levels.proofs.Going.{is_fixed, Asks, asks_stop, asks_values, asks_level}
use Rattle.levels.proofs.First.{first_asked, first_marks, first_long, first_answered, first_asks}
use Rattle.levels.proofs.Pauses.{pauses_none}
use Rattle.levels.specs.declared.Level.{Level}
use Rattle.levels.specs.Columns.{places, variables, starts, rows, nexts, lefts, unentered, Entered}
use Rattle.levels.proofs.Columns.{first_level}
use Rattle.entry.specs.Begun.{BeginAsked, BeginPre, BeginPost}
use Rattle.letters.specs.declared.Tables.{Tables}

-- the first walk was made: its answer o, the record R' and the rows A'
pub record Begun (L S M : List ℕ) (tables : Tables)
    (room width : ℕ) (before R' A' : List ℕ) (o : Result ℕ Halt) : Type 0 where
  pub R : List ℕ
  pub A : List ℕ
  pub long : length R ≡ 32
  pub rows_long : length A ≡ 256
  pub pre : BeginPre L S M tables room width before
  pub walked : onward.BeginPost L S M R A o R' A'

-- from a record of zeros
pub begun : {L S M : List ℕ} {tables : Tables} {room width : ℕ} {before R' A' : List ℕ} {o : Result ℕ Halt} → BeginPre L S M tables room width before
    → onward.BeginPost L S M (replicate 32 0) (replicate 256 0) o R' A' → Begun L S M tables room width before R' A' o
begun pre walked = record { R = replicate 32 0; A = replicate 256 0; long = refl; rows_long = refl; pre = pre; walked = walked }

module _ {L S M : List ℕ} {tables : Tables} {room width : ℕ} {before : List ℕ} where
  fixed : {T : Term} {P : Pattern} {Q : List Kind} {es : List Expression} {cs : List Constraint} (a : BeginAsked L S M tables room width before T P Q es cs)
      → Fixed (walked (Allowed cs) (allowed? cs) a.search.pattern.numbered T) (count Q) (size T) width room before
  fixed a = is_fixed a.search a.wide a.fits

  pub walk_asked : {R A : List ℕ} → BeginPre L S M tables room width before → length R ≡ 32 → length A ≡ 256 → onward.BeginPre L S M R A
  walk_asked p h l = let s = p.some in record { some = (s.0, s.1, s.2, first_asked s.5.search h l) }

  module _ {R' A' : List ℕ} {o : Result ℕ Halt} (b : Begun L S M tables room width before R' A' o) where
    abbrev Asked : Term → Pattern → List Kind → List Expression → List Constraint → Type 0
    Asked = BeginAsked L S M tables room width before

    abbrev Post : ℕ → Found → List ℕ → Type 0
    Post budget = BeginPost L S M tables budget room width before

    answered : {T : Term} {P : Pattern} {Q : List Kind} {es : List Expression} {cs : List Constraint} (a : Asked T P Q es cs)
        → Answers R' o (walk (Allowed cs) (allowed? cs) P T [])
    answered a = first_answered a.search b.long b.rows_long b.walked

    walked_long : length R' ≡ 32
    walked_long = first_long b.pre.some.5.search b.long b.rows_long b.walked

    pub begun_fail : {budget : ℕ} → o ≡ (Err halt.Fail) → Post budget (record { ending = All; records = 0; tries = 0 }) before
    begun_fail {budget} e = record { all = λ T P Q es cs a. first_fail (fixed a) budget (ap outcome (failed (rw e at (answered a)))) }

    module _ {n : ℕ} (e : o ≡ Ok n) where
      said : {T : Term} {P : Pattern} {Q : List Kind} {es : List Expression} {cs : List Constraint} (a : Asked T P Q es cs)
          → (B : List Entry) × (walk (Allowed cs) (allowed? cs) P T [] ≡ ok B []) × (take (length (numbers B)) R' ≡ numbers B)
      said a = matched (rw e at (answered a))

      pub begun_full : {budget : ℕ} → room ≡ 0 → Post budget (record { ending = Room; records = 0; tries = 0 }) before
      begun_full {budget} f = record { all = λ T P Q es cs a. let d = said a in first_full (fixed a) budget (numbers d.0) (ap outcome d.1) f }

      pub begun_put : (room ≡ 0 → ⊥) → (width ≤ 32) × (length R' ≡ 32) × (0 + width ≤ length before)
      begun_put f =
          let a = b.pre.some.5 in
          (omega (arith, a.wide, a.search.allowing.few), walked_long, omega (arith, first_room (fixed a) f))

      pub begun_done : {budget : ℕ} → (room ≡ 0 → ⊥) → Post budget (record { ending = All; records = 1; tries = 0 }) (paste before 0 R' width)
      begun_done {budget} f = record { all = λ T P Q es cs a. let d = said a in first_done (fixed a) budget (numbers d.0) R' (ap outcome d.1) d.2 f }

    module _ {p x s : ℕ} (e : o ≡ Err (halt.Need (stop_at p x s))) where
      -- no choice is made, and no level stands yet
      abbrev none : List ℕ
      none = replicate 256 0

      asks : {T : Term} {P : Pattern} {Q : List Kind} {es : List Expression} {cs : List Constraint} (a : Asked T P Q es cs) → Asks a.search R' A' none none 0 p x s
      asks a = first_asks a.search b.long b.rows_long b.walked none none p x s e

      marks : {T : Term} {P : Pattern} {Q : List Kind} {es : List Expression} {cs : List Constraint} (a : Asked T P Q es cs) → Marks a.search.K A'
      marks a = first_marks a.search b.long b.rows_long b.walked

      -- where the walk stopped
      stops : {T : Term} {P : Pattern} {Q : List Kind} {es : List Expression} {cs : List Constraint} (a : Asked T P Q es cs)
          → StopAt L S M A' p s a.search.K a.search.N a.search.Z Q x (asks a).needs.stop (asks a).needs.frames
      stops a = asks_stop a.search (asks a) (marks a)

      pub at_stop : AtStop S M A' p s
      at_stop = let h = b.pre.some in let a = h.5 in record { some = (L, a.search.K, a.search.N, a.search.Z, h.2, x, (asks a).needs.stop, (asks a).needs.frames, stops a) }

      pub need_room : 6 * p + 5 < length M
      need_room = (at_room (stops b.pre.some.5)).1

      -- the levels' lists with the first level in them
      abbrev level : ℕ → List ℕ
      level k = set none 0 k

      module _ {lo n : ℕ} (low : LeastPost M p s lo) (values : ValuesPost S M A' p s n) where
        its_many : {T : Term} {P : Pattern} {Q : List Kind} {es : List Expression} {cs : List Constraint} (a : Asked T P Q es cs) → n ≡ many (asks a).needs.stop
        its_many a = let w = (asks a).needs in values.is L a.search.K a.search.N a.search.Z _ x w.stop w.frames (stops a)

        -- the values are those that the walk asks for
        asked_first : {T : Term} {P : Pattern} {Q : List Kind} {es : List Expression} {cs : List Constraint} (a : Asked T P Q es cs)
            → outcome (walk (Allowed cs) (allowed? cs) P T []) ≡ events.need lo n
        asked_first a =
            let v = asks_values a.search (asks a) (marks a) low (its_many a) in
            rw (v.0, v.1) at (ap outcome (asks a).asked)

        asked : {T : Term} {P : Pattern} {Q : List Kind} {es : List Expression} {cs : List Constraint} (a : Asked T P Q es cs)
            → GoAsked L S M tables room width R' A' (level p) (level x) (level s) (level s) (level lo) (level n) 1 before T P Q es cs none
        asked {T} {P} {Q} {es} {cs} a =
            let long : length {A = ℕ} (replicate 256 0) ≡ 256 = length-replicate {A = ℕ} 256 0 in
            let z : Levels (Allowed cs) (allowed? cs) a.search.pattern.numbered T none none none none none 0 =
            record { long = omega arith; each = λ k l. absurd (omega arith) } in
            let m =
            asks_level a.search (asks a) (marks a) low (its_many a) z (pauses_none {vals = none} {places = none} {X = none} {St = none} {U = none} {Nx = none} {F = none} (marks a))
            (omega arith) (omega arith) (omega arith) (omega arith) (omega arith) (omega arith) (omega arith) in
            record {
              search = a.search;
              wide = a.wide;
              fits = a.fits;
              vals_long = long;
              deep = omega (arith, first_deep (fixed a) lo n (asked_first a));
              levels = m.0;
              pauses = m.1;
            }

        first_asked_of : GoPre L S M tables room width R' A' (level p) (level x) (level s) (level s) (level lo) (level n) 1 before
        first_asked_of =
            let h = b.pre.some in
            record { record_long = walked_long; some = (h.0, h.1, h.2, h.3, h.4, none, asked h.5) }

        -- the levels of the code
        module _ {W : List Level} (w : Entered (replicate 256 unentered) 0 p x s lo n W) where
          pub go_asked : GoPre L S M tables room width R' A' (places W) (variables W) (starts W) (rows W) (nexts W) (lefts W) 1 before
          go_asked =
              let f = first_level w in
              rw (f.the_place, f.the_variable, f.the_start, f.the_row, f.the_next, f.the_left) first_asked_of

          pub begun_need : {budget : ℕ} {r : Found} {after : List ℕ}
              → GoPost L S M tables budget room width R' A' (places W) (variables W) (starts W) (rows W) (nexts W) (lefts W) 1 before r after
              → Post budget r after
          begun_need {budget} {r} {after} post =
              let f = first_level w in
              let q : GoPost L S M tables budget room width R' A' (level p) (level x) (level s) (level s) (level lo) (level n) 1 before r after =
              rw (f.the_place, f.the_variable, f.the_start, f.the_row, f.the_next, f.the_left) at post in
              let long : length {A = ℕ} (replicate 256 0) ≡ 256 = length-replicate {A = ℕ} 256 0 in
              record {
                all = λ T P Q es cs a.
                    ap (fill budget room width 0 0 before) (first_need (fixed a) none none none lo n (omega arith) (omega arith) (asked_first a)) ∙ q.all T P Q es cs none (asked a);
              }
