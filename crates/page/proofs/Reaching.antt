-- The way to a record, turn by turn, for every problem that the lists mean.
use Prim.Native.Nat.{ℕ, ◌+◌, ◌<◌, ◌≤◌}
use mathlib.Core.Path.{◌≡◌, refl, ap, ◌∙◌}
use mathlib.Core.Bool.{Bool, true, false}
use mathlib.Core.List.{List}
use lib.ListN.{length, set, replicate, length-replicate}
use lib.Seq.{set-set}
use native.Mathlib.Omega.{arith}
use native.Mathlib.Numerals.{add-one}
use Rattle.meaning.specs.Calls.{Says}
use Rattle.meaning.specs.Forest.{Term}
use Rattle.meaning.specs.Pattern.{Pattern, Kind}
use Rattle.meaning.specs.Order.{choices}
use Rattle.meaning.proofs.Answers.{said_no}
use Rattle.meaning.proofs.Tame.{count}
use Rattle.expression.specs.Expression.{Expression}
use Rattle.constraint.specs.Obeys.{Constraint}
use Rattle.walk.specs.Cycle.{stop_at}
use Rattle.walk.specs.Onward.{BeginPre, BeginPost}
use Rattle.std.specs.Prelude.{Result, Ok, Err, Some, None}
use Rattle.walk.specs.declared.Halt.{Halt}
use Rattle.walk.specs.declared.Halt.TheVariants as halt
use Rattle.choice.proofs.Stops.{at_room}
use Rattle.record.specs.Copied.{Copied}
use Rattle.catalogue.proofs.Later.{later_start}
use Rattle.levels.specs.Columns.{places, variables, starts, rows, nexts, lefts}
use Rattle.levels.specs.Levels.{AttemptPre, AttemptPost}
use Rattle.levels.specs.declared.Level.{Level}
use Rattle.levels.specs.declared.Try.{Try}
use Rattle.levels.proofs.Columns.{columns_long}
use Rattle.levels.proofs.First.{first_asked, first_marks, first_long, first_answered, first_asks}
use Rattle.levels.proofs.Going.{Walked}
use Rattle.levels.proofs.Pauses.{pauses_none}
use Rattle.page.specs.Page.{ChoosePre, ChoosePost, outside, value, ReachAsked, ReachPre, ReachPost, nowhere, reached}
use Rattle.page.proofs.Stood.{Stood, stood_fails, stood_other, stood_record, stood_later, stood_stop, stood_deep, stood_read, stood_beyond, stood_landing, stood_further, stood_attempt, stood_tried}
use Rattle.letters.specs.declared.Tables.{Tables}

-- at the loop's head
pub record OnTheWay (L S M : List ℕ) (tables : Tables) (list R A : List ℕ) (W : List Level) (o : Result ℕ Halt) (depth : ℕ) : Type 0 where
  pub record_long : length R ≡ 32
  pub levels_long : length W ≡ 256
  pub each : {T : Term} {P : Pattern} {Q : List Kind} {es : List Expression} {cs : List Constraint} (a : ReachAsked L S M tables list T P Q es cs)
      → Stood a R A (places W) (variables W) (starts W) (rows W) (nexts W) (lefts W) o depth

module _ {L S M : List ℕ} {tables : Tables} {list R A : List ℕ} {W : List Level} (pre : ReachPre L S M tables list R A W) where
  pub reach_begins : BeginPre L S M R A
  reach_begins = let s = pre.some in record { some = (s.0, s.1, s.2, first_asked s.5.search pre.record_long pre.rows_long) }

  pub reach_first : {o : Result ℕ Halt} {R' A' : List ℕ} → BeginPost L S M R A o R' A' → OnTheWay L S M tables list R' A' W o 0
  reach_first {o} {R'} {A'} b =
      record {
        record_long = first_long pre.some.5.search pre.record_long pre.rows_long b;
        levels_long = pre.levels_long;
        each = λ {T} {P} {Q} {es} {cs} a.
            let w = a.search in
            let none : List ℕ = replicate 256 0 in
            record {
              vals = none;
              vals_long = length-replicate {A = ℕ} 256 0;
              others = choices Q list;
              chosen = refl;
              deep = omega arith;
              later = later_start (Walked w) (count Q) none (nexts W) (lefts W);
              answered = first_answered w pre.record_long pre.rows_long b;
              levels = record { long = omega arith; each = λ k l. absurd (omega arith) };
              pauses = pauses_none (first_marks w pre.record_long pre.rows_long b);
              asks = first_asks w pre.record_long pre.rows_long b none (places W);
            };
      }

module _ {L S M : List ℕ} {tables : Tables} {list R A : List ℕ} {W : List Level} {o : Result ℕ Halt} {depth : ℕ} (t : OnTheWay L S M tables list R A W o depth) where
  pub reach_fails : o ≡ (Err halt.Fail) → ReachPost L S M tables list R A W None
  reach_fails e = nowhere (λ T P Q es cs a i. stood_fails a (t.each a) e i)

  module _ {n : ℕ} (e : o ≡ Ok n) {same : Bool} (says : Says same (Copied list R)) where
    pub reach_other : same ≡ false → ReachPost L S M tables list R A W None
    reach_other f = nowhere (λ T P Q es cs a i. stood_other a (t.each a) e t.record_long (said_no says f) i)

    pub reach_found : same ≡ true → ReachPost L S M tables list R A W (Some depth)
    reach_found f =
        reached
        (record {
          record_long = t.record_long;
          levels_long = t.levels_long;
          each = λ T P Q es cs a.
              let s = t.each a in
              record {
                is_record = stood_record a s e (says.0 f);
                vals = s.vals;
                vals_long = s.vals_long;
                deep = s.deep;
                levels = s.levels;
                pauses = s.pauses;
                later = stood_later a s e (says.0 f);
              };
        })

  pub reach_short : {T : Term} {P : Pattern} {Q : List Kind} {es : List Expression} {cs : List Constraint} → ReachAsked L S M tables list T P Q es cs → length list ≤ 32
  reach_short a = omega (arith, a.long, a.search.allowing.few)

  module _ {p x s : ℕ} (e : o ≡ Err (halt.Need (stop_at p x s))) where
    module _ {T : Term} {P : Pattern} {Q : List Kind} {es : List Expression} {cs : List Constraint} (a : ReachAsked L S M tables list T P Q es cs) where
      pub reach_deep : depth < 256
      reach_deep = (stood_deep a (t.each a) e).1

      pub reach_chooses : ChoosePre S M A W list depth p x s
      reach_chooses =
          let s = t.each a in
          let k = stood_stop a s e in
          let n = (s.asks p x _ e).needs in
          record {
            inside = record { long = t.levels_long; few = reach_deep };
            stop = record { some = (L, a.search.K, a.search.N, a.search.Z, _, x, n.stop, n.frames, k) };
            room = (at_room k).1;
            read = stood_read a s e;
            asked = λ lo m v left low values small high. (
              stood_landing a s e low values (columns_long W t.levels_long) left small high,
              λ u landing. stood_further a s e low values (columns_long W t.levels_long) left small high landing,
            );
          }

    module _ {W' : List Level} where
      pub reach_beyond : ChoosePost S M A W list depth p x s W' None → {R' A' : List ℕ} {W'' : List Level} → ReachPost L S M tables list R' A' W'' None
      reach_beyond (outside low values out) =
          nowhere
          (λ T P Q es cs a i.
          stood_beyond a (t.each a) e low values (columns_long W t.levels_long) out i)

      -- the level stands behind the value that is tried
      pub reach_tries : {v : Try} → ChoosePost S M A W list depth p x s W' (Some v) → {T : Term} {P : Pattern} {Q : List Kind} {es : List Expression} {cs : List Constraint} → ReachAsked L S M tables list T P Q es cs
          → AttemptPre L S M tables R A v.p v.x v.s v.u v.v
      reach_tries (value {left = left} low values ev small high landing further entered moved) a =
          stood_attempt a (t.each a) e low values (columns_long W t.levels_long) left small high landing t.record_long

      pub reach_again : {v : Try} {o' : Result ℕ Halt} {R' A' : List ℕ} → ChoosePost S M A W list depth p x s W' (Some v) → length R' ≡ 32 → AttemptPost L S M tables R A v.p v.x v.s v.u v.v o' R' A'
          → OnTheWay L S M tables list R' A' W' o' (depth + 1)
      reach_again (value {v = v} {row = row} {left = left} low values ev small high landing further entered moved) long post =
          record {
            record_long = long;
            levels_long = moved.long ∙ entered.long ∙ t.levels_long;
            each = λ a.
                rw (
                  moved.same_places ∙ entered.new_places,
                  moved.same_variables ∙ entered.new_variables,
                  moved.same_starts ∙ entered.new_starts,
                  moved.new_rows ∙ ap (λ (c : List ℕ). set c depth row) entered.new_rows ∙ set-set (rows W) depth s row,
                  moved.new_nexts ∙ ap (λ (c : List ℕ). set c depth (v + 1)) entered.new_nexts ∙ set-set (nexts W) depth _ (v + 1),
                  moved.new_lefts ∙ ap (λ (c : List ℕ). set c depth left) entered.new_lefts ∙ set-set (lefts W) depth _ left,
                  add-one depth,
                )
                (stood_tried a (t.each a) e low values (columns_long W t.levels_long) left small high landing t.record_long ev further post);
          }
