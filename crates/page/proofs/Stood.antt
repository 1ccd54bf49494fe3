-- One problem: the walk goes to a record, with a level for each of its choices.
use Prim.Native.Nat.{ℕ, suc, ◌+◌, ◌-◌, ◌<◌, ◌≤◌}
use mathlib.Core.Path.{◌≡◌, refl, ap, ◌∙◌, sym, subst}
use mathlib.Core.List.{List, [], ◌∷◌, ◌++◌, append_assoc, append-nil}
use lib.ListN.{length, get_or, take, set, length-set, length-append}
use lib.Seq.{set-set, get_or-set_same, take-suc-set, length-take-le}
use native.Mathlib.Omega.{arith}
use Rattle.meaning.specs.Forest.{Term}
use Rattle.meaning.specs.Pattern.{Pattern, Kind}
use Rattle.meaning.specs.Record.{Entry, numbers, IsRecord}
use Rattle.meaning.specs.Order.{choices}
use Rattle.meaning.proofs.Walk.{Res, ok, walk}
use Rattle.meaning.proofs.Walk as W
use Rattle.meaning.proofs.Theorems.{test_yes, test_no}
use Rattle.meaning.proofs.Tame.{count, choices_few, tame_ok}
use Rattle.expression.specs.Expression.{Expression}
use Rattle.constraint.specs.Obeys.{Constraint, Allowed}
use Rattle.constraint.proofs.Allowed.{allowed?}
use Rattle.walk.specs.Cycle.{stop_at}
use Rattle.walk.specs.Taken.{Answers}
use Rattle.std.specs.Prelude.{Result, Ok, Err}
use Rattle.walk.specs.declared.Halt.{Halt}
use Rattle.walk.specs.declared.Halt.TheVariants as halt
use Rattle.walk.proofs.Answered.{failed, matched}
use Rattle.choice.specs.Stops.{many, StopAt, LeastPost, ValuesPost, LandingPre, LandingPost, FurtherPre, FurtherPost}
use Rattle.choice.proofs.Stops.{many_range}
use Rattle.record.specs.Copied.{Copied}
use Rattle.catalogue.proofs.Events as events
use Rattle.catalogue.proofs.Fill.{rest, ahead, ahead_match}
use Rattle.catalogue.proofs.Later.{Later, later_choice, later_same}
use Rattle.catalogue.proofs.Levels.{level_choice}
use Rattle.catalogue.proofs.Plain.{alive}
use Rattle.catalogue.proofs.Whole.{outcome, all, is_honest}
use Rattle.levels.specs.Levels.{Search, AttemptPre, AttemptPost}
use Rattle.levels.proofs.Columns.{ColumnsLong}
use Rattle.levels.proofs.Going.{few, numbered, Walked, Leveled, Paused, Asks, asks_stop, asks_range, asks_values, asks_level, jump_levels, try_kind, try_taken, try_answered, further_asked}
use Rattle.page.specs.Page.{ReachAsked}
use Rattle.letters.specs.declared.Tables.{Tables}

module _ {L S M : List ℕ} {tables : Tables} {list : List ℕ} {T : Term} {P : Pattern} {Q : List Kind} {es : List Expression} {cs : List Constraint} (a : ReachAsked L S M tables list T P Q es cs) where
  abbrev w : Search L S M tables T P Q es cs
  w = a.search

  -- the answer o of the walk with the first choices of the record, each of which has its level
  pub record Stood (R A G X St U Nx F : List ℕ) (o : Result ℕ Halt) (depth : ℕ) : Type 0 where
    pub vals : List ℕ
    pub vals_long : length vals ≡ 256
    pub others : List ℕ
    pub chosen : choices Q list ≡ take depth vals ++ others
    pub deep : depth ≤ count Q
    pub later : Later (all (Allowed cs) (allowed? cs) (numbered w) T) (ahead (Walked w) (count Q) vals Nx F depth)
    pub answered : Answers R o (walk (Allowed cs) (allowed? cs) P T (take depth vals))
    pub levels : Leveled w vals X St Nx F depth
    pub pauses : Paused w R A vals G X St U Nx F depth
    pub asks : (p x s : ℕ) → o ≡ Err (halt.Need (stop_at p x s)) → Asks w R A vals G depth p x s

  not_fail : (r : Res) {B : List Entry} → r ≡ ok B [] → outcome r ≡ events.fail → ⊥
  not_fail W.fail e h = let z : ◌≡◌ {A = ℕ} 0 1 = cc in omega arith
  not_fail (W.need B s lo hi) e h = let z : ◌≡◌ {A = ℕ} 0 1 = cc in omega arith
  not_fail (ok B c) e h = let z : ◌≡◌ {A = ℕ} 0 1 = cc in omega arith

  module _ {R A G X St U Nx F : List ℕ} {o : Result ℕ Halt} {depth : ℕ} (t : Stood R A G X St U Nx F o depth) where
    -- where it is the record of a matcher, the walk with all its choices finds it again
    refound : IsRecord (Allowed cs) Q P T list → (rs : List ℕ) → t.others ≡ rs → outcome (walk (Allowed cs) (allowed? cs) P T (take depth t.vals ++ rs)) ≡ events.fail → ⊥
    refound i rs e =
        let f = test_no (Allowed cs) (allowed? cs) (numbered w) i in
        not_fail (walk (Allowed cs) (allowed? cs) P T (take depth t.vals ++ rs)) (ap (walk (Allowed cs) (allowed? cs) P T) (sym (t.chosen ∙ ap (λ (l : List ℕ). take depth t.vals ++ l) e)) ∙ f.1)

    pub stood_fails : o ≡ (Err halt.Fail) → IsRecord (Allowed cs) Q P T list → ⊥
    stood_fails e i =
        alive (Walked w) (is_honest (Allowed cs) (allowed? cs) (numbered w) T) (take depth t.vals) t.others (refound i t.others refl) (ap outcome (failed (rw e at t.answered)))

    -- the walk has matched: the choices are all of the record's
    module _ {n : ℕ} (e : o ≡ Ok n) where
      said : (B : List Entry) × (walk (Allowed cs) (allowed? cs) P T (take depth t.vals) ≡ ok B []) × (take (length (numbers B)) R ≡ numbers B)
      said = matched (rw e at t.answered)

      tame : (length (take depth t.vals) ≡ count Q) × (length (numbers said.0) ≡ length Q + length Q)
      tame = tame_ok (Allowed cs) (allowed? cs) T (take depth t.vals) (numbered w) said.1

      all_chosen : choices Q list ≡ take depth t.vals
      all_chosen = t.chosen ∙ ap (λ (l : List ℕ). take depth t.vals ++ l) (no_more t.others t.chosen) ∙ append-nil (take depth t.vals)
        where
          no_more : (l : List ℕ) → choices Q list ≡ take depth t.vals ++ l → l ≡ []
          no_more [] h = refl
          no_more (c ∷ l) h = absurd (omega (arith, choices_few Q list, ap length h, length-append (take depth t.vals) (c ∷ l), tame.0))

      copied : take (length list) R ≡ numbers said.0
      copied =
          let z : length (numbers said.0) ≡ length list = tame.1 ∙ sym a.long in
          subst (λ (k : ℕ). take k R ≡ numbers said.0) z said.2

      pub stood_other : length R ≡ 32 → (Copied list R → ⊥) → IsRecord (Allowed cs) Q P T list → ⊥
      stood_other long other i =
          let f = test_no (Allowed cs) (allowed? cs) (numbered w) i in
          let same : ok said.0 [] ≡ ok f.0 [] = sym said.1 ∙ ap (walk (Allowed cs) (allowed? cs) P T) (sym all_chosen) ∙ f.1 in
          let b : said.0 ≡ f.0 = cc in
          other (record { long = long; same = copied ∙ ap numbers b ∙ f.2 })

      pub stood_record : Copied list R → IsRecord (Allowed cs) Q P T list
      stood_record c =
          test_yes (Allowed cs) (allowed? cs) (numbered w) (ap (walk (Allowed cs) (allowed? cs) P T) all_chosen ∙ said.1) (sym copied ∙ c.same)

      pub stood_later : Copied list R
          → Later (all (Allowed cs) (allowed? cs) (numbered w) T) (events.matched (choices Q list) list ∷ rest (Walked w) (count Q) t.vals Nx F depth)
      stood_later c =
          let r : numbers said.0 ≡ list = sym copied ∙ c.same in
          let v : take depth t.vals ≡ choices Q list = sym all_chosen in
          later_same
          (ahead_match (Walked w) (count Q) t.vals Nx F depth (numbers said.0) (ap outcome said.1)
          ∙ (λ i. events.matched (v i) (r i) ∷ rest (Walked w) (count Q) t.vals Nx F depth))
          t.later

    -- the walk asks for the variable x
    module _ {p x s : ℕ} (e : o ≡ Err (halt.Need (stop_at p x s))) where
      abbrev b : Asks w R A t.vals G depth p x s
      b = t.asks p x s e

      pub stood_stop : StopAt L S M A p s w.K w.N w.Z Q x b.needs.stop b.needs.frames
      stood_stop = asks_stop w b t.pauses.marks

      pub stood_deep : (depth < count Q) × (depth < 256)
      stood_deep =
          let z = length-take-le depth t.vals (omega (arith, t.deep, few Q, w.allowing.few, t.vals_long)) in
          let h : depth < count Q = omega (arith, (asks_range w b).1) in
          (h, omega (arith, few Q, w.allowing.few))

      pub stood_read : x + x + 1 < length list
      stood_read = omega (arith, a.long, b.needs.within)

      module _ {lo n : ℕ} (low : LeastPost M p s lo) (values : ValuesPost S M A p s n) where
        its_many : n ≡ many b.needs.stop
        its_many = values.is L w.K w.N w.Z Q x b.needs.stop b.needs.frames stood_stop

        its_range : (b.lo ≡ lo) × (suc b.hi - lo ≡ n)
        its_range = asks_values w b t.pauses.marks low its_many

        asked_for : outcome (walk (Allowed cs) (allowed? cs) P T (take depth t.vals)) ≡ events.need lo n
        asked_for = rw (its_range.0, its_range.1) at (ap outcome b.asked)

        module _ (long : ColumnsLong G X St U Nx F) where
          entered : Leveled w t.vals (set X depth x) (set St depth s) (set Nx depth lo) (set F depth n) (suc depth)
              × Paused w R A t.vals (set G depth p) (set X depth x) (set St depth s) (set U depth s) (set Nx depth lo) (set F depth n) (suc depth)
          entered =
              let d = stood_deep.1 in
              asks_level w b t.pauses.marks low its_many t.levels t.pauses (omega (arith, t.vals_long)) (omega arith) (omega arith) (omega arith) (omega arith) (omega arith) (omega arith)

          -- the next choice is the variable's own number
          its_choice : (c : List ℕ) × (t.others ≡ get_or list (x + x + 1) 0 ∷ c)
          its_choice =
              let d = stood_deep.1 in
              let l = entered.0.each depth (omega arith) in
              let k = level_choice (Allowed cs) (allowed? cs) (numbered w) T l list t.others a.long t.chosen in
              rw (get_or-set_same X depth x 0 (omega arith)) at k

          pub stood_beyond : (lo ≤ get_or list (x + x + 1) 0 → get_or list (x + x + 1) 0 < lo + n → ⊥) → IsRecord (Allowed cs) Q P T list → ⊥
          stood_beyond out i =
              let c = its_choice in
              let v = get_or list (x + x + 1) 0 in
              let h : outcome (walk (Allowed cs) (allowed? cs) P T (events.snoc (take depth t.vals) v)) ≡ events.fail → ⊥ =
              alive (Walked w) (is_honest (Allowed cs) (allowed? cs) (numbered w) T) (events.snoc (take depth t.vals) v) c.0
              (rw (append_assoc (take depth t.vals) (v ∷ []) c.0) (refound i (v ∷ c.0) c.1)) in
              let k : events.Within v (events.need lo n) = rw asked_for at (is_honest (Allowed cs) (allowed? cs) (numbered w) T (take depth t.vals) v h) in
              out k.0 k.1

          -- v is that number, and left values come after it
          module _ {v : ℕ} (left : ℕ) (low_enough : lo ≤ v) (high : v + suc left ≡ lo + n) where
            pub stood_landing : LandingPre S M p s v
            stood_landing =
                let k = b.needs in
                let z = low.is L S A w.K w.N w.Z Q x k.stop k.frames stood_stop in
                record { some = (L, A, w.K, w.N, w.Z, Q, x, k.stop, k.frames, stood_stop, omega arith, omega (arith, its_many, many_range k.stop s)) }

            module _ {u : ℕ} (landing : LandingPost S M p s v u) where
              d : depth < 256
              d = stood_deep.1

              -- the level goes on to v
              jumped : Leveled w t.vals (set X depth x) (set St depth s) (set Nx depth v) (set F depth (suc left)) (suc depth)
                  × Paused w R A t.vals (set G depth p) (set X depth x) (set St depth s) (set U depth u) (set Nx depth v) (set F depth (suc left)) (suc depth)
              jumped =
                  let z = d in
                  let hn : get_or (set Nx depth lo) depth 0 ≡ lo = get_or-set_same Nx depth lo 0 (omega arith) in
                  let hf : get_or (set F depth n) depth 0 ≡ n = get_or-set_same F depth n 0 (omega arith) in
                  let hg : get_or (set G depth p) depth 0 ≡ p = get_or-set_same G depth p 0 (omega arith) in
                  let hs : get_or (set St depth s) depth 0 ≡ s = get_or-set_same St depth s 0 (omega arith) in
                  let j =
                  jump_levels w entered.0 entered.1 (rw hf (omega arith)) {u = u} {v = v} (rw hn (omega arith)) (rw (hn, hf) (omega arith)) (rw (hg, hs) landing)
                  (rw (length-set U depth s) (omega arith)) (rw (length-set Nx depth lo) (omega arith)) (rw (length-set F depth n) (omega arith)) in
                  let y : n - (v - lo) ≡ suc left = omega arith in
                  rw (hn, hf, y, set-set U depth s u, set-set Nx depth lo v, set-set F depth n (suc left)) at j

              its_left : get_or (set F depth (suc left)) depth 0 ≡ suc left
              its_left = get_or-set_same F depth (suc left) 0 (omega (arith, d))

              one_less : suc left - 1 ≡ left
              one_less = omega arith

              its_next : get_or (set Nx depth v) depth 0 ≡ v
              its_next = get_or-set_same Nx depth v 0 (omega (arith, d))

              its_row : get_or (set U depth u) depth 0 ≡ u
              its_row = get_or-set_same U depth u 0 (omega (arith, d))

              its_place : get_or (set G depth p) depth 0 ≡ p
              its_place = get_or-set_same G depth p 0 (omega (arith, d))

              its_variable : get_or (set X depth x) depth 0 ≡ x
              its_variable = get_or-set_same X depth x 0 (omega (arith, d))

              its_start : get_or (set St depth s) depth 0 ≡ s
              its_start = get_or-set_same St depth s 0 (omega (arith, d))

              live : 0 < get_or (set F depth (suc left)) depth 0
              live = rw its_left (omega arith)

              pub stood_further : FurtherPre S M p u left
              stood_further = rw (its_place, its_row, its_left, one_less) at (further_asked w jumped.0 jumped.1 live)

              pub stood_attempt : length R ≡ 32 → AttemptPre L S M tables R A p x s u v
              stood_attempt full =
                  let k = try_kind w jumped.0 jumped.1 live in
                  let q = try_taken w jumped.0 jumped.1 live full in
                  let r : AttemptPre L S M tables R A (get_or (set G depth p) depth 0) (get_or (set X depth x) depth 0) (get_or (set St depth s) depth 0) (get_or (set U depth u) depth 0) (get_or (set Nx depth v) depth 0) =
                  record { long = full; some = (T, P, Q, es, cs, k.0, q.0, q.1, q.2, w, k.1, k.2, q.3) } in
                  rw (its_place, its_variable, its_start, its_row, its_next) at r

              in_vals : depth < length t.vals
              in_vals = omega (arith, d, t.vals_long)

              in_rows : depth < length (set U depth u)
              in_rows = rw (length-set U depth u) (omega (arith, d))

              in_nexts : (depth < length Nx) × (depth < length (set Nx depth v))
              in_nexts = rw (length-set Nx depth v) (omega (arith, d))

              in_lefts : (depth < length F) × (depth < length (set F depth (suc left)))
              in_lefts = rw (length-set F depth (suc left)) (omega (arith, d))

              -- the value was tried
              pub stood_tried : {o' : Result ℕ Halt} {R' A' : List ℕ} {row : ℕ} → length R ≡ 32 → v ≡ get_or list (x + x + 1) 0 → FurtherPost S M p u left row → AttemptPost L S M tables R A p x s u v o' R' A'
                  → Stood R' A' (set G depth p) (set X depth x) (set St depth s) (set U depth row) (set Nx depth (v + 1)) (set F depth left) o' (suc depth)
              stood_tried {o'} {R'} {A'} {row} full ev further post =
                  let c = its_choice in
                  let q =
                  try_answered w jumped.0 jumped.1 live {o = o'} {R' = R'} {A' = A'} {r = row} full in_rows in_nexts.1 in_lefts.1
                  (rw (its_place, its_row, its_left, one_less) further) (rw (its_place, its_variable, its_start, its_row, its_next) post) in
                  let q' = rw (its_left, one_less, its_next, set-set U depth u row, set-set Nx depth v (v + 1), set-set F depth (suc left) left) at q in
                  record {
                    vals = set t.vals depth v;
                    vals_long = length-set t.vals depth v ∙ t.vals_long;
                    others = c.0;
                    chosen =
                        t.chosen ∙ ap (λ (l : List ℕ). take depth t.vals ++ l) (c.1 ∙ ap (λ (k : ℕ). k ∷ c.0) (sym ev)) ∙ sym (append_assoc (take depth t.vals) (v ∷ []) c.0)
                        ∙ ap (λ (l : List ℕ). l ++ c.0) (sym (take-suc-set t.vals depth v in_vals));
                    deep = stood_deep.0;
                    later = later_choice (Walked w) (count Q) t.vals Nx F depth lo n v left stood_deep.0 in_vals in_nexts.0 in_lefts.0 asked_for low_enough high t.later;
                    answered = q'.0;
                    levels = q'.1;
                    pauses = q'.2;
                    asks = q'.4;
                  }
