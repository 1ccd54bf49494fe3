-- The cycle of terms: what each call asks follows from what was asked, and each return says what was to be said.
use Prim.Native.Nat.{ℕ, suc, ◌+◌, ◌-◌, ◌<◌, ◌≤◌}
use mathlib.Core.Path.{◌≡◌, refl, ◌∙◌}
use mathlib.Core.Logic.{◌≢◌}
use mathlib.Core.List.{List}
use lib.ListN.{length, get_or}
use native.Mathlib.Omega.{arith}
use Rattle.meaning.specs.Forest.{Forest, none, ◌◂◌, rows, ◌⊕◌}
use Rattle.meaning.specs.Pattern.{Patterns, Kind}
use Rattle.meaning.specs.Matcher.{at, as_forest, as_context, apply, apply_all}
use Rattle.meaning.proofs.Laws.{rows_of}
use Rattle.pattern.specs.Places.{PatternsAt}
use Rattle.instance.specs.Places.{Ground, meant, Room, Written}
use Rattle.instance.specs.Pieces.{IndividualPre, IndividualPost, SequencePre, SequencePost, FillingPre, FillingPost, ContextPre, ContextPost, HeadPre, HeadPost}
use Rattle.instance.specs.Cycle.{TermPre, TermPost, HeadedPre}
use Rattle.instance.proofs.Glue.{written_both, written_head, written_none, same_room, part_room, hole_room, term_row, is_individual, is_context, is_headed, is_nil, is_sequence, is_cons}

-- a term that is a context variable
pub record AtContext (L S K N Z W OL OS : List ℕ) (p t : ℕ) : Type 0 where
  pub pre : TermPre L S K N Z W OL OS p t
  pub kind : get_or K p 0 ≡ 4

-- the instances of the arguments from p up to e are to be written from t on
pub record ArgumentsPre (L S K N Z W OL OS : List ℕ) (p e t : ℕ) : Type 0 where
  pub some : (Q : List Kind) × (R : Forest) × (ps : Patterns) × Ground L S W Q R × PatternsAt K N Z Q p e ps × Room OL OS t (rows (apply_all (meant W Q R) ps))

-- they are, and r is the row behind them
pub record ArgumentsPost (L S K N Z W OL OS : List ℕ) (p e t r : ℕ) (NL NS : List ℕ) : Type 0 where
  pub is : (Q : List Kind) (R : Forest) (ps : Patterns) → Ground L S W Q R → PatternsAt K N Z Q p e ps
      → (r ≡ t + rows (apply_all (meant W Q R) ps)) × Written OL OS NL NS t (apply_all (meant W Q R) ps)

-- those before the row q are written, before the row u: what is left to write, and what is written then
pub record Writing (L S K N Z W OL OS : List ℕ) (p e t : ℕ) (NL NS : List ℕ) (q u : ℕ) : Type 0 where
  pub later : p ≤ q
  pub left : ArgumentsPre L S K N Z W NL NS q e u
  pub then : (r : ℕ) (ML MS : List ℕ) → ArgumentsPost L S K N Z W NL NS q e u r ML MS → ArgumentsPost L S K N Z W OL OS p e t r ML MS
  pub labelled : length NL ≡ length OL
  pub sized : length NS ≡ length OS

-- arguments of which a sequence variable is the first
pub record AtSequence (L S K N Z W OL OS : List ℕ) (p e t : ℕ) : Type 0 where
  pub pre : ArgumentsPre L S K N Z W OL OS p e t
  pub more : p ≢ e
  pub kind : get_or K p 0 ≡ 2

-- arguments of which a term is the first
pub record AtTerm (L S K N Z W OL OS : List ℕ) (p e t : ℕ) : Type 0 where
  pub pre : ArgumentsPre L S K N Z W OL OS p e t
  pub more : p ≢ e
  pub kind : get_or K p 0 ≢ 2

module _ {L S K N Z W OL OS : List ℕ} {p t : ℕ} where
  -- an individual variable
  module _ (k : get_or K p 0 ≡ 1) where
    pub individual_pre : TermPre L S K N Z W OL OS p t → IndividualPre L S W OL OS (get_or N p 0) t
    unfolding apply
    individual_pre h =
        let s = h.some in
        let i = is_individual s.4 k in
        record { some = (s.0, s.1, s.3, i.1, rw i.0 at s.5) }

    pub individual_post : {r : ℕ} {NL NS : List ℕ} → IndividualPost L S W OL OS (get_or N p 0) t r NL NS → TermPost L S K N Z W OL OS p t r NL NS
    unfolding apply
    individual_post {r} {NL} {NS} h =
        record {
          is = λ Q R q g a.
              let i = is_individual a k in
              rw i.0 (h.is Q R g i.1);
        }

  -- a context variable: the row of its hole, what fills the hole, and what stands around
  module _ (place : AtContext L S K N Z W OL OS p t) where
    pub filling_pre : length OL < 18446744073709551616 → FillingPre W (get_or N p 0) t
    unfolding apply
    filling_pre m =
        let s = place.pre.some in
        let i = is_context s.4 place.kind in
        let r = rw i.1 at s.5 in
        let l = hole_room (as_context (at (meant W s.0 s.1) (get_or N p 0))) (apply (meant W s.0 s.1) i.0) in
        record { some = (L, S, s.0, s.1, s.3, i.2, omega (arith, r.labelled, l)) }

    pub under_falls : (get_or Z p 0 ≡ suc (get_or Z (p + 1) 0)) × (p < length K)
    under_falls = ((is_context place.pre.some.4 place.kind).3, (term_row place.pre.some.4).0)

    module _ {f : ℕ} (o : FillingPost W (get_or N p 0) t f) where
      pub under_pre : TermPre L S K N Z W OL OS (p + 1) f
      unfolding apply
      under_pre =
          let s = place.pre.some in
          let i = is_context s.4 place.kind in
          let r = rw i.1 at s.5 in
          let z = o.is L S s.0 s.1 s.3 i.2 in
          let l = hole_room (as_context (at (meant W s.0 s.1) (get_or N p 0))) (apply (meant W s.0 s.1) i.0) in
          record { some = (s.0, s.1, i.0, s.3, i.4, part_room r (omega arith) (omega arith)) }

      module _ {e : ℕ} {NL NS : List ℕ} (u : TermPost L S K N Z W OL OS (p + 1) f e NL NS) where
        pub context_pre : length NL ≡ length OL → length NS ≡ length OS → ContextPre L S W NL NS (get_or N p 0) t f e
        unfolding apply
        context_pre a b =
            let s = place.pre.some in
            let i = is_context s.4 place.kind in
            let r = rw i.1 at s.5 in
            let z = o.is L S s.0 s.1 s.3 i.2 in
            let y = (u.is s.0 s.1 i.0 s.3 i.4).0 in
            record { some = (s.0, s.1, apply (meant W s.0 s.1) i.0, s.3, i.2, z, y, same_room a b r) }

        pub context_post : {r : ℕ} {ML MS : List ℕ} → ContextPost L S W NL NS (get_or N p 0) t f e r ML MS → TermPost L S K N Z W OL OS p t r ML MS
        unfolding apply
        context_post {r} {ML} {MS} h =
            record {
              is = λ Q R q g a.
                  let i = is_context a place.kind in
                  let y = u.is Q R i.0 g i.4 in
                  let z = o.is L S Q R g i.2 in
                  rw i.1 (h.is Q R (apply (meant W Q R) i.0) OL OS g i.2 z y.0 y.1);
            }

  -- a symbol or a function variable: its arguments, and then its row
  module _ (asked : HeadedPre L S K N Z W OL OS p t) where
    pub below_pre : ArgumentsPre L S K N Z W OL OS (p + 1) (p + get_or Z p 0) (t + 1)
    below_pre =
        let s = asked.pre.some in
        let i = is_headed (meant W s.0 s.1) s.4 asked.not_individual asked.not_context in
        let r = rw i.is at s.5 in
        record { some = (s.0, s.1, i.arguments, s.3, i.placed, part_room r (omega arith) (omega arith)) }

    module _ {e : ℕ} {NL NS : List ℕ} (u : ArgumentsPost L S K N Z W OL OS (p + 1) (p + get_or Z p 0) (t + 1) e NL NS) where
      pub head_pre : length NL ≡ length OL → length NS ≡ length OS → HeadPre L K N W NL NS p t e
      head_pre a b =
          let s = asked.pre.some in
          let i = is_headed (meant W s.0 s.1) s.4 asked.not_individual asked.not_context in
          let r = rw i.is at s.5 in
          let x = (u.is s.0 s.1 i.arguments s.3 i.placed).0 in
          let w = term_row s.4 in
          record {
            in_kind = w.0;
            in_name = w.1;
            some = (S, s.0, s.1, i.label, s.3, i.head);
            first = omega arith;
            room = part_room (same_room a b r) (omega arith) (omega arith);
          }

      pub head_post : {ML MS : List ℕ} → HeadPost L K N W NL NS p t e ML MS → TermPost L S K N Z W OL OS p t e ML MS
      head_post {ML} {MS} h =
          record {
            is = λ Q R q g a.
                let i = is_headed (meant W Q R) a asked.not_individual asked.not_context in
                let x = u.is Q R i.arguments g i.placed in
                let z : e - t ≡ suc (rows (apply_all (meant W Q R) i.arguments)) = omega (arith, x.0) in
                rw i.is (omega (arith, x.0), written_head i.label (apply_all (meant W Q R) i.arguments) x.1 (h.labelled S Q R i.label g i.head) (rw z at h.sized));
          }

-- a list of arguments
module _ {L S K N Z W OL OS : List ℕ} {p e t : ℕ} where
  pub end_post : p ≡ e → ArgumentsPost L S K N Z W OL OS p e t t OL OS
  unfolding apply_all rows
  end_post z =
      record {
        is = λ Q R ps g a.
            let i = is_nil a z in
            rw i (omega arith, written_none);
      }

  -- a sequence variable first
  module _ (place : AtSequence L S K N Z W OL OS p e t) where
    pub sequence_pre : SequencePre L S W OL OS (get_or N p 0) t
    unfolding apply_all
    sequence_pre =
        let s = place.pre.some in
        let i = is_sequence s.4 place.more place.kind in
        let r = rw i.1 at s.5 in
        let z = rows_of (as_forest (at (meant W s.0 s.1) (get_or N p 0))) (apply_all (meant W s.0 s.1) i.0) in
        record { some = (s.0, s.1, s.3, i.2, part_room r (omega arith) (omega arith)) }

    module _ {f : ℕ} {NL NS : List ℕ} (u : SequencePost L S W OL OS (get_or N p 0) t f NL NS) where
      pub behind_pre : length NL ≡ length OL → length NS ≡ length OS → ArgumentsPre L S K N Z W NL NS (p + 1) e f
      unfolding apply_all
      behind_pre a b =
          let s = place.pre.some in
          let i = is_sequence s.4 place.more place.kind in
          let r = rw i.1 at s.5 in
          let z = rows_of (as_forest (at (meant W s.0 s.1) (get_or N p 0))) (apply_all (meant W s.0 s.1) i.0) in
          let y = (u.is s.0 s.1 s.3 i.2).0 in
          record { some = (s.0, s.1, i.0, s.3, i.3, part_room (same_room a b r) (omega arith) (omega arith)) }

      pub behind_post : {r : ℕ} {ML MS : List ℕ} → ArgumentsPost L S K N Z W NL NS (p + 1) e f r ML MS → ArgumentsPost L S K N Z W OL OS p e t r ML MS
      unfolding apply_all
      behind_post {r} {ML} {MS} h =
          record {
            is = λ Q R ps g a.
                let i = is_sequence a place.more place.kind in
                let v = as_forest (at (meant W Q R) (get_or N p 0)) in
                let w = u.is Q R g i.2 in
                let y = h.is Q R i.0 g i.3 in
                rw i.1 (omega (arith, w.0, y.0, rows_of v (apply_all (meant W Q R) i.0)), written_both v (apply_all (meant W Q R) i.0) w.1 w.0 y.1);
          }

  -- a term first
  module _ (place : AtTerm L S K N Z W OL OS p e t) where
    pub first_pre : TermPre L S K N Z W OL OS p t
    unfolding apply_all rows
    first_pre =
        let s = place.pre.some in
        let i = is_cons s.4 place.more place.kind in
        let r = rw i.2 at s.5 in
        record { some = (s.0, s.1, i.0, s.3, i.3, part_room r (omega arith) (omega arith)) }

    pub first_falls : (p + get_or Z p 0 ≤ e) × (1 ≤ get_or Z p 0)
    first_falls = let i = is_cons place.pre.some.4 place.more place.kind in (i.4, (term_row i.3).3)

    module _ {f : ℕ} {NL NS : List ℕ} (u : TermPost L S K N Z W OL OS p t f NL NS) where
      pub rest_pre : length NL ≡ length OL → length NS ≡ length OS → ArgumentsPre L S K N Z W NL NS (p + get_or Z p 0) e f
      unfolding apply_all rows
      rest_pre a b =
          let s = place.pre.some in
          let i = is_cons s.4 place.more place.kind in
          let r = rw i.2 at s.5 in
          let x = (u.is s.0 s.1 i.0 s.3 i.3).0 in
          record { some = (s.0, s.1, i.1, s.3, i.5, part_room (same_room a b r) (omega arith) (omega arith)) }

      pub rest_post : {r : ℕ} {ML MS : List ℕ} → ArgumentsPost L S K N Z W NL NS (p + get_or Z p 0) e f r ML MS → ArgumentsPost L S K N Z W OL OS p e t r ML MS
      unfolding apply_all rows ◌⊕◌
      rest_post {r} {ML} {MS} h =
          record {
            is = λ Q R ps g a.
                let i = is_cons a place.more place.kind in
                let T = apply (meant W Q R) i.0 in
                let x = u.is Q R i.0 g i.3 in
                let y = h.is Q R i.1 g i.5 in
                rw i.2 (omega (arith, x.0, y.0), written_both (T ◂ none) (apply_all (meant W Q R) i.1) x.1 (omega (arith, x.0)) y.1);
          }

-- the loop over the arguments
module _ {L S K N Z W OL OS : List ℕ} {p e t : ℕ} where
  pub writing_first : ArgumentsPre L S K N Z W OL OS p e t → Writing L S K N Z W OL OS p e t OL OS p t
  writing_first h = record { later = omega arith; left = h; then = λ r ML MS o. o; labelled = refl; sized = refl }

  module _ {NL NS : List ℕ} {q u : ℕ} (w : Writing L S K N Z W OL OS p e t NL NS q u) where
    pub writing_done : q ≡ e → ArgumentsPost L S K N Z W OL OS p e t u NL NS
    writing_done z = w.then u NL NS (end_post z)

    module _ {f : ℕ} {ML MS : List ℕ} (a : length ML ≡ length NL) (b : length MS ≡ length NS) where
      pub writing_sequence : AtSequence L S K N Z W NL NS q e u → SequencePost L S W NL NS (get_or N q 0) u f ML MS → Writing L S K N Z W OL OS p e t ML MS (q + 1) f
      writing_sequence place o =
          record {
            later = omega (arith, w.later);
            left = behind_pre place o a b;
            then = λ r XL XS h. w.then r XL XS (behind_post place o h);
            labelled = a ∙ w.labelled;
            sized = b ∙ w.sized;
          }

      pub writing_term : AtTerm L S K N Z W NL NS q e u → TermPost L S K N Z W NL NS q u f ML MS → Writing L S K N Z W OL OS p e t ML MS (q + get_or Z q 0) f
      writing_term place o =
          record {
            later = omega (arith, w.later);
            left = rest_pre place o a b;
            then = λ r XL XS h. w.then r XL XS (rest_post place o h);
            labelled = a ∙ w.labelled;
            sized = b ∙ w.sized;
          }
