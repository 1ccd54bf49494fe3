-- The lister's loop: what holds of its locals, and each step of it, over any walk.
use mathlib.Core.Path.{◌≡◌, refl, sym, ap, ◌∙◌, subst}
use mathlib.Core.List.{List, [], ◌∷◌, ◌++◌}
use Prim.Native.Nat.{ℕ, suc, ◌+◌, ◌-◌, ◌*◌, ◌≤◌, ◌<◌, zero-le}
use native.Mathlib.Omega.{arith}
use native.Mathlib.Nat.{mul-le-mul_right, suc-mul, zero-mul}
use native.Mathlib.Numerals.{add-one}
use native.Mathlib.Decide.{ℕ_discrete}
use lib.ListN.{length, take, drop, get_or, set, length-set}
use lib.Seq.{length-take-le, get_or-set_same, get_or-set_other, paste}
use borrow.Author.Tests.{lt-ltb, le-ltb}
use Rattle.catalogue.proofs.Back.{BackTo}
use Rattle.catalogue.proofs.Events.{Outcome, fail, need, done, Event, tried, snoc, events}
use Rattle.catalogue.proofs.Run.{Tame}
use Rattle.catalogue.proofs.Fill.{Filled, fill, splice, length_splice, fill_skip, rest, rest_level, ahead, ahead_start, ahead_fail, ahead_match, ahead_need, events_fail, events_match, rest_back, rest_next}

-- what does not change
pub record Fixed (walk : List ℕ → Outcome) (bound limit width room : ℕ) (before : List ℕ) : Type 0 where
  pub is_tame : Tame walk bound limit width
  pub small : bound ≤ 256
  pub fits : room * width ≤ length before

-- levels that the loop can go on from
pub record Stands (bound limit : ℕ) (vals nexts lefts : List ℕ) (depth : ℕ) : Type 0 where
  pub deep : depth ≤ bound
  pub vals_long : length vals ≡ 256
  pub nexts_long : length nexts ≡ 256
  pub lefts_long : length lefts ≡ 256
  pub small : (k : ℕ) → k < depth → get_or nexts k 0 + get_or lefts k 0 ≤ limit

-- the locals, with the events es left
pub record At (walk : List ℕ → Outcome) (bound limit width budget room : ℕ) (before : List ℕ) (F : Filled) (es : List Event)
    (out vals nexts lefts : List ℕ) (depth count tries : ℕ) : Type 0 where
  pub total : fill budget room width tries count out es ≡ F
  pub deep : depth ≤ bound
  pub vals_long : length vals ≡ 256
  pub nexts_long : length nexts ≡ 256
  pub lefts_long : length lefts ≡ 256
  pub out_long : length out ≡ length before
  pub small : (k : ℕ) → k < depth → get_or nexts k 0 + get_or lefts k 0 ≤ limit
  pub counted : count ≤ room
  pub charged : tries ≤ budget

-- the sum of each level stays small where one level is set
set_small : {limit : ℕ} (nexts lefts : List ℕ) (d lo n : ℕ) → d < length nexts → d < length lefts → lo + n ≤ limit
    → ((k : ℕ) → k < d → get_or nexts k 0 + get_or lefts k 0 ≤ limit) → (k : ℕ) → k < suc d → get_or (set nexts d lo) k 0 + get_or (set lefts d n) k 0 ≤ limit
set_small nexts lefts d lo n hn hl h old k g =
    elim (ℕ_discrete k d) [
      | yes e ↦ rw (e, get_or-set_same nexts d lo 0 hn, get_or-set_same lefts d n 0 hl) h
      | no e ↦ rw (get_or-set_other nexts d k lo 0 e, get_or-set_other lefts d k n 0 e) (old k (omega arith))
    ]

module _ {walk : List ℕ → Outcome} {bound limit width budget room : ℕ} {before : List ℕ} {F : Filled} (fx : Fixed walk bound limit width room before) where
  -- other events that fill alike, and are no more
  same_events : {es es' : List Event} {out vals nexts lefts : List ℕ} {depth count tries : ℕ}
      → es ≡ es' → At walk bound limit width budget room before F es out vals nexts lefts depth count tries
      → At walk bound limit width budget room before F es' out vals nexts lefts depth count tries
  same_events {out = out} {depth = depth} {count = count} {tries = tries} e a =
      record {
        total = subst (λ l. fill budget room width tries count out l ≡ F) e a.total;
        deep = a.deep;
        vals_long = a.vals_long;
        nexts_long = a.nexts_long;
        lefts_long = a.lefts_long;
        out_long = a.out_long;
        small = a.small;
        counted = a.counted;
        charged = a.charged;
      }

  pub at_rest : (vals nexts lefts : List ℕ) (depth : ℕ) → F ≡ fill budget room width 0 0 before (rest walk bound vals nexts lefts depth) → Stands bound limit vals nexts lefts depth
      → At walk bound limit width budget room before F (rest walk bound vals nexts lefts depth) before vals nexts lefts depth 0 0
  at_rest vals nexts lefts depth e s =
      record {
        total = sym e;
        deep = s.deep;
        vals_long = s.vals_long;
        nexts_long = s.nexts_long;
        lefts_long = s.lefts_long;
        out_long = refl;
        small = s.small;
        counted = zero-le;
        charged = zero-le;
      }

  module _ {out vals nexts lefts : List ℕ} {depth count tries : ℕ}
      (a : At walk bound limit width budget room before F (ahead walk bound vals nexts lefts depth) out vals nexts lefts depth count tries) where
    pub at_fail : walk (take depth vals) ≡ fail
        → At walk bound limit width budget room before F (rest walk bound vals nexts lefts depth) out vals nexts lefts depth count tries
    at_fail s = same_events (ahead_fail walk bound vals nexts lefts depth s) a

    pub need_deep : (lo n : ℕ) → walk (take depth vals) ≡ need lo n → (depth < bound) × (lo + n ≤ limit)
    need_deep lo n s =
        let q = fx.is_tame.asks (take depth vals) lo n s in
        (omega (arith, q.0, length-take-le depth vals (omega (arith, a.deep, a.vals_long, fx.small))), q.1)

    pub at_need : (lo n : ℕ) → walk (take depth vals) ≡ need lo n
        → At walk bound limit width budget room before F (rest walk bound vals (set nexts depth lo) (set lefts depth n) (depth + 1)) out vals (set nexts depth lo) (set lefts depth n) (depth + 1) count tries
    at_need lo n s =
        let q = need_deep lo n s in
        let e = ahead_need walk bound vals nexts lefts depth lo n q.0 (omega (arith, q.0, fx.small, a.nexts_long)) (omega (arith, q.0, fx.small, a.lefts_long)) s in
        let b = same_events e a in
        rw add-one
        (record {
          total = b.total;
          deep = q.0;
          vals_long = a.vals_long;
          nexts_long = length-set nexts depth lo ∙ a.nexts_long;
          lefts_long = length-set lefts depth n ∙ a.lefts_long;
          out_long = a.out_long;
          small = set_small nexts lefts depth lo n (omega (arith, q.0, fx.small, a.nexts_long)) (omega (arith, q.0, fx.small, a.lefts_long)) q.1 a.small;
          counted = a.counted;
          charged = a.charged;
        })

    pub no_room : (x : List ℕ) → walk (take depth vals) ≡ done x → count ≡ room
        → F ≡ record { ending = 1; records = count; tries = tries; out = out }
    no_room x s h =
        sym (same_events (ahead_match walk bound vals nexts lefts depth x s) a).total ∙ rw (le-ltb count room (omega arith))

    pub room_left : (count ≡ room → ⊥) → count * width + width ≤ length out
    room_left h = omega (arith, suc-mul count width, mul-le-mul_right {m = suc count} {n = room} width (omega (arith, a.counted)), fx.fits, a.out_long)

    pub at_match : (x rec' : List ℕ) → walk (take depth vals) ≡ done x → take (length x) rec' ≡ x → (count ≡ room → ⊥)
        → At walk bound limit width budget room before F (rest walk bound vals nexts lefts depth) (paste out (count * width) rec' width) vals nexts lefts depth (count + 1) tries
    at_match x rec' s f h =
        let lx : length x ≡ width = fx.is_tame.wide (take depth vals) x s in
        let p : paste out (count * width) rec' width ≡ splice out (count * width) x =
        subst (λ (k : ℕ). paste out (count * width) rec' k ≡ splice out (count * width) x) lx (ap (λ l. take (count * width) out ++ l ++ drop (count * width + length x) out) f) in
        let b = same_events (ahead_match walk bound vals nexts lefts depth x s) a in
        let more : count < room = omega (arith, a.counted) in
        let gap = room_left h in
        rw (p, add-one count)
        (record {
          total = rw (lt-ltb count room more) at b.total;
          deep = a.deep;
          vals_long = a.vals_long;
          nexts_long = a.nexts_long;
          lefts_long = a.lefts_long;
          out_long = length_splice out (count * width) x (omega arith) ∙ a.out_long;
          small = a.small;
          counted = more;
          charged = a.charged;
        })

  module _ {out vals nexts lefts : List ℕ} {depth count tries : ℕ}
      (a : At walk bound limit width budget room before F (rest walk bound vals nexts lefts depth) out vals nexts lefts depth count tries) where
    pub at_back : (d : ℕ) → BackTo lefts depth d → At walk bound limit width budget room before F (rest walk bound vals nexts lefts d) out vals nexts lefts d count tries
    at_back d b =
        let c = same_events (rest_back walk bound vals nexts lefts depth d b) a in
        record {
          total = c.total;
          deep = omega (arith, a.deep, b.low);
          vals_long = a.vals_long;
          nexts_long = a.nexts_long;
          lefts_long = a.lefts_long;
          out_long = a.out_long;
          small = λ k h. a.small k (omega (arith, b.low));
          counted = a.counted;
          charged = a.charged;
        }

    pub all_done : depth ≡ 0 → F ≡ record { ending = 0; records = count; tries = tries; out = out }
    all_done h = sym (subst (λ (k : ℕ). fill budget room width tries count out (rest walk bound vals nexts lefts k) ≡ F) h a.total)

  -- the last level's next value is tried
  module _ {out vals nexts lefts : List ℕ} {d count tries : ℕ}
      (a : At walk bound limit width budget room before F (rest walk bound vals nexts lefts (suc d)) out vals nexts lefts (suc d) count tries) (live : 0 < get_or lefts d 0) where
    in_vals : d < length vals
    in_vals = omega (arith, a.deep, a.vals_long, fx.small)

    in_nexts : d < length nexts
    in_nexts = omega (arith, a.deep, a.nexts_long, fx.small)

    in_lefts : d < length lefts
    in_lefts = omega (arith, a.deep, a.lefts_long, fx.small)

    splits : rest walk bound vals nexts lefts (suc d)
        ≡ tried (snoc (take d vals) (get_or nexts d 0)) ∷ ahead walk bound (set vals d (get_or nexts d 0)) (set nexts d (get_or nexts d 0 + 1)) (set lefts d (get_or lefts d 0 - 1)) (suc d)
    splits = rest_next walk bound vals nexts lefts d (get_or nexts d 0) (get_or lefts d 0 - 1) in_vals in_nexts in_lefts refl (omega arith)

    spent : tries ≡ budget → F ≡ record { ending = 2; records = count; tries = tries; out = out }
    spent h = sym (same_events splits a).total ∙ rw (le-ltb tries budget (omega arith))

    next : (tries ≡ budget → ⊥) → (es : List Event)
        → es ≡ ahead walk bound (set vals d (get_or nexts d 0)) (set nexts d (get_or nexts d 0 + 1)) (set lefts d (get_or lefts d 0 - 1)) (suc d)
        → At walk bound limit width budget room before F es out (set vals d (get_or nexts d 0)) (set nexts d (get_or nexts d 0 + 1)) (set lefts d (get_or lefts d 0 - 1)) (suc d) count (tries + 1)
    next h es e =
        let b = same_events (splits ∙ ap (λ l. tried (snoc (take d vals) (get_or nexts d 0)) ∷ l) (sym e)) a in
        let more : tries < budget = omega (arith, a.charged) in
        rw (add-one tries)
        (record {
          total = rw (lt-ltb tries budget more) at b.total;
          deep = a.deep;
          vals_long = length-set vals d (get_or nexts d 0) ∙ a.vals_long;
          nexts_long = length-set nexts d (get_or nexts d 0 + 1) ∙ a.nexts_long;
          lefts_long = length-set lefts d (get_or lefts d 0 - 1) ∙ a.lefts_long;
          out_long = a.out_long;
          small = set_small nexts lefts d (get_or nexts d 0 + 1) (get_or lefts d 0 - 1) in_nexts in_lefts (omega (arith, a.small d (omega arith))) (λ k g. a.small k (omega arith));
          counted = a.counted;
          charged = more;
        })

    -- its next k values fail
    skip : (k : ℕ) → k ≤ get_or lefts d 0 → tries + k ≤ budget → ((j : ℕ) → j < k → walk (snoc (take d vals) (get_or nexts d 0 + j)) ≡ fail)
        → At walk bound limit width budget room before F (rest walk bound vals (set nexts d (get_or nexts d 0 + k)) (set lefts d (get_or lefts d 0 - k)) (suc d))
        out vals (set nexts d (get_or nexts d 0 + k)) (set lefts d (get_or lefts d 0 - k)) (suc d) count (tries + k)
    skip k h b fails =
        record {
          total =
              ap (fill budget room width (tries + k) count out) (rest_level walk bound vals nexts lefts d (get_or nexts d 0 + k) (get_or lefts d 0 - k) in_nexts in_lefts)
              ∙ sym (fill_skip budget room width (events walk (bound - suc d)) (take d vals) k (get_or nexts d 0) (get_or lefts d 0 - k) (get_or lefts d 0) tries count out (rest walk bound vals nexts lefts d) (omega arith) b
              (λ j l. events_fail walk bound (bound - suc d) (snoc (take d vals) (get_or nexts d 0 + j)) (fails j l)))
              ∙ a.total;
          deep = a.deep;
          vals_long = a.vals_long;
          nexts_long = length-set nexts d (get_or nexts d 0 + k) ∙ a.nexts_long;
          lefts_long = length-set lefts d (get_or lefts d 0 - k) ∙ a.lefts_long;
          out_long = a.out_long;
          small = set_small nexts lefts d (get_or nexts d 0 + k) (get_or lefts d 0 - k) in_nexts in_lefts (omega (arith, a.small d (omega arith))) (λ j g. a.small j (omega arith));
          counted = a.counted;
          charged = b;
        }

  -- the same, with d one below the depth
  module _ {out vals nexts lefts : List ℕ} {depth count tries : ℕ}
      (a : At walk bound limit width budget room before F (rest walk bound vals nexts lefts depth) out vals nexts lefts depth count tries) (pos : 0 < depth) (live : 0 < get_or lefts (depth - 1) 0) where
    level : depth ≡ suc (depth - 1)
    level = omega arith

    a' : At walk bound limit width budget room before F (rest walk bound vals nexts lefts (suc (depth - 1))) out vals nexts lefts (suc (depth - 1)) count tries
    a' = subst (λ (k : ℕ). At walk bound limit width budget room before F (rest walk bound vals nexts lefts k) out vals nexts lefts k count tries) level a

    pub at_spent : tries ≡ budget → F ≡ record { ending = 2; records = count; tries = tries; out = out }
    at_spent h = spent a' live h

    pub at_next : (tries ≡ budget → ⊥) → (vals' nexts' lefts' : List ℕ) → vals' ≡ set vals (depth - 1) (get_or nexts (depth - 1) 0)
        → nexts' ≡ set nexts (depth - 1) (get_or nexts (depth - 1) 0 + 1) → lefts' ≡ set lefts (depth - 1) (get_or lefts (depth - 1) 0 - 1)
        → At walk bound limit width budget room before F (ahead walk bound vals' nexts' lefts' depth) out vals' nexts' lefts' depth count (tries + 1)
    at_next h vals' nexts' lefts' ev en el =
        let G : List ℕ → List ℕ → List ℕ → ℕ → Type 0 = λ x y z k. At walk bound limit width budget room before F (ahead walk bound x y z k) out x y z k count (tries + 1) in
        let X = set vals (depth - 1) (get_or nexts (depth - 1) 0) in
        let Y = set nexts (depth - 1) (get_or nexts (depth - 1) 0 + 1) in
        subst (λ (k : ℕ). G vals' nexts' lefts' k) (sym level)
        (subst (λ (x : List ℕ). G x nexts' lefts' (suc (depth - 1))) (sym ev)
        (subst (λ (y : List ℕ). G X y lefts' (suc (depth - 1))) (sym en) (subst (λ (z : List ℕ). G X Y z (suc (depth - 1))) (sym el) (next a' live h _ refl))))

    pub at_skip : (k : ℕ) → k ≤ get_or lefts (depth - 1) 0 → tries + k ≤ budget → ((j : ℕ) → j < k → walk (snoc (take (depth - 1) vals) (get_or nexts (depth - 1) 0 + j)) ≡ fail)
        → (nexts' lefts' : List ℕ) → nexts' ≡ set nexts (depth - 1) (get_or nexts (depth - 1) 0 + k) → lefts' ≡ set lefts (depth - 1) (get_or lefts (depth - 1) 0 - k)
        → At walk bound limit width budget room before F (rest walk bound vals nexts' lefts' depth) out vals nexts' lefts' depth count (tries + k)
    at_skip k h b fails nexts' lefts' en el =
        let G : List ℕ → List ℕ → ℕ → Type 0 = λ y z i. At walk bound limit width budget room before F (rest walk bound vals y z i) out vals y z i count (tries + k) in
        let Y = set nexts (depth - 1) (get_or nexts (depth - 1) 0 + k) in
        subst (λ (i : ℕ). G nexts' lefts' i) (sym level)
        (subst (λ (y : List ℕ). G y lefts' (suc (depth - 1))) (sym en) (subst (λ (z : List ℕ). G Y z (suc (depth - 1))) (sym el) (skip a' live k h b fails)))

-- the first walk, before any choice
module _ {walk : List ℕ → Outcome} {bound limit width room : ℕ} {before : List ℕ} (fx : Fixed walk bound limit width room before) where
  pub first_fail : (budget : ℕ) → walk [] ≡ fail → fill budget room width 0 0 before (events walk bound []) ≡ record { ending = 0; records = 0; tries = 0; out = before }
  first_fail budget s = ap (fill budget room width 0 0 before) (events_fail walk bound bound [] s)

  pub first_deep : (lo n : ℕ) → walk [] ≡ need lo n → (0 < bound) × (lo + n ≤ limit)
  first_deep lo n s = fx.is_tame.asks [] lo n s

  pub first_need : (vals nexts lefts : List ℕ) (lo n : ℕ) → 0 < length nexts → 0 < length lefts → walk [] ≡ need lo n
      → events walk bound [] ≡ rest walk bound vals (set nexts 0 lo) (set lefts 0 n) 1
  first_need vals nexts lefts lo n hn hl s =
      sym (ahead_start walk bound vals nexts lefts) ∙ ahead_need walk bound vals nexts lefts 0 lo n (first_deep lo n s).0 hn hl s

  pub first_full : (budget : ℕ) (x : List ℕ) → walk [] ≡ done x → room ≡ 0 → fill budget room width 0 0 before (events walk bound []) ≡ record { ending = 1; records = 0; tries = 0; out = before }
  first_full budget x s h =
      ap (fill budget room width 0 0 before) (events_match walk bound bound [] x s) ∙ rw (le-ltb 0 room (omega arith))

  pub first_done : (budget : ℕ) (x rec : List ℕ) → walk [] ≡ done x → take (length x) rec ≡ x → (room ≡ 0 → ⊥)
      → fill budget room width 0 0 before (events walk bound []) ≡ record { ending = 0; records = 1; tries = 0; out = paste before 0 rec width }
  first_done budget x rec s f h =
      let lx : length x ≡ width = fx.is_tame.wide [] x s in
      let p : splice before 0 x ≡ paste before 0 rec width =
      sym (subst (λ (k : ℕ). paste before 0 rec k ≡ splice before 0 x) lx (ap (λ l. l ++ drop (0 + length x) before) f)) in
      ap (fill budget room width 0 0 before) (events_match walk bound bound [] x s)
      ∙ rw (lt-ltb 0 room (omega arith), zero-mul width, p)

  pub first_room : (room ≡ 0 → ⊥) → width ≤ length before
  first_room h = omega (arith, fx.fits, mul-le-mul_right {m = 1} {n = room} width (omega arith))
