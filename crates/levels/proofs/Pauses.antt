-- The levels as the walk left them: values are passed over, a try changes nothing before its variable, and a need is one level more.
use Prim.Native.Nat.{ℕ, suc, ◌+◌, ◌-◌, ◌<◌, ◌≤◌}
use mathlib.Core.Path.{◌≡◌, ap, subst}
use mathlib.Core.Logic.{◌≢◌}
use mathlib.Core.List.{List, [], ◌++◌}
use lib.ListN.{length, get_or, take, set}
use lib.Seq.{get_or-set_same, get_or-set_other, take-set-le}
use native.Mathlib.Omega.{arith}
use native.Mathlib.Decide.{ℕ_discrete}
use Rattle.meaning.specs.Forest.{Term}
use Rattle.meaning.specs.Pattern.{Pattern, Kind}
use Rattle.meaning.proofs.Walk.{walk_t}
use Rattle.meaning.proofs.Next.{Any, any?}
use Rattle.walk.specs.Above.{Marks, Unchanged}
use Rattle.walk.specs.Cycle.{Needs}
use Rattle.walk.specs.Onward.{Lands}
use Rattle.walk.proofs.Marks.{marks_kept, needs_same}
use Rattle.walk.proofs.Taken.{needs_kept}
use Rattle.choice.proofs.Lands.{lands_first, lands_next}
use Rattle.levels.specs.Levels.{Pause, Pauses}

module _ {L S K N Z : List ℕ} {Q : List Kind} {P : Pattern} {T : Term} where
  pub pauses_back : {R A vals places X St U Nx F : List ℕ} {depth d : ℕ} → d ≤ depth → Pauses L S R A K N Z Q P T vals places X St U Nx F depth → Pauses L S R A K N Z Q P T vals places X St U Nx F d
  pauses_back h v = record { marks = v.marks; each = λ k l. v.each k (omega arith); rise = λ j k m l. v.rise j k m (omega arith) }

  module _ {R A vals places X St U Nx F : List ℕ} {d : ℕ} (ps : Pauses L S R A K N Z Q P T vals places X St U Nx F (suc d)) where
    -- the last level is replaced
    pub pauses_last : {u v left : ℕ} → d < length U → d < length Nx → d < length F
        → Pause L S R A K N Z Q (λ ds. walk_t Any any? P T 0 [] (take d vals ++ ds)) (get_or places d 0) (get_or X d 0) (get_or St d 0) u v left
        → Pauses L S R A K N Z Q P T vals places X St (set U d u) (set Nx d v) (set F d left) (suc d)
    pauses_last {u} {v} {left} hu hv hf last =
        record { marks = ps.marks; each = λ k l. each k l (ℕ_discrete k d); rise = ps.rise }
      where
        each : (k : ℕ) → k < suc d → Dec (k ≡ d)
            → Pause L S R A K N Z Q (λ ds. walk_t Any any? P T 0 [] (take k vals ++ ds)) (get_or places k 0) (get_or X k 0) (get_or St k 0) (get_or (set U d u) k 0) (get_or (set Nx d v) k 0) (get_or (set F d left) k 0)
        each k l (no n) = rw (get_or-set_other U d k u 0 n, get_or-set_other Nx d k v 0 n, get_or-set_other F d k left 0 n) (ps.each k l)
        each k l (yes e) = rw (e, get_or-set_same U d u 0 hu, get_or-set_same Nx d v 0 hv, get_or-set_same F d left 0 hf) last

    -- the walk that asked for the last level's variable
    abbrev top : Pause L S R A K N Z Q (λ ds. walk_t Any any? P T 0 [] (take d vals ++ ds)) (get_or places d 0) (get_or X d 0) (get_or St d 0) (get_or U d 0) (get_or Nx d 0) (get_or F d 0)
    top = ps.each d (omega arith)

    -- some of the last level's next values are passed over, and r is the row of the one after them
    pub pauses_skip : {r : ℕ} (k : ℕ) → k < get_or F d 0 → d < length U → d < length Nx → d < length F → Lands L S (get_or St d 0) r (get_or Nx d 0 + k - top.lo) top.needs.stop
        → Pauses L S R A K N Z Q P T vals places X St (set U d r) (set Nx d (get_or Nx d 0 + k)) (set F d (get_or F d 0 - k)) (suc d)
    pauses_skip k more hu hv hf lands =
        pauses_last hu hv hf
        (record { lo = top.lo; hi = top.hi; needs = top.needs; low = omega (arith, top.low); high = omega (arith, top.high); lands = λ _. lands })

    -- the last level goes on to its next value, and r is its row
    pub pauses_next : {r : ℕ} → 0 < get_or F d 0 → d < length U → d < length Nx → d < length F
        → (0 < get_or F d 0 - 1 → get_or K (get_or places d 0) 0 ≡ 2 → r ≡ get_or U d 0 + get_or S (get_or U d 0) 0) → (0 < get_or F d 0 - 1 → get_or K (get_or places d 0) 0 ≢ 2 → r ≡ get_or U d 0 + 1)
        → Pauses L S R A K N Z Q P T vals places X St (set U d r) (set Nx d (get_or Nx d 0 + 1)) (set F d (get_or F d 0 - 1)) (suc d)
    pauses_next {r} live hu hv hf terms hole =
        let z : suc (get_or Nx d 0 - top.lo) ≡ get_or Nx d 0 + 1 - top.lo = omega (arith, top.low) in
        pauses_last hu hv hf
        (record {
          lo = top.lo;
          hi = top.hi;
          needs = top.needs;
          low = omega (arith, top.low);
          high = omega (arith, top.high);
          lands = λ h.
              subst (λ (i : ℕ). Lands L S (get_or St d 0) r i top.needs.stop) z
              (lands_next top.needs.stands (top.lands live) (omega (arith, top.low, top.high, top.needs.low, top.needs.high)) (terms h) (hole h));
        })

    -- the last level has tried the value v: nothing before its variable is changed
    pub pauses_kept : {R' A' : List ℕ} (v : ℕ) → ((k : ℕ) → k ≤ d → get_or X k 0 ≤ get_or X d 0) → Unchanged (get_or X d 0 + get_or X d 0) R R' → Unchanged (get_or places d 0 + 1) A A'
        → Pauses L S R' A' K N Z Q P T (set vals d v) places X St U Nx F (suc d)
    unfolding needs_same needs_kept
    pauses_kept v low kr ka =
        record {
          marks = marks_kept ka ps.marks;
          each = λ k l.
              let w = ps.each k l in
              let same = take-set-le k vals d v (omega arith) in
              record {
                lo = w.lo;
                hi = w.hi;
                needs =
                    needs_same (λ ds. ap (λ (c : List ℕ). walk_t Any any? P T 0 [] (c ++ ds)) same) (needs_kept (low k (omega arith)) kr (below k l (ℕ_discrete k d)) ka w.needs);
                low = w.low;
                high = w.high;
                lands = w.lands;
              };
          rise = ps.rise;
        }
      where
        below : (k : ℕ) → k < suc d → Dec (k ≡ d) → get_or places k 0 < get_or places d 0 + 1
        below k l (yes e) = rw e (omega arith)
        below k l (no n) = omega (arith, ps.rise k d (omega arith) (omega arith))

  -- no level yet
  pub pauses_none : {R A vals places X St U Nx F : List ℕ} → Marks K A → Pauses L S R A K N Z Q P T vals places X St U Nx F 0
  pauses_none marks = record { marks = marks; each = λ k l. absurd (omega arith); rise = λ j k m l. absurd (omega arith) }

  -- one level more: what the choices so far lead to asks for a variable further right
  pub pauses_need : {R A vals places X St U Nx F : List ℕ} {d p x s lo hi : ℕ} → Pauses L S R A K N Z Q P T vals places X St U Nx F d
      → d < length places → d < length X → d < length St → d < length U → d < length Nx → d < length F
      → ((k : ℕ) → k < d → get_or places k 0 < p) → lo ≤ hi → Needs L S R A K N Z Q [] (λ ds. walk_t Any any? P T 0 [] (take d vals ++ ds)) p x s lo hi
      → Pauses L S R A K N Z Q P T vals (set places d p) (set X d x) (set St d s) (set U d s) (set Nx d lo) (set F d (suc hi - lo)) (suc d)
  pauses_need {R} {A} {vals} {places} {X} {St} {U} {Nx} {F} {d} {p} {x} {s} {lo} {hi} ps hp hx hs hu hv hf later range n =
      record { marks = ps.marks; each = λ k l. each k l (ℕ_discrete k d); rise = λ j k m l. rise j k m l (ℕ_discrete k d) }
    where
      rise : (j k : ℕ) → j < k → k < suc d → Dec (k ≡ d) → get_or (set places d p) j 0 < get_or (set places d p) k 0
      rise j k m l (yes e) =
          let z : j ≡ d → ⊥ = λ o. omega arith in
          rw (e, get_or-set_other places d j p 0 z, get_or-set_same places d p 0 hp) (later j (omega arith))
      rise j k m l (no n) =
          let z : j ≡ d → ⊥ = λ o. omega arith in
          rw (get_or-set_other places d j p 0 z, get_or-set_other places d k p 0 n) (ps.rise j k m (omega arith))

      newest : Pause L S R A K N Z Q (λ ds. walk_t Any any? P T 0 [] (take d vals ++ ds)) p x s s lo (suc hi - lo)
      newest =
          let z : 0 ≡ lo - lo = omega arith in
          record { lo = lo; hi = hi; needs = n; low = omega arith; high = omega arith; lands = λ _. subst (λ (i : ℕ). Lands L S s s i n.stop) z (lands_first n.stands) }

      each : (k : ℕ) → k < suc d → Dec (k ≡ d)
          → Pause L S R A K N Z Q (λ ds. walk_t Any any? P T 0 [] (take k vals ++ ds)) (get_or (set places d p) k 0) (get_or (set X d x) k 0) (get_or (set St d s) k 0)
          (get_or (set U d s) k 0) (get_or (set Nx d lo) k 0) (get_or (set F d (suc hi - lo)) k 0)
      each k l (yes e) =
          rw (
            e,
            get_or-set_same places d p 0 hp,
            get_or-set_same X d x 0 hx,
            get_or-set_same St d s 0 hs,
            get_or-set_same U d s 0 hu,
            get_or-set_same Nx d lo 0 hv,
            get_or-set_same F d (suc hi - lo) 0 hf,
          ) newest
      each k l (no n) =
          rw (
            get_or-set_other places d k p 0 n,
            get_or-set_other X d k x 0 n,
            get_or-set_other St d k s 0 n,
            get_or-set_other U d k s 0 n,
            get_or-set_other Nx d k lo 0 n,
            get_or-set_other F d k (suc hi - lo) 0 n,
          ) (ps.each k (omega arith))
