-- The turns of the search.
use Prim.Native.Nat.{ℕ, suc, ◌+◌, ◌-◌, ◌*◌, ◌<◌, ◌≤◌}
use mathlib.Core.Path.{◌≡◌, refl, ap, ◌∙◌, sym, subst}
use mathlib.Core.List.{List, [], ◌∷◌, ◌++◌, append_assoc}
use lib.ListN.{length, get_or, take, set}
use lib.Seq.{take-suc-set}
use native.Mathlib.Omega.{arith}
use native.Mathlib.Decide.{ℕ_discrete}
use Rattle.meaning.specs.Forest.{none, Term, ◌◂◌, size}
use Rattle.meaning.specs.Pattern.{Pattern, Kind, an_individual, a_sequence, a_function, a_context, old, look, Numbered}
use Rattle.meaning.specs.Matcher.{Value}
use Rattle.meaning.specs.Read.{value_at, Fits}
use Rattle.meaning.specs.Record.{Entry, entry}
use Rattle.meaning.proofs.Walk.{Res, fail, need, over, walk_t, walk}
use Rattle.meaning.proofs.Resume.{taken, onward, least}
use Rattle.meaning.proofs.Next.{Any, any?, next_fits, next_judged}
use Rattle.meaning.proofs.Tame.{count, weight, tame_need}
use Rattle.expression.specs.Expression.{Expression}
use Rattle.constraint.specs.Obeys.{Constraint, Obeys, Allowed}
use Rattle.constraint.specs.Pair.{Pair, no_pair, a_pair}
use Rattle.constraint.proofs.Constraints.{pair_at}
use Rattle.constraint.proofs.Allowed.{allowed?}
use Rattle.variable.proofs.States.{count_bound}
use Rattle.walk.specs.Above.{Marks, Unchanged}
use Rattle.walk.specs.Cycle.{stop_at, Needs, Agree}
use Rattle.walk.specs.Onward.{Lands}
use Rattle.walk.specs.Taken.{TakeAsked, Answers, fails}
use Rattle.walk.proofs.Answered.{answers}
use Rattle.walk.proofs.Views.{need_agree}
use Rattle.walk.proofs.Marks.{needs_same}
use Rattle.walk.proofs.Taken.{needs_onward, stands_kept}
use Rattle.choice.specs.Stops.{many, StopAt, LeastPost, LandingPost, FurtherPre, FurtherPost, Before}
use Rattle.choice.specs.Runs.{LevelPre, SkipPost}
use Rattle.choice.specs.Runs as runs
use Rattle.choice.proofs.Stops.{many_range, at_row, at_room}
use Rattle.choice.proofs.Lands.{lands_inside, lands_small}
use Rattle.std.specs.Prelude.{Result, Err}
use Rattle.walk.specs.declared.Halt.{Halt}
use Rattle.walk.specs.declared.Halt.TheVariants as halt
use Rattle.catalogue.proofs.Events.{Outcome}
use Rattle.catalogue.proofs.Given.{Chosen}
use Rattle.catalogue.proofs.Levels.{Level, level_kind, Levels, levels_next, levels_skip, levels_need, variables_rise}
use Rattle.catalogue.proofs.Run.{Tame}
use Rattle.catalogue.proofs.Loop.{Fixed}
use Rattle.catalogue.proofs.Whole.{walked, is_tame}
use Rattle.levels.specs.Levels.{Search, AttemptPost, Pause, Pauses}
use Rattle.levels.proofs.Pauses.{pauses_skip, pauses_next, pauses_kept, pauses_need}
use Rattle.letters.specs.declared.Tables.{Tables}

-- individual and function variables have no constraint
unjudged : {es : List Expression} (k : Kind) {a b : ℕ} {c : Constraint} (v : Value) → weight k ≡ 0 → Pair es k a b c → Obeys c v
unjudged k v h no_pair = tt
unjudged an_individual v h (a_pair m s f) = absurd m
unjudged a_sequence v h (a_pair m s f) = absurd (omega arith)
unjudged a_function v h (a_pair m s f) = absurd m
unjudged a_context v h (a_pair m s f) = absurd (omega arith)

pub few : (Q : List Kind) → count Q ≤ length Q
few [] = omega arith
few (an_individual ∷ Q) = omega (arith, few Q)
few (a_sequence ∷ Q) = omega (arith, few Q)
few (a_function ∷ Q) = omega (arith, few Q)
few (a_context ∷ Q) = omega (arith, few Q)

-- one problem that is searched
module _ {L S M : List ℕ} {tables : Tables} {T : Term} {P : Pattern} {Q : List Kind} {es : List Expression} {cs : List Constraint}
    (w : Search L S M tables T P Q es cs) where
  abbrev pub numbered : Numbered P Q
  numbered = w.pattern.numbered

  abbrev pub Walked : List ℕ → Outcome
  Walked = walked (Allowed cs) (allowed? cs) numbered T

  -- what does not change while it is searched
  pub is_fixed : {width room : ℕ} {before : List ℕ} → width ≡ length Q + length Q → room * width ≤ length before → Fixed Walked (count Q) (size T) width room before
  is_fixed wide fits =
      record {
        is_tame = subst (λ (n : ℕ). Tame Walked (count Q) (size T) n) (sym wide) (is_tame (Allowed cs) (allowed? cs) numbered T);
        small = omega (arith, few Q, w.allowing.few);
        fits = fits;
      }

  pub individuals : (x : ℕ) (v : Value) → look Q x ≡ old an_individual → Allowed cs x v
  individuals x v e = unjudged an_individual v refl (pair_at x w.allowing.given e)

  pub functions : (x : ℕ) (v : Value) → look Q x ≡ old a_function → Allowed cs x v
  functions x v e = unjudged a_function v refl (pair_at x w.allowing.given e)

  -- the levels below the depth, as they are meant and as the walk left them
  abbrev pub Leveled : List ℕ → List ℕ → List ℕ → List ℕ → List ℕ → ℕ → Type 0
  Leveled vals X St Nx F depth = Levels (Allowed cs) (allowed? cs) numbered T vals X St Nx F depth

  abbrev pub Paused : List ℕ → List ℕ → List ℕ → List ℕ → List ℕ → List ℕ → List ℕ → List ℕ → List ℕ → ℕ → Type 0
  Paused R A vals G X St U Nx F depth = Pauses L S R A w.K w.N w.Z Q P T vals G X St U Nx F depth

  -- after n choices the walk asks for the variable x at the row p of the pattern, behind those of the n levels
  pub record Asks (R A vals G : List ℕ) (n p x s : ℕ) : Type 0 where
    pub later : (k : ℕ) → k < n → get_or G k 0 < p
    pub lo : ℕ
    pub hi : ℕ
    pub needs : Needs L S R A w.K w.N w.Z Q [] (λ ds. walk_t Any any? P T 0 [] (take n vals ++ ds)) p x s lo hi
    pub bound : List Entry
    pub asked : walk (Allowed cs) (allowed? cs) P T (take n vals) ≡ need bound s lo hi
    pub its : length bound ≡ x

  module _ {R A vals G : List ℕ} {n p x s : ℕ} (a : Asks R A vals G n p x s) where
    -- where the walk stopped
    pub asks_stop : Marks w.K A → StopAt L S M A p s w.K w.N w.Z Q x a.needs.stop a.needs.frames
    asks_stop marks = record { packed = w.packed; marks = marks; stands = a.needs.stands }

    pub asks_range : (a.lo ≤ a.hi) × (length (take n vals) < count Q)
    asks_range = let t = tame_need (Allowed cs) (allowed? cs) T (take n vals) numbered a.asked in (t.1, t.0)

    -- the values that the code counts are those that the walk asks for
    module _ {lo m : ℕ} (marks : Marks w.K A) (low : LeastPost M p s lo) (all : m ≡ many a.needs.stop) where
      pub asks_values : (a.lo ≡ lo) × (suc a.hi - lo ≡ m)
      asks_values =
          let n = a.needs in
          let l = low.is L S A w.K w.N w.Z Q x n.stop n.frames (asks_stop marks) in
          (sym n.low ∙ sym l, omega (arith, l, all, many_range n.stop s, n.high))

      -- a level more
      pub asks_level : {X St U Nx F : List ℕ} → Leveled vals X St Nx F n → Paused R A vals G X St U Nx F n
          → n < length vals → n < length G → n < length X → n < length St → n < length U → n < length Nx → n < length F
          → Leveled vals (set X n x) (set St n s) (set Nx n lo) (set F n m) (suc n) × Paused R A vals (set G n p) (set X n x) (set St n s) (set U n s) (set Nx n lo) (set F n m) (suc n)
      asks_level lv ps hc hg hx hs hu hn hf =
          let v = asks_values in
          let r = asks_range.0 in
          let l = levels_need (Allowed cs) (allowed? cs) numbered T lv hc hx hs hn hf a.asked r in
          let q = pauses_need ps hg hx hs hu hn hf a.later r a.needs in
          (rw (v.0, v.1, a.its) at l, rw (v.0, v.1) at q)

  module _ {R A vals G X St U Nx F : List ℕ} {d : ℕ} (lv : Leveled vals X St Nx F (suc d)) (ps : Paused R A vals G X St U Nx F (suc d)) (live : 0 < get_or F d 0) where
    top : Level (Allowed cs) (allowed? cs) numbered T (take d vals) (get_or X d 0) (get_or St d 0) (get_or Nx d 0) (get_or F d 0)
    top = lv.each d (omega arith)

    -- the walk that asked for the last level's variable
    abbrev asking : List ℕ → Res
    asking ds = walk_t Any any? P T 0 [] (take d vals ++ ds)

    last : Pause L S R A w.K w.N w.Z Q asking (get_or G d 0) (get_or X d 0) (get_or St d 0) (get_or U d 0) (get_or Nx d 0) (get_or F d 0)
    last = ps.each d (omega arith)

    -- where it stopped, and the values that are left there
    stopped : StopAt L S M A (get_or G d 0) (get_or St d 0) w.K w.N w.Z Q (get_or X d 0) last.needs.stop last.needs.frames
    stopped = record { packed = w.packed; marks = ps.marks; stands = last.needs.stands }

    all : get_or Nx d 0 - last.lo + get_or F d 0 ≡ many last.needs.stop
    all = omega (arith, last.low, last.high, last.needs.low, last.needs.high, many_range last.needs.stop (get_or St d 0))

    standing : runs.Level L S M A (get_or G d 0) (get_or U d 0) (get_or F d 0) w.K w.N w.Z Q (get_or X d 0) (get_or St d 0) last.needs.stop last.needs.frames (get_or Nx d 0 - last.lo)
    standing = record { at = stopped; lands = last.lands live; left_over = all }

    pub skip_asked : {limit : ℕ} → limit < get_or F d 0 → LevelPre L S M A (get_or G d 0) (get_or U d 0) (get_or F d 0) limit
    skip_asked fewer = record { fewer = fewer; some = (w.K, w.N, w.Z, Q, get_or X d 0, get_or St d 0, last.needs.stop, last.needs.frames, get_or Nx d 0 - last.lo, standing) }

    -- with the value v as one more choice, the walk that obeys the constraints goes as the one that does not, or fails
    its_kind : (k : Kind) × (look Q (get_or X d 0) ≡ old k) × Chosen k
    its_kind = level_kind (Allowed cs) (allowed? cs) numbered T top

    abbrev Fitting : ℕ → Type 0
    Fitting v = Allowed cs (get_or X d 0) (value_at its_kind.0 (T ◂ none) (get_or St d 0) v)

    judged : (v : ℕ) → top.lo ≤ v → v ≤ top.hi
        → (Fitting v → walk (Allowed cs) (allowed? cs) P T (take d vals ++ (v ∷ [])) ≡ walk Any any? P T (take d vals ++ (v ∷ [])))
        × ((Fitting v → ⊥) → walk (Allowed cs) (allowed? cs) P T (take d vals ++ (v ∷ [])) ≡ fail)
    judged v low high =
        rw top.its at (next_judged (Allowed cs) (allowed? cs) Q individuals functions numbered T (take d vals) v its_kind.0 top.asked (rw top.its its_kind.1) low high)

    -- values are passed over: they fail
    module _ {limit count r : ℕ} (fewer : limit < get_or F d 0) (post : SkipPost L S M A (get_or G d 0) (get_or U d 0) (get_or F d 0) limit count r) where
      passed : Lands L S (get_or St d 0) r (get_or Nx d 0 - last.lo + count) last.needs.stop
          × ((j : ℕ) → j < count → (B : List Entry) (ds : List ℕ) → onward Any any? last.needs.stop (get_or St d 0) last.needs.frames (get_or Nx d 0 - last.lo + j) B ds ≡ fail)
      passed = post.is w.K w.N w.Z Q (get_or X d 0) (get_or St d 0) last.needs.stop last.needs.frames (get_or Nx d 0 - last.lo) standing

      pub skip_fails : (j : ℕ) → j < count → walk (Allowed cs) (allowed? cs) P T (take d vals ++ ((get_or Nx d 0 + j) ∷ [])) ≡ fail
      skip_fails j h = go (allowed? cs (get_or X d 0) (value_at its_kind.0 (T ◂ none) (get_or St d 0) (get_or Nx d 0 + j)))
        where
          v : ℕ
          v = get_or Nx d 0 + j

          walked_on : asking (v ∷ []) ≡ fail
          walked_on =
              let e : get_or Nx d 0 - last.lo + j ≡ v - last.lo = omega (arith, last.low) in
              needs_onward last.needs v (omega (arith, last.low)) (omega (arith, last.high, post.few)) [] ∙ rw e at (passed.1 j h (last.needs.bound ++ (entry (taken last.needs.stop (v - last.lo)) (get_or St d 0) ∷ [])) [])

          go : Dec (Fitting v) → walk (Allowed cs) (allowed? cs) P T (take d vals ++ (v ∷ [])) ≡ fail
          go (yes a) = (judged v (omega (arith, top.low)) (omega (arith, top.high, post.few))).0 a ∙ ap over walked_on
          go (no n) = (judged v (omega (arith, top.low)) (omega (arith, top.high, post.few))).1 n

      pub skip_levels : d < length U → d < length Nx → d < length F
          → Leveled vals X St (set Nx d (get_or Nx d 0 + count)) (set F d (get_or F d 0 - count)) (suc d)
          × Paused R A vals G X St (set U d r) (set Nx d (get_or Nx d 0 + count)) (set F d (get_or F d 0 - count)) (suc d)
      unfolding last
      skip_levels ul nl fl =
          let e : get_or Nx d 0 - last.lo + count ≡ get_or Nx d 0 + count - last.lo = omega (arith, last.low) in (
            levels_skip (Allowed cs) (allowed? cs) numbered T count lv (omega (arith, post.few)) nl fl,
            pauses_skip ps count (omega (arith, post.few)) ul nl fl (subst (λ (i : ℕ). Lands L S (get_or St d 0) r i last.needs.stop) e passed.0),
          )

    -- the level goes on to the value v, with which the walk goes on at the row u
    pub jump_levels : {u v : ℕ} → get_or Nx d 0 ≤ v → v < get_or Nx d 0 + get_or F d 0 → LandingPost S M (get_or G d 0) (get_or St d 0) v u → d < length U → d < length Nx → d < length F
        → Leveled vals X St (set Nx d v) (set F d (get_or F d 0 - (v - get_or Nx d 0))) (suc d)
        × Paused R A vals G X St (set U d u) (set Nx d v) (set F d (get_or F d 0 - (v - get_or Nx d 0))) (suc d)
    unfolding last
    jump_levels {u} {v} low high landing ul nl fl =
        let n = last.needs in
        let k = v - get_or Nx d 0 in
        let z : get_or Nx d 0 + k ≡ v = omega arith in
        let lands = landing.is L A w.K w.N w.Z Q (get_or X d 0) n.stop n.frames stopped (omega (arith, n.low, last.low)) (omega (arith, n.high, last.high)) in
        let e : v - least n.stop (get_or St d 0) ≡ get_or Nx d 0 + k - last.lo = omega (arith, n.low) in
        let lv' = levels_skip (Allowed cs) (allowed? cs) numbered T k lv (omega arith) nl fl in
        let ps' = pauses_skip ps k (omega arith) ul nl fl (subst (λ (i : ℕ). Lands L S (get_or St d 0) u i n.stop) e lands) in
        (rw z at lv', rw z at ps')

    -- what a try asks
    pub try_kind : (k : Kind) × (look Q (get_or X d 0) ≡ old k) × Fits k (T ◂ none) (get_or St d 0) (get_or Nx d 0)
    try_kind =
        let k = its_kind in
        (k.0, k.1, next_fits (Allowed cs) (allowed? cs) Q individuals functions numbered T (take d vals) (get_or Nx d 0) k.0 top.asked (rw top.its k.1) top.low (omega (arith, top.high)))

    taking : length R ≡ 32 → TakeAsked L S M R A (get_or G d 0) (get_or X d 0) (get_or St d 0) (get_or U d 0) (get_or Nx d 0) w.K w.N w.Z Q asking last.lo last.hi
    taking long =
        let t = last in
        record { packed = w.packed; long = long; marks = ps.marks; needs = t.needs; low = t.low; high = omega (arith, t.high); lands = t.lands live }

    pub try_taken : length R ≡ 32 → (f : List ℕ → Res) × (lo : ℕ) × (hi : ℕ) × TakeAsked L S M R A (get_or G d 0) (get_or X d 0) (get_or St d 0) (get_or U d 0) (get_or Nx d 0) w.K w.N w.Z Q f lo hi
    try_taken long = (asking, last.lo, last.hi, taking long)

    -- what a try comes to: the walk's answer on one choice more, the levels after it, and where the last level's value stands
    pub try_answered : {o : Result ℕ Halt} {R' A' : List ℕ} {r : ℕ} → length R ≡ 32 → d < length U → d < length Nx → d < length F
        → FurtherPost S M (get_or G d 0) (get_or U d 0) (get_or F d 0 - 1) r
        → AttemptPost L S M tables R A (get_or G d 0) (get_or X d 0) (get_or St d 0) (get_or U d 0) (get_or Nx d 0) o R' A'
        → Answers R' o (walk (Allowed cs) (allowed? cs) P T (take (suc d) (set vals d (get_or Nx d 0))))
        × Leveled (set vals d (get_or Nx d 0)) X St (set Nx d (get_or Nx d 0 + 1)) (set F d (get_or F d 0 - 1)) (suc d)
        × Paused R' A' (set vals d (get_or Nx d 0)) G X St (set U d r) (set Nx d (get_or Nx d 0 + 1)) (set F d (get_or F d 0 - 1)) (suc d)
        × Before L S A' (get_or G d 0) (get_or U d 0) (get_or F d 0 - 1) w.K w.N w.Z Q
        × ((p x s : ℕ) → o ≡ Err (halt.Need (stop_at p x s)) → Asks R' A' (set vals d (get_or Nx d 0)) G (suc d) p x s)
    unfolding its_kind try_kind
    try_answered {o} {R'} {A'} {r} long ul nl fl further post = (answered.0, after, paused, before, answered.1)
      where
        v : ℕ
        v = get_or Nx d 0

        is : ((Fitting v → ⊥) → o ≡ (Err halt.Fail))
            × (Fitting v → (m : ℕ) × Agree L S R' A' w.K w.N w.Z Q (get_or G d 0 + 1) m [] (λ ds. asking (v ∷ ds)) o)
            × Unchanged (get_or X d 0 + get_or X d 0) R R' × Unchanged (get_or G d 0 + 1) A A'
        is = post.is T P Q es cs its_kind.0 asking last.lo last.hi w its_kind.1 try_kind.2 (taking long)

        chosen : take (suc d) (set vals d v) ≡ take d vals ++ (v ∷ [])
        chosen = take-suc-set vals d v (omega (arith, lv.long))

        kinded : get_or M (6 * get_or G d 0) 0 ≡ get_or w.K (get_or G d 0) 0
        kinded = w.packed.kinds (get_or G d 0) (at_row stopped)

        after : Leveled (set vals d v) X St (set Nx d (v + 1)) (set F d (get_or F d 0 - 1)) (suc d)
        after = levels_next (Allowed cs) (allowed? cs) numbered T lv live nl fl

        paused : Paused R' A' (set vals d v) G X St (set U d r) (set Nx d (v + 1)) (set F d (get_or F d 0 - 1)) (suc d)
        paused =
            pauses_next (pauses_kept ps v (λ k l. variables_rise (Allowed cs) (allowed? cs) numbered T lv k d l (omega arith)) is.2 is.3) live ul nl fl
            (λ h e. further.terms h (kinded ∙ e)) (λ h n. further.hole h (λ e. n (sym kinded ∙ e)))

        before : Before L S A' (get_or G d 0) (get_or U d 0) (get_or F d 0 - 1) w.K w.N w.Z Q
        before =
            let l : get_or G d 0 < get_or G d 0 + 1 = omega arith in
            record {
              x = get_or X d 0;
              s = get_or St d 0;
              stop = last.needs.stop;
              frames = last.needs.frames;
              above = v - last.lo;
              stands = stands_kept l is.3 last.needs.stands;
              lands = last.lands live;
              left_over = omega (arith, all);
            }

        behind : {p : ℕ} (k : ℕ) → k < suc d → get_or G d 0 + 1 ≤ p → Dec (k ≡ d) → get_or G k 0 < p
        behind k l h (yes e) = rw e (omega arith)
        behind k l h (no m) = omega (arith, ps.rise k d (omega arith) (omega arith))

        answered : Answers R' o (walk (Allowed cs) (allowed? cs) P T (take (suc d) (set vals d v)))
            × ((p x s : ℕ) → o ≡ Err (halt.Need (stop_at p x s)) → Asks R' A' (set vals d v) G (suc d) p x s)
        answered = go (allowed? cs (get_or X d 0) (value_at its_kind.0 (T ◂ none) (get_or St d 0) v))
          where
            go : Dec (Fitting v) → Answers R' o (walk (Allowed cs) (allowed? cs) P T (take (suc d) (set vals d v)))
                × ((p x s : ℕ) → o ≡ Err (halt.Need (stop_at p x s)) → Asks R' A' (set vals d v) G (suc d) p x s)
            go (no n) =
                let h = is.0 n in
                let j = (judged v top.low (omega (arith, top.high))).1 n in
                (subst (λ (o : Result ℕ Halt). Answers R' o (walk (Allowed cs) (allowed? cs) P T (take (suc d) (set vals d v)))) (sym h) (rw (chosen, j) fails), λ p x s e. absurd (cc))
            go (yes a) =
                let h = is.1 a in
                let j = (judged v top.low (omega (arith, top.high))).0 a in (
                  rw (chosen, j) (answers h.1),
                  λ p x s e.
                      let n = need_agree (subst (λ (o : Result ℕ Halt). Agree L S R' A' w.K w.N w.Z Q (get_or G d 0 + 1) h.0 [] (λ ds. asking (v ∷ ds)) o) e h.1) in
                      record {
                        later = λ k l. behind k l n.0 (ℕ_discrete k d);
                        lo = n.1;
                        hi = n.2;
                        needs = needs_same (λ ds. ap (λ (c : List ℕ). walk_t Any any? P T 0 [] (c ++ ds)) chosen ∙ ap (walk_t Any any? P T 0 []) (append_assoc (take d vals) (v ∷ []) ds)) n.3;
                        bound = n.3.bound;
                        asked = rw (chosen, j) (ap over n.3.asks);
                        its = count_bound n.3.state;
                      },
                )

    -- the row of the next value
    pub further_asked : FurtherPre S M (get_or G d 0) (get_or U d 0) (get_or F d 0 - 1)
    further_asked =
        let t = last in
        record {
          room = (at_room stopped).1;
          small = lands_small t.needs.state.small t.needs.stands (t.lands live);
          inside = λ h e.
              lands_inside t.needs.stands (t.lands live) (omega (arith, t.low, t.high, t.needs.low, t.needs.high)) (sym (w.packed.kinds (get_or G d 0) (at_row stopped)) ∙ e);
        }
