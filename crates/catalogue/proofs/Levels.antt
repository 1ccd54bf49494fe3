-- The levels of the search: each has asked for a variable and goes through its values.
use Prim.Native.Nat.{ℕ, suc, ◌+◌, ◌-◌, ◌<◌, ◌≤◌}
use mathlib.Core.Path.{◌≡◌, refl, ap, ◌∙◌, sym}
use mathlib.Core.List.{List, [], ◌∷◌, ◌++◌}
use lib.ListN.{length, take, get_or, set, length-set}
use lib.Seq.{get_or-set_same, get_or-set_other, take_at, take-set-le, length-take-le}
use native.Mathlib.Omega.{arith}
use native.Mathlib.Decide.{dec_lt}
use Rattle.meaning.specs.Forest.{Term}
use Rattle.meaning.specs.Pattern.{Pattern, Kind, an_individual, a_sequence, a_function, a_context, old, look, Numbered}
use Rattle.meaning.specs.Matcher.{Value, kinds}
use Rattle.meaning.specs.Record.{Entry}
use Rattle.meaning.specs.Read.{values}
use Rattle.meaning.specs.Order.{choices}
use Rattle.meaning.specs.Reached.{Begins}
use Rattle.meaning.proofs.Walk.{need, walk}
use Rattle.meaning.proofs.Steps.{kinds_length, values_length}
use Rattle.meaning.proofs.Asked.{asked_reached, asked_picked}
use Rattle.meaning.proofs.Tame.{weight, count, asked_next, picked_many}
use Rattle.catalogue.proofs.Given.{Chosen, count_less, choices_at}

chosen : (k : Kind) → weight k ≡ 1 → Chosen k
chosen an_individual h = absurd (omega arith)
chosen a_sequence h = tt
chosen a_function h = absurd (omega arith)
chosen a_context h = tt

-- what a list begins with is what is taken of it
begun : {A : Type 0} (b l : List A) → Begins b l → b ≡ take (length b) l
begun b l p = rw p.is (sym (take_at b p.rest (length b) refl))

-- two ways to cut a list at one place
same_cut : (a b c d : List ℕ) → a ++ c ≡ b ++ d → length a ≡ length b → c ≡ d
same_cut [] [] c d e l = e
same_cut [] (y ∷ b) c d e l = absurd (omega arith)
same_cut (x ∷ a) [] c d e l = absurd (omega arith)
same_cut (x ∷ a) (y ∷ b) c d e l = same_cut a b c d (let z : a ++ c ≡ b ++ d = cc in z) (omega arith)

module _ (Allowed : ℕ → Value → Type 0) (allowed? : (x : ℕ) (v : Value) → Dec (Allowed x v)) {Q : List Kind} {P : Pattern} (g : Numbered P Q) (T : Term) where
  -- after the choices cs the walk asks for the variable x, which starts at s; the values n, n + 1, .., m of them, are still to be tried
  pub record Level (cs : List ℕ) (x s n m : ℕ) : Type 0 where
    pub bound : List Entry
    pub lo : ℕ
    pub hi : ℕ
    pub asked : walk Allowed allowed? P T cs ≡ need bound s lo hi
    pub its : length (values bound) ≡ x
    pub low : lo ≤ n
    pub high : n + m ≡ suc hi

  module _ {cs : List ℕ} {x s n m : ℕ} (v : Level cs x s n m) where
    -- the variable is a sequence or context variable
    pub level_kind : (k : Kind) × (look Q x ≡ old k) × Chosen k
    level_kind =
        let w = asked_next Allowed allowed? T cs g v.asked in
        (w.its, rw v.its at w.stands, chosen w.its w.choice)

    kinds_are : kinds (values v.bound) ≡ take x Q
    kinds_are =
        let b = begun (kinds (values v.bound)) Q (asked_reached Allowed allowed? g v.asked).0.right in
        rw (kinds_length (values v.bound), v.its) at b

    -- as many choices were made as there are such variables before it
    pub level_count : length cs ≡ count (take x Q)
    level_count = ap length (asked_picked Allowed allowed? T g v.asked) ∙ picked_many v.bound ∙ ap count kinds_are

    -- among the choices of a record the next one is the variable's own
    pub level_choice : (list rs : List ℕ) → length list ≡ length Q + length Q → choices Q list ≡ cs ++ rs → (c : List ℕ) × (rs ≡ get_or list (x + x + 1) 0 ∷ c)
    level_choice list rs l e =
        let k = level_kind in
        let c = choices_at Q list x k.0 k.1 k.2 l in
        (c.behind, same_cut cs c.before rs _ (sym e ∙ c.is) (level_count ∙ sym c.many))

  -- the levels below depth
  pub record Levels (vals variables starts nexts lefts : List ℕ) (depth : ℕ) : Type 0 where
    pub long : depth ≤ length vals
    pub each : (k : ℕ) → k < depth → Level (take k vals) (get_or variables k 0) (get_or starts k 0) (get_or nexts k 0) (get_or lefts k 0)

  module _ {vals variables starts nexts lefts : List ℕ} where
    -- deeper levels look further to the right
    pub variables_rise : {depth : ℕ} → Levels vals variables starts nexts lefts depth → (j k : ℕ) → j ≤ k → k < depth → get_or variables j 0 ≤ get_or variables k 0
    variables_rise v j k h l = go (dec_lt (get_or variables k 0) (get_or variables j 0)) (dec_lt j k)
      where
        a : length (take j vals) ≡ count (take (get_or variables j 0) Q)
        a = level_count (v.each j (omega arith))

        b : length (take k vals) ≡ count (take (get_or variables k 0) Q)
        b = level_count (v.each k l)

        go : Dec (get_or variables k 0 < get_or variables j 0) → Dec (j < k) → get_or variables j 0 ≤ get_or variables k 0
        go (no n) d = omega arith
        go (yes y) (yes d) =
            absurd (omega (arith, a, b, count_less Q (get_or variables k 0) (get_or variables j 0) (omega arith), length-take-le j vals (omega (arith, v.long)), length-take-le k vals (omega (arith, v.long))))
        go (yes y) (no d) = let e : j ≡ k = omega arith in rw e (omega arith)

    pub levels_back : {depth d : ℕ} → d ≤ depth → Levels vals variables starts nexts lefts depth → Levels vals variables starts nexts lefts d
    levels_back h v = record { long = omega (arith, v.long); each = λ k l. v.each k (omega arith) }

    -- the last level takes its next value
    pub levels_next : {d : ℕ} → Levels vals variables starts nexts lefts (suc d) → 0 < get_or lefts d 0 → d < length nexts → d < length lefts
        → Levels (set vals d (get_or nexts d 0)) variables starts (set nexts d (get_or nexts d 0 + 1)) (set lefts d (get_or lefts d 0 - 1)) (suc d)
    levels_next {d} v live hn hl =
        record {
          long = rw (length-set vals d (get_or nexts d 0)) v.long;
          each = λ k l. each k l (dec_lt k d);
        }
      where
        same : (k : ℕ) → k < suc d → take k (set vals d (get_or nexts d 0)) ≡ take k vals
        same k l = take-set-le k vals d (get_or nexts d 0) (omega arith)

        each : (k : ℕ) → k < suc d → Dec (k < d)
            → Level (take k (set vals d (get_or nexts d 0))) (get_or variables k 0) (get_or starts k 0) (get_or (set nexts d (get_or nexts d 0 + 1)) k 0) (get_or (set lefts d (get_or lefts d 0 - 1)) k 0)
        each k l (yes h) =
            let z : k ≡ d → ⊥ = λ e. omega arith in
            rw (same k l, get_or-set_other nexts d k (get_or nexts d 0 + 1) 0 z, get_or-set_other lefts d k (get_or lefts d 0 - 1) 0 z) (v.each k l)
        each k l (no h) =
            let e : k ≡ d = omega arith in
            let w = v.each d (omega arith) in
            rw (e, take-set-le d vals d (get_or nexts d 0) (omega arith), get_or-set_same nexts d (get_or nexts d 0 + 1) 0 hn, get_or-set_same lefts d (get_or lefts d 0 - 1) 0 hl)
            (record { bound = w.bound; lo = w.lo; hi = w.hi; asked = w.asked; its = w.its; low = omega (arith, w.low); high = omega (arith, w.high) })

    -- the last level's next values are passed over
    pub levels_skip : {d : ℕ} (k : ℕ) → Levels vals variables starts nexts lefts (suc d) → k ≤ get_or lefts d 0 → d < length nexts → d < length lefts
        → Levels vals variables starts (set nexts d (get_or nexts d 0 + k)) (set lefts d (get_or lefts d 0 - k)) (suc d)
    levels_skip {d} j v live hn hl = record { long = v.long; each = λ k l. each k l (dec_lt k d) }
      where
        each : (k : ℕ) → k < suc d → Dec (k < d)
            → Level (take k vals) (get_or variables k 0) (get_or starts k 0) (get_or (set nexts d (get_or nexts d 0 + j)) k 0) (get_or (set lefts d (get_or lefts d 0 - j)) k 0)
        each k l (yes h) =
            let z : k ≡ d → ⊥ = λ e. omega arith in
            rw (get_or-set_other nexts d k (get_or nexts d 0 + j) 0 z, get_or-set_other lefts d k (get_or lefts d 0 - j) 0 z) (v.each k l)
        each k l (no h) =
            let e : k ≡ d = omega arith in
            let w = v.each d (omega arith) in
            rw (e, get_or-set_same nexts d (get_or nexts d 0 + j) 0 hn, get_or-set_same lefts d (get_or lefts d 0 - j) 0 hl)
            (record { bound = w.bound; lo = w.lo; hi = w.hi; asked = w.asked; its = w.its; low = omega (arith, w.low); high = omega (arith, w.high) })

    -- one level more
    pub levels_need : {depth : ℕ} {B : List Entry} {t lo hi : ℕ} → Levels vals variables starts nexts lefts depth → depth < length vals
        → depth < length variables → depth < length starts → depth < length nexts → depth < length lefts
        → walk Allowed allowed? P T (take depth vals) ≡ need B t lo hi → lo ≤ hi
        → Levels vals (set variables depth (length B)) (set starts depth t) (set nexts depth lo) (set lefts depth (suc hi - lo)) (suc depth)
    levels_need {depth} {B} {t} {lo} {hi} v hc hv hs hn hl e h =
        record { long = hc; each = λ k l. each k l (dec_lt k depth) }
      where
        top : Level (take depth vals) (length B) t lo (suc hi - lo)
        top = record { bound = B; lo = lo; hi = hi; asked = e; its = values_length B; low = omega arith; high = omega arith }

        each : (k : ℕ) → k < suc depth → Dec (k < depth)
            → Level (take k vals) (get_or (set variables depth (length B)) k 0) (get_or (set starts depth t) k 0) (get_or (set nexts depth lo) k 0) (get_or (set lefts depth (suc hi - lo)) k 0)
        each k l (yes d) =
            let z : k ≡ depth → ⊥ = λ o. omega arith in
            rw (get_or-set_other variables depth k (length B) 0 z, get_or-set_other starts depth k t 0 z, get_or-set_other nexts depth k lo 0 z, get_or-set_other lefts depth k (suc hi - lo) 0 z) (v.each k d)
        each k l (no d) =
            let o : k ≡ depth = omega arith in
            rw (o, get_or-set_same variables depth (length B) 0 hv, get_or-set_same starts depth t 0 hs, get_or-set_same nexts depth lo 0 hn, get_or-set_same lefts depth (suc hi - lo) 0 hl) top
