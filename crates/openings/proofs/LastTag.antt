-- Walking back over what was accepted meets the innermost open start tag: what a tag has done is seen from its bytes.
use mathlib.Core.Path.{◌≡◌, refl, sym, ap, ◌∙◌}
use mathlib.Core.Bool.{Bool, true, false, cond, true≢false}
use mathlib.Core.List.{List, [], ◌∷◌}
use Prim.Native.Nat.{ℕ, zero, suc, ◌+◌, ◌-◌, ◌≤◌, ◌<◌}
use native.Mathlib.Omega.{arith}
use native.Mathlib.Numerals.{add-one}
use native.Mathlib.Decide.{ℕ_discrete}
use lib.Dec.{eqb, ltb}
use lib.ListN.{length, get_or, take}
use lib.Seq.{take-suc}
use borrow.Author.Tests.{eqb-true, ltb-true, ltb-false}
use Rattle.grammar.specs.Classes.{white, name_start, name_byte, class_number}
use Rattle.grammar.specs.Grammar.{Bytes, ε, ◌▸◌, ◌⊲◌, Content, nothing, empty_element}
use Rattle.grammar.specs.Tokens.{Reads, name_token, may_open}
use Rattle.grammar.specs.Machine.{may_follow, Open, State, dead, in_run, after_less, in_name, in_space, after_slash, in_end_name, in_end_space, level, end_tag_state, tag, tail, step, runs, initial, At}
use Rattle.grammar.proofs.Theory.{GoodS, Live, by_cond, live_step, runs_append}
use Rattle.grammar.proofs.Positions.{at_good}
use Rattle.openings.specs.OpenNames.{opened, OpenAt, SomeOpen, LastMarkup, TagBefore, starts, empty, ends}
use Rattle.openings.specs.declared.back.Back.TheVariants.{Start, Empty, End}
use Rattle.tokens.proofs.Spans.{name_yes}

-- what may begin a name may stand in it
pub start_name : (b : ℕ) → name_start b ≡ true → name_byte b ≡ true
unfolding name_start
start_name b h = name_yes (class_number b) b refl (omega (arith, eqb-true (class_number b) 5 h))

-- ONE STEP
pub next_is : (w : List ℕ) (j : ℕ) (z : State) → runs initial (take j w) ≡ z → j < length w → runs initial (take (suc j) w) ≡ step z (get_or w j 0)
next_is w j z e h =
    rw (take-suc w j 0 h, runs_append initial (take j w) (get_or w j 0 ∷ [])) (ap (λ (s : State). step s (get_or w j 0)) e)

-- THE STATE AT A PLACE
abbrev state_at : List ℕ → ℕ → State
state_at w j = runs initial (take j w)

here : (w : List ℕ) (j : ℕ) → j ≤ length w → At w j (state_at w j)
here w j h = record { within = h; is = refl }

goes : (w : List ℕ) (j : ℕ) → j < length w → state_at w (suc j) ≡ step (state_at w j) (get_or w j 0)
goes w j h = next_is w j (state_at w j) refl h

-- what lives at a place has lived before
lived : (w : List ℕ) (j d : ℕ) → j + d ≤ length w → Live (state_at w (j + d)) → Live (state_at w j)
lived w j zero h l = let z : j + 0 ≡ j = omega arith in rw z at l
lived w j (suc d) h l =
    let z : j + suc d ≡ suc (j + d) = omega arith in
    lived w j d (omega arith) (live_step (state_at w (j + d)) (get_or w (j + d) 0 ∷ []) (rw (← (goes w (j + d) (omega arith)), ← z) l))

-- many steps that each keep a property P of the place and its state, as long as the machine lives
steps : (w : List ℕ) (P : ℕ → State → Type 0) (j d : ℕ) → j + d ≤ length w → Live (state_at w (j + d)) →
    ((k : ℕ) → j ≤ k → k < j + d → P k (state_at w k) → Live (step (state_at w k) (get_or w k 0)) → P (suc k) (step (state_at w k) (get_or w k 0))) →
    P j (state_at w j) → P (j + d) (state_at w (j + d))
steps w P j zero h l each p = let z : j + 0 ≡ j = omega arith in rw z p
steps w P j (suc d) h l each p =
    let z : j + suc d ≡ suc (j + d) = omega arith in
    let g : state_at w (suc (j + d)) ≡ step (state_at w (j + d)) (get_or w (j + d) 0) = goes w (j + d) (omega arith) in
    let l₁ : Live (step (state_at w (j + d)) (get_or w (j + d) 0)) = rw (← g, ← z) l in
    let q : P (j + d) (state_at w (j + d)) = steps w P j d (omega arith) (live_step (state_at w (j + d)) (get_or w (j + d) 0 ∷ []) l₁) (λ k u v. each k u (omega arith)) p in
    rw (z, g) (each (j + d) (omega arith) (omega arith) q l₁)

-- IN A RUN
data StillRun (o : List Open) : State → Type 0 where
  in_run_lem : {f : Content} {t : Bytes} → StillRun o (in_run o f t)

run_on : {o : List Open} {z : State} (b : ℕ) → (b ≡ 60 → ⊥) → StillRun o z → Live (step z b) → StillRun o (step z b)
run_on {o} b n (in_run_lem {f} {t}) =
    by_cond (λ (s : State). Live s → StillRun o s) (eqb b 60)
    (λ e. absurd (n (eqb-true b 60 e)))
    (λ e. by_cond (λ (s : State). Live s → StillRun o s) (may_follow (level o) t b) (λ m l. in_run_lem) (λ m l. absurd l))

-- IN A START TAG, the last byte read being b
data InStart (o : List Open) (f : Content) (t : Bytes) (b : ℕ) : State → Type 0 where
  name : {n : Bytes} → (b ≡ 47 → ⊥) → InStart o f t b (in_name o f t n)
  space : {n g : Bytes} → (b ≡ 47 → ⊥) → InStart o f t b (in_space o f t n g)
  slash : {n g : Bytes} → b ≡ 47 → InStart o f t b (after_slash o f t n g)

name_differs : (b c : ℕ) → name_byte b ≡ true → name_byte c ≡ false → b ≡ c → ⊥
name_differs b c h k e = true≢false (sym h ∙ ap name_byte e ∙ k)

white_differs : (b c : ℕ) → white b ≡ true → white c ≡ false → b ≡ c → ⊥
white_differs b c h k e = true≢false (sym h ∙ ap white e ∙ k)

tag_on : (o : List Open) (f : Content) (t n g : Bytes) (b : ℕ) → (b ≡ 62 → ⊥) → Live (tag o f t n g b) → InStart o f t b (tag o f t n g b)
unfolding white class_number
tag_on o f t n g b no_shut =
    by_cond (λ (s : State). Live s → InStart o f t b s) (white b)
    (λ e l. space (white_differs b 47 e refl))
    (λ e. by_cond (λ (s : State). Live s → InStart o f t b s) (eqb b 62)
    (λ q. absurd (no_shut (eqb-true b 62 q)))
    (λ q. by_cond (λ (s : State). Live s → InStart o f t b s) (eqb b 47) (λ r l. slash (eqb-true b 47 r)) (λ r l. absurd l)))

start_on : {o : List Open} {f : Content} {t : Bytes} {a : ℕ} {z : State} (b : ℕ) → (b ≡ 62 → ⊥) → InStart o f t a z → Live (step z b) → InStart o f t b (step z b)
unfolding name_byte class_number
start_on {o} {f} {t} b no_shut (name {n} h) =
    by_cond (λ (s : State). Live s → InStart o f t b s) (name_byte b)
    (λ e l. name (name_differs b 47 e refl))
    (λ e. tag_on o f t n ε b no_shut)
start_on {o} {f} {t} b no_shut (space {n} {g} h) = tag_on o f t n g b no_shut
start_on {o} {f} {t} b no_shut (slash {n} {g} h) =
    by_cond (λ (s : State). Live s → InStart o f t b s) (eqb b 62) (λ q. absurd (no_shut (eqb-true b 62 q))) (λ q l. absurd l)

-- .. and at its >
data StartDone (o : List Open) (f : Content) (t : Bytes) (b : ℕ) : State → Type 0 where
  leaves_open : {n g : Bytes} → (b ≡ 47 → ⊥) → StartDone o f t b (in_run (opened f t n g ∷ o) nothing ε)
  is_empty : {n g : Bytes} → b ≡ 47 → StartDone o f t b (in_run o (empty_element f t n g) ε)

start_done : {o : List Open} {f : Content} {t : Bytes} {b : ℕ} {z : State} → InStart o f t b z → StartDone o f t b (step z 62)
unfolding name_byte white class_number
start_done (name h) = leaves_open h
start_done (space h) = leaves_open h
start_done (slash h) = is_empty h

-- IN AN END TAG of an element that o hold
data InEnd (o : List Open) : State → Type 0 where
  end_name : {p : Open} {f : Content} {t m : Bytes} (r : List ℕ) → InEnd o (in_end_name p o f t m r)
  end_space : {p : Open} {f : Content} {t h : Bytes} → InEnd o (in_end_space p o f t h)

tail_on : (p : Open) (o : List Open) (f : Content) (t h : Bytes) (b : ℕ) → (b ≡ 62 → ⊥) → Live (tail p o f t h b) → InEnd o (tail p o f t h b)
tail_on p o f t h b no_shut =
    by_cond (λ (s : State). Live s → InEnd o s) (white b)
    (λ e l. end_space)
    (λ e. by_cond (λ (s : State). Live s → InEnd o s) (eqb b 62) (λ q. absurd (no_shut (eqb-true b 62 q))) (λ q l. absurd l))

end_on : {o : List Open} {z : State} (b : ℕ) → (b ≡ 62 → ⊥) → InEnd o z → Live (step z b) → InEnd o (step z b)
end_on {o} b no_shut (end_name {p} {f} {t} {m} []) = tail_on p o f t ε b no_shut
end_on {o} b no_shut (end_name {p} {f} {t} {m} (r ∷ rs)) =
    by_cond (λ (s : State). Live s → InEnd o s) (eqb b r) (λ q l. end_name rs) (λ q l. absurd l)
end_on {o} b no_shut (end_space {p} {f} {t} {h}) = tail_on p o f t h b no_shut

-- a name has name bytes only
abbrev NameBytes : List ℕ → Type 0
NameBytes [] = Unit {0}
NameBytes (b ∷ v) = (name_byte b ≡ true) × NameBytes v

name_all : (n : Bytes) (v : List ℕ) → Reads name_token n → NameBytes v → NameBytes (n ⊲ v)
name_all ε v h k = k
name_all (ε ▸ b) v h k = (start_name b h.1, k)
name_all (s ▸ a ▸ b) v h k = name_all (s ▸ a) (b ∷ v) h.0 (h.1, k)

name_rest : (m : Bytes) (v : List ℕ) → NameBytes (m ⊲ v) → NameBytes v
name_rest ε v h = h
name_rest (m ▸ b) v h = (name_rest m (b ∷ v) h).1

-- .. so that what is still to come of an end tag's name has no < and no >
to_come : (p : Open) (o : List Open) (f : Content) (t m : Bytes) (r : List ℕ) → GoodS (in_end_name p o f t m r) → NameBytes r
to_come p o f t m r h = name_rest m r (rw h.3 (name_all p.name [] h.0.1.3.0 tt))

-- at its >
end_done : {o : List Open} {z : State} → InEnd o z → GoodS z → Live (step z 62) → StillRun o (step z 62)
unfolding name_byte white class_number
end_done (end_name []) g l = in_run_lem
end_done {o} (end_name {p} {f} {t} {m} (r ∷ rs)) g l =
    by_cond (λ (s : State). Live s → StillRun o s) (eqb 62 r)
    (λ e. absurd (name_differs r 62 (to_come p o f t m (r ∷ rs) g).0 refl (sym (eqb-true 62 r e))))
    (λ e k. absurd k) l
end_done end_space g l = in_run_lem

-- WHERE A < IS READ the machine is in a run
data SomeRun (z : State) : Type 0 where
  run : (o : List Open) (f : Content) (t : Bytes) → z ≡ in_run o f t → SomeRun z

in_run_there : (z : State) → GoodS z → Live (step z 60) → SomeRun z
unfolding name_start name_byte white class_number
in_run_there dead g l = absurd l
in_run_there (in_run o f t) g l = run o f t refl
in_run_there (after_less o f t) g l = absurd l
in_run_there (in_name o f t n) g l = absurd l
in_run_there (in_space o f t n h) g l = absurd l
in_run_there (after_slash o f t n h) g l = absurd l
in_run_there (in_end_name p o f t m []) g l = absurd l
in_run_there (in_end_name p o f t m (r ∷ rs)) g l =
    by_cond (λ (s : State). Live s → SomeRun (in_end_name p o f t m (r ∷ rs))) (eqb 60 r)
    (λ e. absurd (name_differs r 60 (to_come p o f t m (r ∷ rs) g).0 refl (sym (eqb-true 60 r e))))
    (λ e k. absurd k) l
in_run_there (in_end_space p o f t h) g l = absurd l

-- WHAT THE LAST TAG DID: its < stands at p and its > at s, and text follows up to q, where the elements o are open
data LastDid (w : List ℕ) (p s : ℕ) : List Open → Type 0 where
  did_end : {o : List Open} (x : Open) (f : Content) (t : Bytes) → At w p (in_run (x ∷ o) f t) → get_or w (p + 1) 0 ≡ 47 → LastDid w p s o
  did_empty : {o : List Open} (f : Content) (t : Bytes) → At w p (in_run o f t) → (get_or w (p + 1) 0 ≡ 47 → ⊥) → get_or w (s - 1) 0 ≡ 47 → LastDid w p s o
  did_start : {o : List Open} (f : Content) (t n g : Bytes) → At w p (in_run o f t) → (get_or w (p + 1) 0 ≡ 47 → ⊥) → (get_or w (s - 1) 0 ≡ 47 → ⊥) →
      LastDid w p s (opened f t n g ∷ o)

-- behind its <, in the run f t of o: nothing more is read; or it is in a start tag; or in an end tag
data InTag (w : List ℕ) (p j : ℕ) (o : List Open) (f : Content) (t : Bytes) : State → Type 0 where
  less : j ≡ p + 1 → InTag w p j o f t (after_less o f t)
  start : {z : State} → p + 1 < j → (get_or w (p + 1) 0 ≡ 47 → ⊥) → InStart o f t (get_or w (j - 1) 0) z → InTag w p j o f t z
  end : {z : State} (x : Open) (r : List Open) → p + 1 < j → get_or w (p + 1) 0 ≡ 47 → o ≡ x ∷ r → InEnd r z → InTag w p j o f t z

first_on : (w : List ℕ) (p : ℕ) (o : List Open) (f : Content) (t : Bytes) → (get_or w (p + 1) 0 ≡ 62 → ⊥) → Live (step (after_less o f t) (get_or w (p + 1) 0)) →
    InTag w p (suc (p + 1)) o f t (step (after_less o f t) (get_or w (p + 1) 0))
unfolding name_byte class_number
first_on w p o f t no_shut =
    by_cond (λ (s : State). Live s → InTag w p (suc (p + 1)) o f t s) (name_start (get_or w (p + 1) 0))
    (λ e l. let n : get_or w (p + 1) 0 ≡ 47 → ⊥ = name_differs (get_or w (p + 1) 0) 47 (start_name (get_or w (p + 1) 0) e) refl in start (omega arith) n (name (rw back n)))
    (λ e. by_cond (λ (s : State). Live s → InTag w p (suc (p + 1)) o f t s) (eqb (get_or w (p + 1) 0) 47)
    (λ q. ends o (eqb-true (get_or w (p + 1) 0) 47 q))
    (λ q l. absurd l))
  where
    back : suc (p + 1) - 1 ≡ p + 1
    back = omega arith

    ends : (o : List Open) → get_or w (p + 1) 0 ≡ 47 → Live (end_tag_state o f t) → InTag w p (suc (p + 1)) o f t (end_tag_state o f t)
    ends [] q l = absurd l
    ends (x ∷ r) q l = end x r (omega arith) q refl (end_name (x.name ⊲ []))

tag_step : (w : List ℕ) (p j : ℕ) (o : List Open) (f : Content) (t : Bytes) (z : State) → (get_or w j 0 ≡ 62 → ⊥) → InTag w p j o f t z →
    Live (step z (get_or w j 0)) → InTag w p (suc j) o f t (step z (get_or w j 0))
tag_step w p j o f t z no_shut (less e) l = rw e (first_on w p o f t (rw e at no_shut) (rw e at l))
tag_step w p j o f t z no_shut (start h n k) l =
    let back : suc j - 1 ≡ j = omega arith in
    let on : InStart o f t (get_or w (suc j - 1) 0) (step z (get_or w j 0)) = rw back (start_on (get_or w j 0) no_shut k l) in
    start (omega arith) n on
tag_step w p j o f t z no_shut (end x r h n e k) l = end x r (omega arith) n e (end_on (get_or w j 0) no_shut k l)

abbrev IsRun : State → Type 0
IsRun dead = ⊥
IsRun (in_run o f t) = Unit {0}
IsRun (after_less o f t) = ⊥
IsRun (in_name o f t n) = ⊥
IsRun (in_space o f t n g) = ⊥
IsRun (after_slash o f t n g) = ⊥
IsRun (in_end_name p o f t m r) = ⊥
IsRun (in_end_space p o f t h) = ⊥

tag_no_run : {w : List ℕ} {p j : ℕ} {o : List Open} {f : Content} {t : Bytes} (z : State) → InTag w p j o f t z → IsRun z → ⊥
tag_no_run z (less e) h = h
tag_no_run z (start k n (name i)) h = h
tag_no_run z (start k n (space i)) h = h
tag_no_run z (start k n (slash i)) h = h
tag_no_run z (end x r k n e (end_name m)) h = h
tag_no_run z (end x r k n e end_space) h = h

same_open : {x o : List Open} {f : Content} {t : Bytes} (z : State) → StillRun x z → z ≡ in_run o f t → x ≡ o
same_open z in_run_lem e = cc

-- A < at p, and text or the rest of a tag behind it up to q, where the elements O are open
module _ {w : List ℕ} {p q : ℕ} (before : p < q) (less_there : get_or w p 0 ≡ 60) (no_less : (k : ℕ) → p < k → k < q → get_or w k 0 ≡ 60 → ⊥)
    {O : List Open} {F : Content} {T : Bytes} (now : At w q (in_run O F T)) where
  alive : (j : ℕ) → j ≤ q → Live (state_at w j)
  alive j h =
      let z : j + (q - j) ≡ q = omega arith in
      lived w j (q - j) (omega (arith, now.within)) (rw (z, now.is) tt)

  good : (j : ℕ) → j ≤ q → GoodS (state_at w j)
  good j h = at_good (here w j (omega (arith, now.within))) (alive j h)

  steps_to : (j : ℕ) → j < q → state_at w (suc j) ≡ step (state_at w j) (get_or w j 0)
  steps_to j h = goes w j (omega (arith, now.within))

  at_less : SomeRun (state_at w p)
  at_less = in_run_there (state_at w p) (good p (omega arith)) (rw (← less_there, ← (steps_to p before)) (alive (suc p) before))

  module _ (o : List Open) (f : Content) (t : Bytes) (run_there : state_at w p ≡ in_run o f t) where
    behind : state_at w (p + 1) ≡ after_less o f t
    behind =
        let e : state_at w (suc p) ≡ cond (may_open (level o) f) (after_less o f t) dead = steps_to p before ∙ rw (run_there, less_there) refl in
        let l : Live (cond (may_open (level o) f) (after_less o f t) dead) = rw (← e) (alive (suc p) before) in
        rw (add-one p) (e ∙ opens (may_open (level o) f) l)
      where
        opens : (y : Bool) → Live (cond y (after_less o f t) dead) → cond y (after_less o f t) dead ≡ after_less o f t
        opens true l = refl
        opens false l = absurd l

    in_tag : (s : ℕ) → p < s → s ≤ q → ((k : ℕ) → p < k → k < s → get_or w k 0 ≡ 62 → ⊥) → InTag w p s o f t (state_at w s)
    in_tag s h k no_greater =
        let z : p + 1 + (s - (p + 1)) ≡ s = omega arith in
        rw z at (steps w (λ (j : ℕ) (x : State). InTag w p j o f t x) (p + 1) (s - (p + 1)) (omega (arith, now.within)) (rw z (alive s k))
        (λ j u v i l. tag_step w p j o f t (state_at w j) (no_greater j (omega arith) (omega arith)) i l) (rw behind (less refl)))

    -- .. so that its > stands before q
    pub shut_seen : ((k : ℕ) → p < k → k < q → get_or w k 0 ≡ 62 → ⊥) → ⊥
    shut_seen no_greater = tag_no_run (state_at w q) (in_tag q before (omega arith) no_greater) (rw now.is tt)

    module _ {s : ℕ} (after_less_sign : p < s) (before_q : s < q) (greater_there : get_or w s 0 ≡ 62) (no_greater : (k : ℕ) → p < k → k < s → get_or w k 0 ≡ 62 → ⊥) where
      shuts : state_at w (suc s) ≡ step (state_at w s) 62
      shuts = steps_to s before_q ∙ rw greater_there refl

      -- the text behind the > leaves the elements x open
      text_on : (x : List Open) → StillRun x (step (state_at w s) 62) → x ≡ O
      text_on x h =
          let z : suc s + (q - suc s) ≡ q = omega arith in
          let r : StillRun x (state_at w (suc s + (q - suc s))) =
          steps w (λ (j : ℕ) (y : State). StillRun x y) (suc s) (q - suc s) (omega (arith, now.within)) (rw z (alive q (omega arith)))
          (λ j u v i l. run_on (get_or w j 0) (no_less j (omega arith) (omega arith)) i l) (rw shuts h) in
          same_open (state_at w q) (rw z at r) now.is

      at_p : At w p (in_run o f t)
      at_p = record { within = omega (arith, now.within); is = run_there }

      did : (z : State) → InTag w p s o f t z → GoodS z → Live (step z 62) → ((x : List Open) → StillRun x (step z 62) → x ≡ O) → LastDid w p s O
      unfolding name_start class_number
      did z (less e) g l t_on = absurd l
      did z (start h n k) g l t_on = go (step z 62) (start_done k) t_on
        where
          go : (y : State) → StartDone o f t (get_or w (s - 1) 0) y → ((x : List Open) → StillRun x y → x ≡ O) → LastDid w p s O
          go y (leaves_open {n = m} {g = i} b) u = rw (← (u (opened f t m i ∷ o) in_run_lem)) (did_start f t m i at_p n b)
          go y (is_empty b) u = rw (← (u o in_run_lem)) (did_empty f t at_p n b)
      did z (end x r h n e k) g l t_on = rw (← (t_on r (end_done k g l))) (did_end x f t (rw e at at_p) n)

      last_did : LastDid w p s O
      last_did = did (state_at w s) (in_tag s after_less_sign (omega arith) no_greater) (good s (omega arith)) (rw (← shuts) (alive (suc s) before_q)) text_on

-- LOOKING FOR THE LAST MARKUP before q, from the back
pub record Scanning (w : List ℕ) (q at s : ℕ) : Type 0 where
  pub within : at ≤ q
  pub no_less : (k : ℕ) → at ≤ k → k < q → get_or w k 0 ≡ 60 → ⊥
  pub from : at ≤ s
  pub up_to : s ≤ q
  pub greater_there : s < q → get_or w s 0 ≡ 62
  pub no_greater : (k : ℕ) → at ≤ k → k < s → get_or w k 0 ≡ 62 → ⊥

pub scan_begins : (w : List ℕ) (q : ℕ) → Scanning w q q q
scan_begins w q = record {
  within = omega arith;
  no_less = λ k u v. absurd (omega arith);
  from = omega arith;
  up_to = omega arith;
  greater_there = λ u. absurd (omega arith);
  no_greater = λ k u v. absurd (omega arith);
}

module _ {w : List ℕ} {q at s : ℕ} (h : Scanning w q at s) where
  -- where an element is open, a < stands before
  pub less_before : SomeOpen w q → 0 < at
  less_before (x, o, open_there) = go at refl
    where
      now : At w q (in_run (x ∷ o) open_there.0 open_there.1)
      now = open_there.2

      go : (k : ℕ) → at ≡ k → 0 < k
      go zero e =
          let l : Live (state_at w q) = rw now.is tt in
          let z : 0 + q ≡ q = omega arith in
          let r : StillRun [] (state_at w (0 + q)) =
          steps w (λ (j : ℕ) (y : State). StillRun [] y) 0 q (omega (arith, now.within)) (rw z l)
          (λ j u v i m. run_on (get_or w j 0) (h.no_less j (omega arith) (omega arith)) i m) in_run_lem in
          absurd (none (same_open (state_at w q) (rw z at r) now.is))
        where
          none : ◌≡◌ {A = List Open} [] (x ∷ o) → ⊥
          none e = absurd (omega (arith, ap length e))
      go (suc k) e = omega arith

  pub scan_found : 0 < at → get_or w (at - 1) 0 ≡ 60 → LastMarkup w q (at - 1) s
  scan_found p e = record {
    before = omega (arith, h.within);
    less_there = e;
    no_less = λ k u. h.no_less k (omega arith);
    behind = omega (arith, h.from);
    up_to = h.up_to;
    greater_there = h.greater_there;
    no_greater = λ k u. h.no_greater k (omega arith);
  }

  pub scan_more : 0 < at → (get_or w (at - 1) 0 ≡ 60 → ⊥) → (s' : ℕ) → (get_or w (at - 1) 0 ≡ 62 → s' ≡ at - 1) → ((get_or w (at - 1) 0 ≡ 62 → ⊥) → s' ≡ s) → Scanning w q (at - 1) s'
  scan_more p e s' is not = go (ℕ_discrete (get_or w (at - 1) 0) 62)
    where
      -- what holds of the place before at, and of those from at on
      one_before : (P : ℕ → Type 0) → P (at - 1) → (k : ℕ) → at - 1 ≤ k → (at ≤ k → P k) → P k
      one_before P there k u later = from_there (ltb k at) refl
        where
          from_there : (y : Bool) → ltb k at ≡ y → P k
          from_there true r = let z : k ≡ at - 1 = omega (arith, ltb-true k at r) in rw z there
          from_there false r = later (ltb-false k at r)

      none_less : (k : ℕ) → at - 1 ≤ k → k < q → get_or w k 0 ≡ 60 → ⊥
      none_less k u v = one_before (λ (j : ℕ). get_or w j 0 ≡ 60 → ⊥) e k u (λ i. h.no_less k i v)

      go : Dec (get_or w (at - 1) 0 ≡ 62) → Scanning w q (at - 1) s'
      go (yes g) = record {
        within = omega (arith, h.within);
        no_less = none_less;
        from = omega (arith, is g);
        up_to = omega (arith, is g, h.within);
        greater_there = λ u. rw (is g) g;
        no_greater = λ k u v. absurd (omega (arith, is g));
      }
      go (no g) = rw (not g) (record {
        within = omega (arith, h.within);
        no_less = none_less;
        from = omega (arith, h.from);
        up_to = h.up_to;
        greater_there = h.greater_there;
        no_greater = λ k u v. one_before (λ (j : ℕ). get_or w j 0 ≡ 62 → ⊥) g k u (λ i. h.no_greater k i v);
      })

-- WHAT THE LAST TAG DID, by the bytes that are looked at
module _ {w : List ℕ} {q p s : ℕ} (m : LastMarkup w q p s) {o : List Open} (now : OpenAt w q o) where
  last_tag : LastDid w p s o
  last_tag = go (at_less m.before m.less_there m.no_less now.2)
    where
      go : SomeRun (state_at w p) → LastDid w p s o
      go (run x f t e) = by_shut (ltb s q) refl
        where
          by_shut : (y : Bool) → ltb s q ≡ y → LastDid w p s o
          by_shut true r =
              let h : s < q = ltb-true s q r in
              last_did m.before m.less_there m.no_less now.2 x f t e m.behind h (m.greater_there h) m.no_greater
          by_shut false r =
              absurd (shut_seen m.before m.less_there m.no_less now.2 x f t e (λ k u v. m.no_greater k u (omega (arith, ltb-false s q r))))

  pub an_end : get_or w (p + 1) 0 ≡ 47 → TagBefore w q o (End p)
  an_end h = go last_tag
    where
      go : {o : List Open} → LastDid w p s o → TagBefore w q o (End p)
      go (did_end x f t a e) = ends x m.before (f, t, a)
      go (did_empty f t a n e) = absurd (n h)
      go (did_start f t i g a n e) = absurd (n h)

  module _ (no_end : get_or w (p + 1) 0 ≡ 47 → ⊥) where
    pub an_empty : get_or w (s - 1) 0 ≡ 47 → TagBefore w q o (Empty p)
    an_empty h = go last_tag
      where
        go : {o : List Open} → LastDid w p s o → TagBefore w q o (Empty p)
        go (did_end x f t a e) = absurd (no_end e)
        go (did_empty f t a n e) = empty m.before (f, t, a)
        go (did_start f t i g a n e) = absurd (e h)

    pub a_start : (get_or w (s - 1) 0 ≡ 47 → ⊥) → TagBefore w q o (Start p)
    a_start h = go last_tag
      where
        go : {o : List Open} → LastDid w p s o → TagBefore w q o (Start p)
        go (did_end x f t a e) = absurd (no_end e)
        go (did_empty f t a n e) = absurd (h e)
        go (did_start f t i g a n e) = starts m.before a
