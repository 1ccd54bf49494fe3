-- The walk with the choices of a record: each variable that is asked for takes its own second number.
use Prim.Native.Nat.{ℕ, suc, ◌+◌, ◌-◌, ◌*◌, ◌<◌, ◌≤◌}
use mathlib.Core.Path.{◌≡◌, refl, ap, ◌∙◌, sym, subst}
use mathlib.Core.Bool.{true, false}
use mathlib.Core.List.{List, [], ◌∷◌, ◌++◌, append_assoc, append-nil}
use lib.ListN.{length, get_or, length-append}
use native.Mathlib.Omega.{arith}
use native.Mathlib.Decide.{dec_le}
use Rattle.meaning.specs.Forest.{none, Term, ◌◂◌}
use Rattle.meaning.specs.Pattern.{Pattern, Kind}
use Rattle.meaning.specs.Record.{numbers}
use Rattle.meaning.specs.Order.{choices}
use Rattle.meaning.proofs.Walk.{Res, fail, over, when, walk_t, walk}
use Rattle.meaning.proofs.Resume.{least, largest, then_done}
use Rattle.meaning.proofs.Next.{Any, any?}
use Rattle.meaning.proofs.Tame.{choices_few, numbers_double, tame_ok, tame_need}
use Rattle.meaning.proofs.Steps.{values_length}
use Rattle.record.proofs.Each.{good_long}
use Rattle.variable.proofs.States.{count_bound}
use Rattle.walk.specs.Packed.{Packed}
use Rattle.walk.specs.Cycle.{stop_at, Needs, Agree, both_fail, both_need, both_ok}
use Rattle.walk.specs.Onward.{Lands, Problem, BeginPre, BeginPost}
use Rattle.walk.specs.Taken.{TakeAsked, TakePre, TakePost}
use Rattle.std.specs.Prelude.{Result, Ok, Err}
use Rattle.walk.specs.declared.Halt.{Halt}
use Rattle.walk.specs.declared.Halt.TheVariants as halt
use Rattle.walk.proofs.Views.{fail_agree, need_agree, ok_agree, agree_same}
use Rattle.choice.specs.Stops.{StopAt, AtStop, LeastPost, ValuesPost, LandingPre, LandingPost}
use Rattle.choice.proofs.Stops.{many_range, at_room}
use Rattle.catalogue.proofs.Levels.{Level, level_choice}
use Rattle.test.specs.Inside.{Walkable}
use Rattle.test.specs.Followed.{FollowPre, FollowPost, lost, found}

-- how many rows of the pattern are left where the walk asks
abbrev pub left_over : Result ℕ Halt → ℕ
left_over (Err halt.Fail) = 0
left_over (Err (halt.Need w)) = 257 - w.place
left_over (Ok n) = 0

fewer : {L S R A K N Z : List ℕ} {Q : List Kind} {p m : ℕ} {f : List ℕ → Res} {o : Result ℕ Halt} → Agree L S R A K N Z Q (p + 1) m [] f o → p < 256 → left_over o < 257 - p
fewer (both_fail e) l = omega arith
fewer (both_need h n) l = omega arith
fewer (both_ok e s g) l = omega arith

-- where the walk stands after the choices ds; rs are left
pub record Made (L S R A K N Z list : List ℕ) (T : Term) (P : Pattern) (Q : List Kind) (o : Result ℕ Halt) : Type 0 where
  pub ds : List ℕ
  pub rs : List ℕ
  pub all : choices Q list ≡ ds ++ rs
  pub p₀ : ℕ
  pub m : ℕ
  pub agrees : Agree L S R A K N Z Q p₀ m [] (λ es. walk_t Any any? P T 0 [] (ds ++ es)) o

pub record Following (L S M list R A : List ℕ) (o : Result ℕ Halt) : Type 0 where
  pub long : length R ≡ 32
  pub rows_long : length A ≡ 256
  pub is : (K N Z : List ℕ) (T : Term) (P : Pattern) (Q : List Kind) → Walkable L S K N Z list T P Q → Packed K N Z M → Made L S R A K N Z list T P Q o

module _ {L S M list R : List ℕ} where
  problem : {K N Z A : List ℕ} {T : Term} {P : Pattern} {Q : List Kind} → length R ≡ 32 → length A ≡ 256 → Walkable L S K N Z list T P Q → Packed K N Z M → Problem L S M R A T P Q
  problem {K} {N} {Z} h l w m =
      record {
        K = K;
        N = N;
        Z = Z;
        tree = w.tree;
        pattern = w.pattern;
        packed = m;
        room = omega (arith, w.pattern.bounded);
        marks = record { few = w.pattern.few; long = l };
      }

  pub follow_begins : {A : List ℕ} → FollowPre L S M list R → length A ≡ 256 → BeginPre L S M R A
  follow_begins p l = let s = p.some in record { some = (s.3, s.4, s.5, problem p.long l s.6 s.7) }

  pub follow_first : {A R' A' : List ℕ} {o : Result ℕ Halt} → FollowPre L S M list R → length A ≡ 256 → BeginPost L S M R A o R' A' → Following L S M list R' A' o
  unfolding problem
  follow_first p l post =
      let s = p.some in
      let h = post.is s.3 s.4 s.5 (problem p.long l s.6 s.7) in
      record {
        long = h.1.long ∙ p.long;
        rows_long = h.2.long ∙ l;
        is = λ K N Z T P Q w m. record { ds = []; rs = choices Q list; all = refl; p₀ = 0; m = _; agrees = (post.is T P Q (problem p.long l w m)).0 };
      }

module _ {L S M list R A : List ℕ} {o : Result ℕ Halt} (w : Following L S M list R A o) where
  -- the whole walk, from where it stands
  whole : {K N Z : List ℕ} {T : Term} {P : Pattern} {Q : List Kind} (h : Made L S R A K N Z list T P Q o) → walk Any any? P T (choices Q list) ≡ over (walk_t Any any? P T 0 [] (h.ds ++ h.rs))
  whole {T = T} {P = P} h = ap (walk Any any? P T) h.all

  pub follow_fails : o ≡ (Err halt.Fail) → FollowPost L S M list false R
  follow_fails e =
      record {
        long = w.long;
        is = λ K N Z T P Q a m.
            let h = w.is K N Z T P Q a m in
            let f = fail_agree (rw e at h.agrees) h.rs in
            rw (whole h, f) lost;
      }

  pub follow_matches : {n : ℕ} → o ≡ Ok n → FollowPost L S M list true R
  follow_matches {n} e =
      record {
        long = w.long;
        is = λ K N Z T P Q a m.
            let h = w.is K N Z T P Q a m in
            let c = ok_agree (rw e at h.agrees) in
            let t = tame_ok Any any? T h.ds a.pattern.numbered (ap over (ap (walk_t Any any? P T 0 []) (sym (append-nil h.ds)) ∙ c.1 [])) in
            let z : h.rs ≡ [] = no_more h.ds h.rs (omega (arith, t.0, choices_few Q list, ap length h.all)) in
            let y : n + n ≡ length (numbers c.0) = omega (arith, count_bound c.3, numbers_double c.0) in
            rw (whole h, c.1 h.rs, z) (found (rw y at c.3.numbered));
      }
    where
      no_more : (ds rs : List ℕ) → length (ds ++ rs) ≤ length ds → rs ≡ []
      no_more ds [] l = refl
      no_more ds (r ∷ rs) l = absurd (omega (arith, length-append ds (r ∷ rs)))

  module _ {p x t : ℕ} (e : o ≡ Err (halt.Need (stop_at p x t))) where
    needs : {K N Z : List ℕ} {T : Term} {P : Pattern} {Q : List Kind} (h : Made L S R A K N Z list T P Q o)
        → (lo : ℕ) × (hi : ℕ) × Needs L S R A K N Z Q [] (λ es. walk_t Any any? P T 0 [] (h.ds ++ es)) p x t lo hi
    needs {K} {N} {Z} {T} {P} {Q} h =
        let n = need_agree (subst (λ (o : Result ℕ Halt). Agree L S R A K N Z Q h.p₀ h.m [] (λ es. walk_t Any any? P T 0 [] (h.ds ++ es)) o) e h.agrees) in
        (n.1, n.2, n.3)

    -- the next choice is the variable's own
    next : {K N Z : List ℕ} {T : Term} {P : Pattern} {Q : List Kind} → Walkable L S K N Z list T P Q → (h : Made L S R A K N Z list T P Q o)
        → (c : List ℕ) × (h.rs ≡ get_or list (x + x + 1) 0 ∷ c) × (x + x + 1 < length list)
    next {T = T} {P = P} {Q = Q} a h =
        let n = needs h in
        let g = a.pattern.numbered in
        let asked = ap over (ap (walk_t Any any? P T 0 []) (sym (append-nil h.ds)) ∙ n.2.asks) in
        let r = tame_need Any any? T h.ds g asked in
        let v : Level Any any? g T h.ds x t n.0 (suc n.1 - n.0) =
        record { bound = n.2.bound; lo = n.0; hi = n.1; asked = asked; its = values_length n.2.bound ∙ count_bound n.2.state; low = omega arith; high = omega (arith, r.1) }
        in
        let l = good_long Q (T ◂ none) list a.good in
        let c = level_choice Any any? g T v list h.rs l h.all in
        (c.0, c.1, omega (arith, l, n.2.within))

    -- where the walk stopped
    stops : {K N Z : List ℕ} {T : Term} {P : Pattern} {Q : List Kind} → Walkable L S K N Z list T P Q → Packed K N Z M → (h : Made L S R A K N Z list T P Q o)
        → StopAt L S M A p t K N Z Q x (needs h).2.stop (needs h).2.frames
    stops a m h = record { packed = m; marks = record { few = a.pattern.few; long = w.rows_long }; stands = (needs h).2.stands }

    -- a value out of range
    out_of_range : {K N Z : List ℕ} {T : Term} {P : Pattern} {Q : List Kind} {v : ℕ} (h : Made L S R A K N Z list T P Q o) → ((least (needs h).2.stop t ≤ v) × (v ≤ largest (needs h).2.stop t) → ⊥) → (cs : List ℕ)
        → walk_t Any any? P T 0 [] (h.ds ++ (v ∷ cs)) ≡ fail
    out_of_range {v = v} h f cs =
        let n = (needs h).2 in
        let s = n.stop in
        sym (then_done Any any? _) ∙ n.goes v cs ∙ go _ (dec_le (least s t) v) (dec_le v (largest s t)) f
      where
        go : {X Y : Type 0} (r : Res) (a : Dec X) (b : Dec Y) → (X × Y → ⊥) → when a (when b r) ≡ fail
        go r (yes a) (yes b) g = absurd (g (a, b))
        go r (yes a) (no b) g = refl
        go r (no a) b g = refl

    -- the walk stands for what the caller has
    made : (pre : FollowPre L S M list R) → let s = pre.some in
        Made L S R A s.0 s.1 s.2 list s.3 s.4 s.5 o
    made pre = let s = pre.some in w.is s.0 s.1 s.2 s.3 s.4 s.5 s.6 s.7

    pub follow_stop : FollowPre L S M list R → AtStop S M A p t
    follow_stop pre =
        let s = pre.some in
        let h = made pre in
        record { some = (L, s.0, s.1, s.2, s.5, x, (needs h).2.stop, (needs h).2.frames, stops s.6 s.7 h) }

    pub follow_room : FollowPre L S M list R → 6 * p + 5 < length M
    follow_room pre = let s = pre.some in (at_room (stops s.6 s.7 (made pre))).1

    pub follow_read : FollowPre L S M list R → x + x + 1 < length list
    follow_read pre = let s = pre.some in (next s.6 (made pre)).2

    module _ {v lo : ℕ} (ev : v ≡ get_or list (x + x + 1) 0) (least_is : LeastPost M p t lo) where
      low_of : {K N Z : List ℕ} {T : Term} {P : Pattern} {Q : List Kind} → Walkable L S K N Z list T P Q → Packed K N Z M → (h : Made L S R A K N Z list T P Q o) → lo ≡ least (needs h).2.stop t
      low_of {K} {N} {Z} {Q = Q} a m h = least_is.is L S A K N Z Q x (needs h).2.stop (needs h).2.frames (stops a m h)

      lost_there : ((K N Z : List ℕ) (T : Term) (P : Pattern) (Q : List Kind) → Walkable L S K N Z list T P Q → Packed K N Z M → (h : Made L S R A K N Z list T P Q o)
          → (least (needs h).2.stop t ≤ v) × (v ≤ largest (needs h).2.stop t) → ⊥) → FollowPost L S M list false R
      lost_there f =
          record {
            long = w.long;
            is = λ K N Z T P Q a m.
                let h = w.is K N Z T P Q a m in
                let c = next a h in
                let z : h.rs ≡ v ∷ c.0 = c.1 ∙ ap (λ (i : ℕ). i ∷ c.0) (sym ev) in
                rw (whole h, z, out_of_range h (f K N Z T P Q a m h) c.0) lost;
          }

      pub follow_low : v < lo → FollowPost L S M list false R
      follow_low l = lost_there λ K N Z T P Q a m h g. omega (arith, g.0, low_of a m h)

      module _ {n : ℕ} (values : ValuesPost S M A p t n) (low : lo ≤ v) where
        many_of : {K N Z : List ℕ} {T : Term} {P : Pattern} {Q : List Kind} → Walkable L S K N Z list T P Q → Packed K N Z M → (h : Made L S R A K N Z list T P Q o) → lo + n ≡ suc (largest (needs h).2.stop t)
        many_of {K} {N} {Z} {Q = Q} a m h =
            let s = (needs h).2.stop in
            omega (arith, low_of a m h, values.is L K N Z Q x s (needs h).2.frames (stops a m h), many_range s t)

        pub follow_high : n ≤ v - lo → FollowPost L S M list false R
        follow_high l = lost_there λ K N Z T P Q a m h g. omega (arith, g.1, many_of a m h)

        module _ (high : v - lo < n) where
          ranged : {K N Z : List ℕ} {T : Term} {P : Pattern} {Q : List Kind} → Walkable L S K N Z list T P Q → Packed K N Z M → (h : Made L S R A K N Z list T P Q o)
              → (least (needs h).2.stop t ≤ v) × (v ≤ largest (needs h).2.stop t)
          ranged a m h = (omega (arith, low_of a m h), omega (arith, many_of a m h))

          pub follow_landing : FollowPre L S M list R → LandingPre S M p t v
          follow_landing pre =
              let s = pre.some in
              let h = made pre in
              let r = ranged s.6 s.7 h in
              record { some = (L, A, s.0, s.1, s.2, s.5, x, (needs h).2.stop, (needs h).2.frames, stops s.6 s.7 h, r.0, r.1) }

          module _ {u : ℕ} (lands : LandingPost S M p t v u) where
            taking : {K N Z : List ℕ} {T : Term} {P : Pattern} {Q : List Kind} → Walkable L S K N Z list T P Q → Packed K N Z M → (h : Made L S R A K N Z list T P Q o)
                → TakeAsked L S M R A p x t u v K N Z Q (λ es. walk_t Any any? P T 0 [] (h.ds ++ es)) (needs h).0 (needs h).1
            taking {K} {N} {Z} {T} {P} {Q} a m h =
                let n = (needs h).2 in
                let r = ranged a m h in
                record {
                  packed = m;
                  long = w.long;
                  marks = record { few = a.pattern.few; long = w.rows_long };
                  needs = n;
                  low = omega (arith, r.0, n.low);
                  high = omega (arith, r.1, n.high);
                  lands =
                      subst (λ (i : ℕ). Lands L S t u (v - i) n.stop) n.low (lands.is L A K N Z Q x n.stop n.frames (stops a m h) r.0 r.1);
                }

            pub follow_takes : FollowPre L S M list R → TakePre L S M R A p x t u v
            follow_takes pre =
                let s = pre.some in
                let h = made pre in
                record { some = (s.0, s.1, s.2, s.5, _, (needs h).0, (needs h).1, taking s.6 s.7 h) }

            pub follow_goes : {o₁ : Result ℕ Halt} {R₁ A₁ : List ℕ} → FollowPre L S M list R → TakePost L S M R A p x t u v o₁ R₁ A₁ → Following L S M list R₁ A₁ o₁
            follow_goes {o₁} {R₁} {A₁} pre post =
                let s = pre.some in
                let h = made pre in
                let y = post.is s.0 s.1 s.2 s.5 _ (needs h).0 (needs h).1 (taking s.6 s.7 h) in
                record {
                  long = y.2.long ∙ w.long;
                  rows_long = y.3.long ∙ w.rows_long;
                  is = λ K N Z T P Q a m.
                      let h = w.is K N Z T P Q a m in
                      let c = next a h in
                      let z : h.rs ≡ v ∷ c.0 = c.1 ∙ ap (λ (i : ℕ). i ∷ c.0) (sym ev) in
                      let y = post.is K N Z Q _ (needs h).0 (needs h).1 (taking a m h) in
                      record {
                        ds = h.ds ++ (v ∷ []);
                        rs = c.0;
                        all = h.all ∙ ap (λ (l : List ℕ). h.ds ++ l) z ∙ sym (append_assoc h.ds (v ∷ []) c.0);
                        p₀ = p + 1;
                        m = y.0;
                        agrees = agree_same (λ es. ap (walk_t Any any? P T 0 []) (append_assoc h.ds (v ∷ []) es)) y.1;
                      };
                }

            -- it asks further right, if it asks
            pub follow_right : {o₁ : Result ℕ Halt} {R₁ A₁ : List ℕ} → FollowPre L S M list R → TakePost L S M R A p x t u v o₁ R₁ A₁ → left_over o₁ < left_over (Err (halt.Need (stop_at p x t)))
            follow_right {o₁} pre post =
                let s = pre.some in
                let h = made pre in
                let y = post.is s.0 s.1 s.2 s.5 _ (needs h).0 (needs h).1 (taking s.6 s.7 h) in
                fewer y.1 (at_room (stops s.6 s.7 h)).0

-- what is asked stays
pub follow_still : {L S M list R₀ R A : List ℕ} {o : Result ℕ Halt} → Following L S M list R A o → FollowPre L S M list R₀ → FollowPre L S M list R
follow_still w p = record { long = w.long; some = p.some }
