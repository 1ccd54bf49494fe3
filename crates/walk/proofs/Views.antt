-- What the walk reads of a pattern's row, and what its answers say.
use Prim.Native.Nat.{ℕ, suc, ◌+◌, ◌*◌, ◌<◌, ◌≤◌}
use mathlib.Core.Path.{◌≡◌, refl, ap, ◌∙◌, sym, subst}
use mathlib.Core.Logic.{◌≢◌}
use mathlib.Core.List.{List}
use lib.ListN.{length, get_or}
use native.Mathlib.Omega.{arith}
use Rattle.meaning.specs.Pattern.{Pattern, symbol, individual, function, context, Patterns, nil, cons, sequence, Kind, an_individual, a_sequence, a_function, a_context, Comes, after, after_t, GoodT, GoodF}
use Rattle.meaning.specs.Matcher.{Value}
use Rattle.meaning.specs.Record.{Entry}
use Rattle.meaning.proofs.Walk.{Res, fail, ok, choose}
use Rattle.meaning.proofs.Resume.{Frame}
use Rattle.pattern.specs.Places.{PatternRow, PatternAt, at_symbol, at_individual, at_function, at_context, PatternsAt, at_nil, at_cons, at_sequence}
use Rattle.walk.specs.Packed.{Packed}
use Rattle.meaning.proofs.Next.{Any, any?}
use Rattle.variable.specs.State.{State}
use Rattle.variable.specs.Steps.{Meets, meets_fail, meets_ok, Chose, chose_fail, chose_need, chose_go}
use Rattle.walk.specs.Cycle.{stop_at, Needs, Agree, both_fail, both_need, both_ok}
use Rattle.std.specs.Prelude.{Option, Some, None, Result, Ok, Err}
use Rattle.std.specs.Option.{ok_or}
use Rattle.walk.specs.declared.Halt.{Halt}
use Rattle.walk.proofs.Marks.{needs_same}
use Rattle.walk.specs.declared.Halt.TheVariants as halt
use Rattle.variable.specs.declared.Step.TheVariants as step

-- a row of the pattern, packed
pub record Seen (K Z M : List ℕ) (p : ℕ) : Type 0 where
  pub inside : p < length K
  pub room : 6 * p + 5 < length M
  pub size : get_or M (6 * p + 2) 0 ≡ get_or Z p 0
  pub some : 1 ≤ get_or Z p 0

module _ {K N Z M : List ℕ} (packed : Packed K N Z M) where
  row_seen : {p k x : ℕ} → PatternRow K N Z p k x → Seen K Z M p
  row_seen {p} r = record { inside = r.in_kind; room = omega (arith, packed.room, r.in_kind); size = packed.sizes p r.in_kind; some = r.some }

  pub term_seen : {Q : List Kind} {p : ℕ} {q : Pattern} → PatternAt K N Z Q p q → Seen K Z M p
  term_seen (at_symbol r i) = row_seen r
  term_seen (at_individual r v z) = row_seen r
  term_seen (at_function r v i) = row_seen r
  term_seen (at_context r v z i) = row_seen r

  pub list_seen : {Q : List Kind} {p e : ℕ} {ps : Patterns} → PatternsAt K N Z Q p e ps → p ≢ e → Seen K Z M p
  list_seen (at_nil h e) f = absurd (f h)
  list_seen (at_cons a b i) f = term_seen a
  list_seen (at_sequence r v z b i) f = row_seen r

  -- its kind and name, as the code reads them
  module _ {p k x : ℕ} (row : PatternRow K N Z p k x) where
    its_kind : {k' : ℕ} → k' ≡ get_or M (6 * p) 0 → k ≡ k'
    its_kind e = sym row.kinded ∙ sym (packed.kinds p row.in_kind) ∙ sym e

    its_name : {x' : ℕ} → x' ≡ get_or M (6 * p + 1) 0 → x ≡ x'
    its_name e = sym row.named ∙ sym (packed.names p row.in_kind) ∙ sym e

-- the pattern term at a row, by the kind k and the name x of the row
pub data TermView (K N Z : List ℕ) (Q : List Kind) (p k x n : ℕ) : Pattern → Type 0 where
  v_symbol : {ps : Patterns} → k ≡ 0 → PatternsAt K N Z Q (p + 1) (p + get_or Z p 0) ps → GoodF Q ps n → TermView K N Z Q p k x n (symbol x ps)
  v_individual : k ≡ 1 → Comes Q x an_individual n → TermView K N Z Q p k x n (individual x)
  v_function : {ps : Patterns} → k ≡ 3 → Comes Q x a_function n → PatternsAt K N Z Q (p + 1) (p + get_or Z p 0) ps → GoodF Q ps (after x n) → TermView K N Z Q p k x n (function x ps)
  v_context : {q : Pattern} → k ≡ 4 → Comes Q x a_context n → get_or Z p 0 ≡ suc (get_or Z (p + 1) 0) → PatternAt K N Z Q (p + 1) q → GoodT Q q (after x n)
      → TermView K N Z Q p k x n (context x q)

pub term_view : {K N Z M : List ℕ} {Q : List Kind} {p k x n : ℕ} {q : Pattern} → Packed K N Z M → PatternAt K N Z Q p q → GoodT Q q n → k ≡ get_or M (6 * p) 0 → x ≡ get_or M (6 * p + 1) 0
    → TermView K N Z Q p k x n q
unfolding GoodT
term_view {K} {N} {Z} {Q = Q} {p} {k} {x} {n} m (at_symbol {ps = ps} r i) g ek ex =
    subst (λ (y : ℕ). TermView K N Z Q p k x n (symbol y ps)) (sym (its_name m r ex)) (v_symbol (sym (its_kind m r ek)) i g)
term_view {K} {N} {Z} {Q = Q} {p} {k} {x} {n} m (at_individual r v z) g ek ex =
    subst (λ (y : ℕ). Comes Q y an_individual n → TermView K N Z Q p k x n (individual y)) (sym (its_name m r ex)) (λ c. v_individual (sym (its_kind m r ek)) c) g
term_view {K} {N} {Z} {Q = Q} {p} {k} {x} {n} m (at_function {ps = ps} r v i) g ek ex =
    subst (λ (y : ℕ). Comes Q y a_function n → GoodF Q ps (after y n) → TermView K N Z Q p k x n (function y ps)) (sym (its_name m r ex))
    (λ c d. v_function (sym (its_kind m r ek)) c i d) g.0 g.1
term_view {K} {N} {Z} {Q = Q} {p} {k} {x} {n} m (at_context {q = q} r v z i) g ek ex =
    subst (λ (y : ℕ). Comes Q y a_context n → GoodT Q q (after y n) → TermView K N Z Q p k x n (context y q)) (sym (its_name m r ex))
    (λ c d. v_context (sym (its_kind m r ek)) c z i d) g.0 g.1

-- the arguments from a row on that is a sequence variable's
pub record SequenceFirst (K N Z : List ℕ) (Q : List Kind) (p e x n : ℕ) (ps : Patterns) : Type 0 where
  pub rest : Patterns
  pub is : ps ≡ sequence x rest
  pub comes : Comes Q x a_sequence n
  pub one : get_or Z p 0 ≡ 1
  pub before : p < e
  pub behind : PatternsAt K N Z Q (p + 1) e rest
  pub good : GoodF Q rest (after x n)

-- or a term's
pub record TermFirst (K N Z : List ℕ) (Q : List Kind) (p e n : ℕ) (ps : Patterns) : Type 0 where
  pub first : Pattern
  pub rest : Patterns
  pub is : ps ≡ cons first rest
  pub here : PatternAt K N Z Q p first
  pub within : p + get_or Z p 0 ≤ e
  pub behind : PatternsAt K N Z Q (p + get_or Z p 0) e rest
  pub good : GoodT Q first n
  pub goods : GoodF Q rest (after_t first n)

not_two : {K N Z M : List ℕ} {Q : List Kind} {p k : ℕ} {q : Pattern} → Packed K N Z M → PatternAt K N Z Q p q → k ≡ get_or M (6 * p) 0 → k ≢ 2
not_two m (at_symbol r i) e = omega (arith, its_kind m r e)
not_two m (at_individual r v z) e = omega (arith, its_kind m r e)
not_two m (at_function r v i) e = omega (arith, its_kind m r e)
not_two m (at_context r v z i) e = omega (arith, its_kind m r e)

module _ {K N Z M : List ℕ} {Q : List Kind} {p e n k : ℕ} (packed : Packed K N Z M) (f : p ≢ e) (ek : k ≡ get_or M (6 * p) 0) where
  pub sequence_first : {x : ℕ} {ps : Patterns} → PatternsAt K N Z Q p e ps → GoodF Q ps n → k ≡ 2 → x ≡ get_or M (6 * p + 1) 0 → SequenceFirst K N Z Q p e x n ps
  unfolding GoodF
  sequence_first (at_nil h b) g two ex = absurd (f h)
  sequence_first (at_cons a b i) g two ex = absurd (not_two packed a ek two)
  sequence_first {x} (at_sequence {x = y} {ps = qs} r v z b i) g two ex =
      let w = its_name packed r ex in
      record {
        rest = qs;
        is = ap (λ (y : ℕ). sequence y qs) w;
        comes = subst (λ (y : ℕ). Comes Q y a_sequence n) w g.0;
        one = z;
        before = b;
        behind = i;
        good = subst (λ (y : ℕ). GoodF Q qs (after y n)) w g.1;
      }

  pub term_first : {ps : Patterns} → PatternsAt K N Z Q p e ps → GoodF Q ps n → k ≢ 2 → TermFirst K N Z Q p e n ps
  unfolding GoodF
  term_first (at_nil h b) g two = absurd (f h)
  term_first (at_cons {q = q} {ps = qs} a b i) g two = record { first = q; rest = qs; is = refl; here = a; within = b; behind = i; good = g.0; goods = g.1 }
  term_first (at_sequence r v z b i) g two = absurd (two (sym (its_kind packed r ek)))

pub no_arguments : {K N Z M : List ℕ} {Q : List Kind} {p e : ℕ} {ps : Patterns} → Packed K N Z M → PatternsAt K N Z Q p e ps → p ≡ e → ps ≡ nil
no_arguments m (at_nil h b) f = refl
no_arguments m (at_cons a b i) f = absurd (omega (arith, (term_seen m a).some))
no_arguments m (at_sequence r v z b i) f = absurd (omega arith)

-- an option that is passed on, with an error in place of nothing
pub ok_or_err : {r : Result ℕ Halt} {h : Halt} (o : Option ℕ) → r ≡ ok_or o halt.Fail → r ≡ Err h → (o ≡ None) × (h ≡ halt.Fail)
ok_or_err None p q = (refl, cc)
ok_or_err (Some m) p q = absurd (cc)

pub ok_or_ok : {r : Result ℕ Halt} {m : ℕ} (o : Option ℕ) → r ≡ ok_or o halt.Fail → r ≡ Ok m → o ≡ Some m
ok_or_ok None p q = absurd (cc)
ok_or_ok (Some m) p q = cc

-- what an answer says
module _ {L S R A K N Z : List ℕ} {Q : List Kind} {p₀ m : ℕ} {fs : List Frame} {f : List ℕ → Res} where
  pub fail_agree : Agree L S R A K N Z Q p₀ m fs f (Err halt.Fail) → (cs : List ℕ) → f cs ≡ fail
  fail_agree (both_fail e) = e

  pub need_agree : {p x s : ℕ} → Agree L S R A K N Z Q p₀ m fs f (Err (halt.Need (stop_at p x s))) → (p₀ ≤ p) × (lo : ℕ) × (hi : ℕ) × Needs L S R A K N Z Q fs f p x s lo hi
  need_agree (both_need {lo = lo} {hi = hi} h w) = (h, lo, hi, w)

  pub ok_agree : {k : ℕ} → Agree L S R A K N Z Q p₀ m fs f (Ok k) → (B : List Entry) × ((cs : List ℕ) → f cs ≡ ok B cs) × (k ≡ m) × State L S R Q k B
  ok_agree (both_ok {B = B} e s g) = (B, g, e, s)

  -- a walk that comes to the same
  pub agree_same : {g : List ℕ → Res} {o : Result ℕ Halt} → ((cs : List ℕ) → g cs ≡ f cs) → Agree L S R A K N Z Q p₀ m fs f o → Agree L S R A K N Z Q p₀ m fs g o
  agree_same e (both_fail h) = both_fail λ cs. e cs ∙ h cs
  agree_same e (both_need h w) = both_need h (needs_same e w)
  agree_same e (both_ok k s h) = both_ok k s λ cs. e cs ∙ h cs

  -- one that began earlier
  pub agree_before : {r : ℕ} {o : Result ℕ Halt} → r ≤ p₀ → Agree L S R A K N Z Q p₀ m fs f o → Agree L S R A K N Z Q r m fs f o
  agree_before l (both_fail h) = both_fail h
  agree_before {r} l (both_need {p = p} h w) = let y : r ≤ p = omega arith in both_need y w
  agree_before l (both_ok k s h) = both_ok k s h

module _ {L S R : List ℕ} {Q : List Kind} {m : ℕ} {f : List ℕ → Res} where
  pub fail_meets : Meets L S R Q m f None → (cs : List ℕ) → f cs ≡ fail
  fail_meets (meets_fail e) = e

  -- as the answer of the walk there
  pub meets_agree : {A K N Z : List ℕ} {p₀ : ℕ} {fs : List Frame} {o : Option ℕ} → Meets L S R Q m f o → Agree L S R A K N Z Q p₀ m fs f (ok_or o halt.Fail)
  meets_agree (meets_fail e) = both_fail e
  meets_agree (meets_ok k s e) = both_ok k s e

  pub ok_meets : {k : ℕ} → Meets L S R Q m f (Some k) → (B : List Entry) × ((cs : List ℕ) → f cs ≡ ok B cs) × (k ≡ m) × State L S R Q k B
  ok_meets (meets_ok {B = B} e s g) = (B, g, e, s)

-- what a step says
module _ {n x lo hi t : ℕ} {g : ℕ → Value} {B : List Entry} {There : ℕ → ℕ → Type 0} where
  pub fail_chose : Chose n x lo hi t g B There step.Fail → (cs : List ℕ) (k : ℕ → List Entry → List ℕ → Res) → choose Any any? x lo hi t g B cs k ≡ fail
  fail_chose (chose_fail e) = e

  pub need_chose : Chose n x lo hi t g B There step.Need → x ≡ n
  need_chose (chose_need e) = e

  pub go_chose : {u : ℕ} → Chose n x lo hi t g B There (step.Go u)
      → (d : ℕ) × ((cs : List ℕ) (k : ℕ → List Entry → List ℕ → Res) → choose Any any? x lo hi t g B cs k ≡ k d B cs) × (x < n) × There u d
  go_chose (chose_go d e c h) = (d, e, c, h)
