-- What the loop comes to by going through the events, and the events that its levels have left.
use mathlib.Core.Path.{◌≡◌, refl, sym, ap, ◌∙◌}
use mathlib.Core.Logic.{inl, inr}
use mathlib.Core.Bool.{cond}
use mathlib.Core.List.{List, [], ◌∷◌, ◌++◌, append_assoc, append-nil}
use Prim.Native.Nat.{ℕ, zero, suc, ◌+◌, ◌-◌, ◌*◌, ◌≤◌, ◌<◌}
use native.Mathlib.Omega.{arith}
use native.Mathlib.Decide.{ℕ_discrete}
use lib.Dec.{ltb}
use lib.ListN.{length, take, drop, get_or, set, length-append, length-drop, take-append-drop}
use lib.Seq.{take_at, drop_at, drop-drop, length-take-le, take-suc-set, take-set-le, get_or-set_same, get_or-set_other}
use borrow.Author.Tests.{lt-ltb, le-ltb}
use native.Mathlib.Nat.{add-zero, suc-mul, sub-zero, add_assoc, mul-le-mul_right, zero-mul, zero-add, div-mul-le_self}
use native.Mathlib.Numerals.{add-one}
use Rattle.meaning.specs.Order.{Mem}
use Rattle.catalogue.specs.Answer.{Result}
use Rattle.catalogue.specs.Listing.{joined, Shown}
use Rattle.catalogue.proofs.Back.{BackTo, fitting}
use Rattle.catalogue.proofs.Events.{Outcome, fail, need, done, Event, tried, matched, snoc, branch, events, sound}
use Rattle.catalogue.proofs.Run.{run, stop, one_match, one_try, Tame}

pub room_fits : (n width : ℕ) → fitting n width * width ≤ n
room_fits n zero = omega arith
room_fits n (suc w) = div-mul-le_self n (suc w)

-- what the loop comes to
pub record Filled : Type 0 where
  pub ending : ℕ
  pub records : ℕ
  pub tries : ℕ
  pub out : List ℕ

-- r in the place of as many numbers of d, from at on
abbrev pub splice : List ℕ → ℕ → List ℕ → List ℕ
splice d at r = take at d ++ r ++ drop (at + length r) d

-- from t tries and n records on, with the events that are left
abbrev pub fill : ℕ → ℕ → ℕ → ℕ → ℕ → List ℕ → List Event → Filled
fill budget room width t n out [] = record { ending = 0; records = n; tries = t; out = out }
fill budget room width t n out (tried v ∷ es) =
    cond (ltb t budget) (fill budget room width (suc t) n out es) (record { ending = 2; records = n; tries = t; out = out })
fill budget room width t n out (matched v r ∷ es) =
    cond (ltb n room) (fill budget room width t (suc n) (splice out (n * width) r) es) (record { ending = 1; records = n; tries = t; out = out })

-- each match has a record of the width
abbrev pub Widths : ℕ → List Event → Type 0
Widths width es = (v r : List ℕ) → Mem (matched v r) es → length r ≡ width

splice_none : (d : List ℕ) (at : ℕ) → splice d at [] ≡ d
splice_none d at = rw (add-zero, append-nil (take at d)) (take-append-drop at d)

splice_splice : (d : List ℕ) (at : ℕ) (r s : List ℕ) → at ≤ length d → splice (splice d at r) (at + length r) s ≡ splice d at (r ++ s)
splice_splice d at r s h =
    let e : length (take at d ++ r) ≡ at + length r = length-append (take at d) r ∙ ap (λ (k : ℕ). k + length r) (length-take-le at d h) in
    let f : take (at + length r) (splice d at r) ≡ take at d ++ r = take_at (take at d ++ r) (drop (at + length r) d) (at + length r) e in
    let g : drop (at + length r) (splice d at r) ≡ drop (at + length r) d = drop_at (take at d ++ r) (drop (at + length r) d) (at + length r) e in
    let k : drop (at + length r + length s) (splice d at r) ≡ drop (at + length (r ++ s)) d =
    sym (drop-drop (length s) (at + length r) (splice d at r)) ∙ ap (drop (length s)) g ∙ drop-drop (length s) (at + length r) d ∙ ap (λ (m : ℕ). drop m d) (add_assoc at (length r) (length s) ∙ ap (λ (m : ℕ). at + m) (sym (length-append r s))) in
    ap (λ (l : List ℕ). l ++ s ++ drop (at + length r + length s) (splice d at r)) f ∙ ap (λ (l : List ℕ). take at d ++ r ++ s ++ l) k ∙ ap (λ (l : List ℕ). l ++ drop (at + length (r ++ s)) d) (append_assoc (take at d) r s)

pub length_splice : (d : List ℕ) (at : ℕ) (r : List ℕ) → at + length r ≤ length d → length (splice d at r) ≡ length d
length_splice d at r h = simp (length-append, length-drop, length-take-le at d (omega arith)) (omega arith)

module _ (budget room width : ℕ) where
  abbrev finish : ℕ → ℕ → List ℕ → Result → Filled
  finish t n out r = record { ending = r.ending; records = n + length r.records; tries = t + r.tries; out = splice out (n * width) (joined r.records) }

  finish_stop : (t n e : ℕ) (out : List ℕ) → record { ending = e; records = n; tries = t; out = out } ≡ finish t n out (stop e)
  finish_stop t n e out =
      let a : n ≡ n + 0 = omega arith in
      let b : t ≡ t + 0 = omega arith in
      let d : out ≡ splice out (n * width) [] = sym (splice_none out (n * width)) in
      λ i. record { ending = e; records = a i; tries = b i; out = d i }

  finish_try : (t n : ℕ) (out : List ℕ) (r : Result) → finish (suc t) n out r ≡ finish t n out (one_try r)
  finish_try t n out r =
      let b : suc t + r.tries ≡ t + suc r.tries = omega arith in
      λ i. record { ending = r.ending; records = n + length r.records; tries = b i; out = splice out (n * width) (joined r.records) }

  finish_match : (t n : ℕ) (out x : List ℕ) (r : Result) → length x ≡ width → n * width ≤ length out → finish t (suc n) (splice out (n * width) x) r ≡ finish t n out (one_match x r)
  finish_match t n out x r w h =
      let a : suc n + length r.records ≡ n + suc (length r.records) = omega arith in
      let d : splice (splice out (n * width) x) (suc n * width) (joined r.records) ≡ splice out (n * width) (x ++ joined r.records) =
      ap (λ (k : ℕ). splice (splice out (n * width) x) k (joined r.records)) (suc-mul n width ∙ ap (λ (k : ℕ). n * width + k) (sym w)) ∙ splice_splice out (n * width) x (joined r.records) h in
      λ i. record { ending = r.ending; records = a i; tries = t + r.tries; out = d i }

  -- filling is running
  fill_run : (es : List Event) (t n b q : ℕ) (out : List ℕ) → t + b ≡ budget → n + q ≡ room → Widths width es → room * width ≤ length out
      → fill budget room width t n out es ≡ finish t n out (run es b q)
  fill_run [] t n b q out hb hq w h = finish_stop t n 0 out
  fill_run (tried v ∷ es) t n zero q out hb hq w h = rw (le-ltb t budget (omega arith)) (finish_stop t n 2 out)
  fill_run (tried v ∷ es) t n (suc b) q out hb hq w h =
      rw (lt-ltb t budget (omega arith)) (fill_run es (suc t) n b q out (omega arith) hq (λ u r m. w u r (inr m)) h ∙ finish_try t n out (run es b q))
  fill_run (matched v x ∷ es) t n b zero out hb hq w h = rw (le-ltb n room (omega arith)) (finish_stop t n 1 out)
  fill_run (matched v x ∷ es) t n b (suc q) out hb hq w h =
      let lx : length x ≡ width = w v x (inl refl) in
      let hn : n * width + width ≤ length out = omega (arith, suc-mul n width, mul-le-mul_right {m = suc n} {n = room} width (omega arith)) in
      rw (lt-ltb n room (omega arith))
      (fill_run es t (suc n) b q (splice out (n * width) x) hb (omega arith) (λ u r m. w u r (inr m)) (rw (length_splice out (n * width) x (omega arith)) h)
      ∙ finish_match t n out x (run es b q) lx (omega arith))

pub tame_widths : (walk : List ℕ → Outcome) (bound limit width : ℕ) → Tame walk bound limit width → Widths width (events walk bound [])
tame_widths walk bound limit width t v r m = t.wide v r (sound walk bound [] (matched v r) m).kind

-- a loop that ends with what some events fill shows what they run to
pub shown : (Means : Result → Type 0) (es : List Event) (width budget room : ℕ) (before after : List ℕ) (ending records tries : ℕ) → Widths width es → room * width ≤ length before
    → fill budget room width 0 0 before es ≡ record { ending = ending; records = records; tries = tries; out = after } → Means (run es budget room) → Shown Means before ending records tries after
shown Means es width budget room before after ending records tries w h e m =
    let res = run es budget room in
    let k = fill_run budget room width es 0 0 budget room before (omega arith) (omega arith) w h in
    record {
      result = res;
      meant = m;
      ends = ap (λ (f : Filled). f.ending) (sym e ∙ k);
      counts = ap (λ (f : Filled). f.records) (sym e ∙ k) ∙ zero-add (length res.records);
      tried = ap (λ (f : Filled). f.tries) (sym e ∙ k) ∙ zero-add res.tries;
      written =
          ap (λ (f : Filled). f.out) (sym e ∙ k)
          ∙ ap (λ (m : ℕ). splice before m (joined res.records)) (zero-mul width)
          ∙ ap (λ (m : ℕ). joined res.records ++ drop m before) (zero-add (length (joined res.records)));
    }

-- so many tries that fail are one step
pub fill_skip : (budget room width : ℕ) (f : List ℕ → List Event) (p : List ℕ) (k lo m n t count : ℕ) (out : List ℕ) (es : List Event) → k + m ≡ n → t + k ≤ budget
    → ((j : ℕ) → j < k → f (snoc p (lo + j)) ≡ []) → fill budget room width t count out (branch f p lo n ++ es) ≡ fill budget room width (t + k) count out (branch f p (lo + k) m ++ es)
fill_skip budget room width f p zero lo m n t count out es hn hb fails =
    let a : m ≡ n = omega arith in
    rw (a, add-zero lo, add-zero t)
fill_skip budget room width f p (suc k) lo m zero t count out es hn hb fails = absurd (omega arith)
fill_skip budget room width f p (suc k) lo m (suc n) t count out es hn hb fails =
    let first : f (snoc p lo) ≡ [] = rw (add-zero lo) at (fails 0 (omega arith)) in
    let a : suc lo + k ≡ lo + suc k = omega arith in
    let b : suc t + k ≡ t + suc k = omega arith in
    let next : (j : ℕ) → j < k → f (snoc p (suc lo + j)) ≡ [] = λ j h. let c : lo + suc j ≡ suc lo + j = omega arith in rw c at (fails (suc j) (omega arith)) in
    rw (lt-ltb t budget (omega arith), first, ← a, ← b)
    (fill_skip budget room width f p k (suc lo) m n (suc t) count out es (omega arith) (omega arith) next)

-- what is left of the levels below d: level k goes on after the choices before it, from nexts[k], lefts[k] of them
module _ (walk : List ℕ → Outcome) (bound : ℕ) where
  abbrev pub rest : (vals nexts lefts : List ℕ) → ℕ → List Event
  rest vals nexts lefts zero = []
  rest vals nexts lefts (suc d) = branch (events walk (bound - suc d)) (take d vals) (get_or nexts d 0) (get_or lefts d 0) ++ rest vals nexts lefts d

  -- what is left before the walk of the first d choices
  abbrev pub ahead : (vals nexts lefts : List ℕ) → ℕ → List Event
  ahead vals nexts lefts d = events walk (bound - d) (take d vals) ++ rest vals nexts lefts d

  rest_ext : (d : ℕ) (vals vals' nexts nexts' lefts lefts' : List ℕ)
      → ((k : ℕ) → k < d → take k vals ≡ take k vals') → ((k : ℕ) → k < d → get_or nexts k 0 ≡ get_or nexts' k 0) → ((k : ℕ) → k < d → get_or lefts k 0 ≡ get_or lefts' k 0)
      → rest vals nexts lefts d ≡ rest vals' nexts' lefts' d
  rest_ext zero vals vals' nexts nexts' lefts lefts' hv hn hl = refl
  rest_ext (suc d) vals vals' nexts nexts' lefts lefts' hv hn hl =
      let v = hv d (omega arith) in
      let n = hn d (omega arith) in
      let l = hl d (omega arith) in
      let r = rest_ext d vals vals' nexts nexts' lefts lefts' (λ k h. hv k (omega arith)) (λ k h. hn k (omega arith)) (λ k h. hl k (omega arith)) in
      λ i. branch (events walk (bound - suc d)) (v i) (n i) (l i) ++ r i

  pub ahead_start : (vals nexts lefts : List ℕ) → ahead vals nexts lefts 0 ≡ events walk bound []
  ahead_start vals nexts lefts = rw (append-nil (events walk (bound - 0) []), sub-zero bound)

  pub events_fail : (m : ℕ) (p : List ℕ) → walk p ≡ fail → events walk m p ≡ []
  events_fail zero p h = rw h
  events_fail (suc m) p h = rw h

  pub events_match : (m : ℕ) (p r : List ℕ) → walk p ≡ done r → events walk m p ≡ matched p r ∷ []
  events_match zero p r h = rw h
  events_match (suc m) p r h = rw h

  pub ahead_fail : (vals nexts lefts : List ℕ) (d : ℕ) → walk (take d vals) ≡ fail → ahead vals nexts lefts d ≡ rest vals nexts lefts d
  ahead_fail vals nexts lefts d h = rw (events_fail (bound - d) (take d vals) h)

  pub ahead_match : (vals nexts lefts : List ℕ) (d : ℕ) (r : List ℕ) → walk (take d vals) ≡ done r → ahead vals nexts lefts d ≡ matched (take d vals) r ∷ rest vals nexts lefts d
  ahead_match vals nexts lefts d r h = rw (events_match (bound - d) (take d vals) r h)

  pub ahead_need : (vals nexts lefts : List ℕ) (d lo n : ℕ) → d < bound → d < length nexts → d < length lefts → walk (take d vals) ≡ need lo n
      → ahead vals nexts lefts d ≡ rest vals (set nexts d lo) (set lefts d n) (suc d)
  ahead_need vals nexts lefts d lo n hb hn hl h =
      let e : bound - d ≡ suc (bound - suc d) = omega arith in
      let f : events walk (bound - d) (take d vals) ≡ branch (events walk (bound - suc d)) (take d vals) lo n = rw (e, h) in
      let r : rest vals nexts lefts d ≡ rest vals (set nexts d lo) (set lefts d n) d =
      rest_ext d vals vals nexts (set nexts d lo) lefts (set lefts d n) (λ k g. refl) (λ k g. sym (get_or-set_other nexts d k lo 0 (λ q. omega arith))) (λ k g. sym (get_or-set_other lefts d k n 0 (λ q. omega arith))) in
      rw (get_or-set_same nexts d lo 0 hn, get_or-set_same lefts d n 0 hl) (λ i. f i ++ r i)

  rest_gone : (vals nexts lefts : List ℕ) (depth d : ℕ) → d ≤ depth → ((k : ℕ) → d ≤ k → k < depth → get_or lefts k 0 ≡ 0) → rest vals nexts lefts depth ≡ rest vals nexts lefts d
  rest_gone vals nexts lefts zero d h g = let e : d ≡ 0 = omega arith in rw e
  rest_gone vals nexts lefts (suc depth) d h g =
      elim (ℕ_discrete d (suc depth)) [
        | yes e ↦ rw e
        | no e ↦ rw (g depth (omega arith) (omega arith)) (rest_gone vals nexts lefts depth d (omega arith) (λ k l m. g k l (omega arith)))
      ]

  pub rest_back : (vals nexts lefts : List ℕ) (depth d : ℕ) → BackTo lefts depth d → rest vals nexts lefts depth ≡ rest vals nexts lefts d
  rest_back vals nexts lefts depth d b = rest_gone vals nexts lefts depth d b.low b.gone

  -- the last level's next value is another
  pub rest_level : (vals nexts lefts : List ℕ) (d v n : ℕ) → d < length nexts → d < length lefts
      → rest vals (set nexts d v) (set lefts d n) (suc d) ≡ branch (events walk (bound - suc d)) (take d vals) v n ++ rest vals nexts lefts d
  rest_level vals nexts lefts d v n hn hl =
      let r : rest vals nexts lefts d ≡ rest vals (set nexts d v) (set lefts d n) d =
      rest_ext d vals vals nexts (set nexts d v) lefts (set lefts d n) (λ k g. refl) (λ k g. sym (get_or-set_other nexts d k v 0 (λ q. omega arith))) (λ k g. sym (get_or-set_other lefts d k n 0 (λ q. omega arith))) in
      rw (get_or-set_same nexts d v 0 hn, get_or-set_same lefts d n 0 hl, ← r)

  -- the next value of the last level
  pub rest_next : (vals nexts lefts : List ℕ) (d v n : ℕ) → d < length vals → d < length nexts → d < length lefts → get_or nexts d 0 ≡ v → get_or lefts d 0 ≡ suc n
      → rest vals nexts lefts (suc d) ≡ tried (snoc (take d vals) v) ∷ ahead (set vals d v) (set nexts d (v + 1)) (set lefts d n) (suc d)
  rest_next vals nexts lefts d v n hv hn hl hd hs =
      let r : rest vals nexts lefts d ≡ rest (set vals d v) (set nexts d (v + 1)) (set lefts d n) d =
      rest_ext d vals (set vals d v) nexts (set nexts d (v + 1)) lefts (set lefts d n) (λ k g. sym (take-set-le k vals d v (omega arith))) (λ k g. sym (get_or-set_other nexts d k (v + 1) 0 (λ q. omega arith))) (λ k g. sym (get_or-set_other lefts d k n 0 (λ q. omega arith))) in
      let f = events walk (bound - suc d) in
      rw (hd, hs, take-suc-set vals d v hv, take-set-le d vals d v (omega arith), get_or-set_same nexts d (v + 1) 0 hn, get_or-set_same lefts d n 0 hl, ← r, add-one v)
      (ap (λ l. tried (snoc (take d vals) v) ∷ l) (append_assoc (f (snoc (take d vals) v)) (branch f (take d vals) (suc v) n) (rest vals nexts lefts d)))
