-- A path is recalled, goes on to the hole, and is kept.
use Prim.Native.Nat.{ℕ, ◌+◌, ◌-◌, ◌<◌, ◌≤◌}
use mathlib.Core.Path.{◌≡◌, refl, ap, ◌∙◌, sym, subst}
use mathlib.Core.Logic.{◌≢◌}
use mathlib.Core.Bool.{Bool}
use mathlib.Core.List.{List, []}
use lib.ListN.{length, get_or, set, length-set}
use native.Mathlib.Omega.{arith}
use native.Mathlib.Decide.{dec_lt}
use Rattle.std.specs.Prelude.{Some, None}
use Rattle.std.proofs.lemmas.Option.{none-some, same_Some}
use Rattle.meaning.specs.Forest.{Context}
use Rattle.tree.specs.Places.{ContextAt}
use Rattle.constraint.specs.Obeys.{path}
use Rattle.constraint.specs.Reading.{PathPre, After}
use Rattle.constraint.proofs.Readings.{Begun, Stepped, after_none, after_more}
use Rattle.paths.specs.declared.Place.{Place}
use Rattle.paths.specs.declared.Path.{Path}
use Rattle.paths.specs.Paths.{Entry, Places, Remembers, place_in, new_place, ChildFromPre, ChildFromPost, HoldingPre, HoldingPost, Standing, RecallPre, RecallPost}
use Rattle.paths.proofs.Steps.{context_next, context_in, from_first, through_first, through_child, through_all}
use Rattle.paths.proofs.Numbers.{put, put_child, noted, put_same, places_more, places_first, places_fewer, places_noted, places_child}
use Rattle.letters.specs.declared.Tables.{Tables}

-- nothing is remembered yet
pub blank : (L S : List ℕ) (tables : Tables) (roots : ℕ → ℕ) {P : Path} → (P.choice ≡ None) × (length P.places ≡ 64) → Remembers L S tables roots P
blank L S tables roots e = record { long = e.1; is = λ x q. absurd (none-some x (sym e.0 ∙ q)) }

-- RECALLED
module _ {S : List ℕ} {tables : Tables} {root x a b : ℕ} {P : Path} where
  pub recall_rows : RecallPre S tables root x a b P → P.choice ≡ Some x → HoldingPre S P P.depth
  recall_rows pre e =
      let r = pre.some.4 in
      let p = r.is x e in
      record { long = r.long; few = p.few; rows = λ i h. (p.each i h).inside }

  pub recall_again : {i : ℕ} → P.choice ≡ Some x → P.start ≡ a → HoldingPost S P P.depth b i → RecallPost S tables root x a b P i P
  recall_again {i} e f post =
      record {
        is = λ L roots path q r.
            let p : Places L S tables root a P P.depth =
            subst (λ (k : ℕ). Places L S tables k a P P.depth) (sym q) (subst (λ (k : ℕ). Places L S tables (roots x) k P P.depth) f (r.is x e)) in
            let c = context_in path.some.1 in
            let h = on (dec_lt 0 i) p.starts c in
            record { places = places_fewer p post.few; its = e; start = f; low = h.0; high = h.1 };
      }
    where
      on : Dec (0 < i) → (place_in P 0).row ≡ a → (a ≤ b) × (b < a + get_or S a 0) → ((place_in P i).row ≤ b) × (b < (place_in P i).row + get_or S (place_in P i).row 0)
      on (yes h) e c = post.holds h
      on (no h) e c =
          let z : i ≡ 0 = omega arith in
          rw (z, e) c

  pub recall_new : {next : ℕ} {end : Bool} → length P.places ≡ 64 → Begun tables root next end
      → RecallPost S tables root x a b P 0 (record { choice = Some x; start = a; depth = P.depth; places = set P.places 0 (new_place a next end) })
  recall_new {next} {end} long begun =
      record {
        is = λ L roots path q r.
            let c = path.some.1 in
            let n = context_next c in
            let h = context_in c in
            let P' : Path = record { choice = Some x; start = a; depth = P.depth; places = P.places } in
            let e : Entry L S tables root a (new_place a next end) = record { word = []; through = through_first; after = after_none begun; from = from_first S a; inside = n.sized } in
            let p = places_first P' (new_place a next end) long refl e in
            record { places = p; its = refl; start = refl; low = rw p.starts h.0; high = rw p.starts h.1 };
      }

-- READ
module _ {L S : List ℕ} {tables : Tables} {root x a b : ℕ} {P : Path} {i : ℕ} (s : Standing L S tables root x a b P i) where
  -- the last place is noted
  pub standing_noted : Standing L S tables root x a b (noted P i) i
  standing_noted = record { places = places_noted i s.places; its = s.its; start = s.start; low = s.low; high = s.high }

  pub standing_kept : (roots : ℕ → ℕ) → root ≡ roots x → Remembers L S tables roots (noted P i)
  standing_kept roots q =
      record {
        long = s.places.long;
        is = λ y e.
            let z : y ≡ x = same_Some y x (sym e ∙ s.its) in
            subst (λ (k : ℕ). Places L S tables (roots y) k (noted P i) i) (sym s.start) (rw (z, ← q) standing_noted.places);
      }

  abbrev here : Place
  here = place_in P i

  entry : Entry L S tables root a here
  entry = s.places.each i (omega arith)

  -- the context below the row
  module _ (pre : PathPre L S root a b) where
    below : (d : Context) × ContextAt L S here.row b d
    below = let d = entry.through.is b pre.some.0 s.low s.high pre.some.1 in (d.0, d.1)

    pub standing_row : (here.row < length L) × (here.row < length S) × (i < 64) × (length P.places ≡ 64)
    standing_row = let n = context_next below.1 in (n.labelled, n.sized, s.places.few, s.places.long)

    pub standing_child : here.row ≢ b → ChildFromPre S here.row here.child b
    standing_child n = record { below = record { below = n; some = (L, below.0, below.1) }; ahead = entry.from }

  -- the row is the hole's
  pub standing_all : here.row ≡ b → (c : Context) → ContextAt L S a b c → After tables root (path c) here.state.next here.state.end
  standing_all e = through_all (rw e at entry.through) entry.after

  -- one place more
  pub standing_more : {u next : ℕ} {end : Bool} → i ≢ 63 → ChildFromPost S here.row b u → u < length S → Stepped tables (get_or L here.row 0) here.state.next next end
      → Standing L S tables root x a b (put (put_child P i u) (i + 1) (new_place u next end)) (i + 1)
  standing_more {u} {next} {end} few child inside step =
      let l = s.places.few in
      let q = places_child s.places child.ahead in
      let e : Entry L S tables root a (new_place u next end) =
      record { word = _; through = through_child entry.through child; after = after_more entry.after step; from = from_first S u; inside = inside } in
      let r = ap (λ (p : Place). p.row) (put_same (put_child P i u) (i + 1) (new_place u next end) (omega (arith, q.long))) in
      record {
        places = places_more (new_place u next end) q (omega arith) e;
        its = s.its;
        start = s.start;
        low = rw r child.low;
        high = rw r child.high;
      }

  pub standing_falls : (u next : ℕ) (end : Bool) → i ≢ 63 → ChildFromPost S here.row b u
      → b - (place_in (put (put_child (noted P i) i u) (i + 1) (new_place u next end)) (i + 1)).row < b - here.row
  standing_falls u next end few child =
      let l = s.places.few in
      let p = put_child (noted P i) i u in
      let h : length p.places ≡ 64 = simp length-set s.places.long in
      let r = ap (λ (q : Place). q.row) (put_same p (i + 1) (new_place u next end) (omega (arith, h))) in
      omega (arith, r, child.later, child.low)
