-- A reading is recalled, goes on, and is kept; and what it says of the constraint.
use Prim.Native.Nat.{ℕ, zero, suc, ◌+◌, ◌-◌, ◌*◌}
use mathlib.Core.Path.{◌≡◌}
use mathlib.Core.Logic.{◌≢◌}
use mathlib.Core.Bool.{Bool, true, false}
use mathlib.Core.List.{List}
use lib.ListN.{get_or}
use native.Mathlib.Omega.{arith}
use Rattle.meaning.specs.Forest.{Forest, none, some, terms}
use Rattle.meaning.proofs.Laws.{drop_t}
use Rattle.constraint.specs.Reading.{MorePre, ReadTo, ReadOn, ForbiddenPost}
use Rattle.constraint.proofs.Readings.{Begun, no_head, all_heads}
use Rattle.constraint.proofs.Obeyed.{obeys_free, obeys_forbidden, obeys_read, heads_after, path_after, heads_asked, path_asked}
use Rattle.paths.specs.declared.Path.{Path}
use Rattle.paths.specs.Paths.{AcceptedPre, AcceptedPost}
use Rattle.walk.specs.Packed.{root_of}
use Rattle.memory.specs.declared.Memory.{Memory}
use Rattle.memory.specs.Memory.{Remembers, kept, RecallPost, GrownPre, GrownPost, GrowPre, GrowPost}
use Rattle.memory.proofs.Numbers.{remembers}
use Rattle.letters.specs.declared.Tables.{Tables}

-- RECALLED
module _ (tables : Tables) (root : ℕ) (memory : Memory) (x a b : ℕ) where
  pub begun : {next : ℕ} {end : Bool} → Begun tables root next end → RecallPost tables root memory x a b a next 0 end
  begun g = record { most = omega arith; is = λ L S k. no_head g }

-- GROWN
terms_drop : (c : ℕ) (f : Forest) → terms (drop_t c f) ≡ terms f - c
unfolding terms drop_t
terms_drop zero f = omega arith
terms_drop (suc c) none = omega arith
terms_drop (suc c) (some l us rest) = let e = terms_drop c rest in omega arith

module _ {L S : List ℕ} {tables : Tables} {root x a b : ℕ} {memory : Memory} (p : GrownPre L S tables root x a b memory)
    {row next count : ℕ} {end : Bool} (post : RecallPost tables root memory x a b row next count end) where
  was : (roots : ℕ → ℕ) → root ≡ roots x → Remembers L S tables roots memory → ReadTo L S tables root a count row next end
  was roots q r = post.is L S (rw q (r.each x p.few))

  pub more_there : MorePre L S row (b - count)
  more_there =
      let w = p.heads.some in
      let r = p.some in
      record { some = (w.0, drop_t count w.1, ((was r.0 r.1 r.2).is w.0 w.1 w.2 (omega (arith, w.3, post.most))).0, omega (arith, terms_drop count w.1, w.3)) }

  pub grown_read : {row' next' : ℕ} {end' : Bool} → ReadOn L S tables row next end (b - count) row' next' end'
      → GrownPost L S tables root x a b memory end' (kept memory x row' a b next' end')
  grown_read {row'} {next'} {end'} on = record { row = row'; next = next'; read = read; remembers = λ roots q r. remembers r p.few (rw q at (read roots q r)) }
    where
      read : (roots : ℕ → ℕ) → root ≡ roots x → Remembers L S tables roots memory → ReadTo L S tables root a b row' next' end'
      read roots q r =
          let y : count + (b - count) ≡ b = omega (arith, post.most) in
          rw y at (on.on root a count (was roots q r))

-- JUDGED
module _ {L S M : List ℕ} {tables : Tables} {x a b : ℕ} {memory : Memory} {path : Path} (p : GrowPre L S M tables x a b memory path) where
  abbrev Post : Bool → Memory → Path → Type 0
  Post = GrowPost L S M tables x a b

  pub grow_free : get_or M (6 * x + 4) 0 ≡ 0 → Post true memory path
  grow_free z = record { judged = obeys_free L S tables _ _ _ a b z; remembers = p.remembers }

  module _ (start : get_or M (6 * x + 4) 0 ≢ 0) {r : Bool} (f : ForbiddenPost (get_or M (6 * x + 5) 0) (get_or M (6 * x) 0) a b r) where
    pub grow_forbidden : r ≡ true → Post false memory path
    grow_forbidden t = record { judged = obeys_forbidden L S tables _ _ _ a b start f t; remembers = p.remembers }

    pub grow_read : r ≡ false → get_or M (6 * x) 0 ≡ 2 → {root : ℕ} {end : Bool} {later : Memory} → root ≡ root_of M x → GrownPost L S tables root x a b memory end later → Post end later path
    grow_read n k q g =
        record {
          judged = obeys_read L S tables _ _ _ a b start f n q (heads_after L S tables _ a b k (all_heads (g.read (root_of M) q p.remembers.sequences)));
          remembers = record { sequences = g.remembers (root_of M) q p.remembers.sequences; contexts = p.remembers.contexts };
        }

    pub grow_path : r ≡ false → get_or M (6 * x) 0 ≢ 2 → {root : ℕ} {end : Bool} {later : Path} → root ≡ root_of M x → AcceptedPost L S tables root x a b end later → Post end memory later
    grow_path n k q g =
        record {
          judged = obeys_read L S tables _ _ _ a b start f n q (path_after L S tables _ a b k g.after);
          remembers = record { sequences = p.remembers.sequences; contexts = g.remembers (root_of M) q };
        }

  module _ (start : get_or M (6 * x + 4) 0 ≢ 0) {root : ℕ} (q : root ≡ root_of M x) where
    pub grow_asked : get_or M (6 * x) 0 ≡ 2 → GrownPre L S tables root x a b memory
    grow_asked k = record { heads = heads_asked p.asked start q k; few = p.few; some = (root_of M, q, p.remembers.sequences) }

    pub path_asks : get_or M (6 * x) 0 ≢ 2 → AcceptedPre L S tables root x a b path
    path_asks k = record { path = path_asked p.asked start q k; few = p.few; small = p.small; some = (root_of M, q, p.remembers.contexts) }
