-- The turns of the loops that read a word along the rows.
use Prim.Native.Nat.{ℕ, suc, ◌+◌, ◌-◌, ◌≤◌, ◌<◌}
use mathlib.Core.Path.{◌≡◌}
use mathlib.Core.Logic.{◌≢◌}
use mathlib.Core.Bool.{Bool}
use mathlib.Core.List.{List, [], ◌∷◌, ◌++◌}
use lib.ListN.{length, get_or}
use native.Mathlib.Omega.{arith}
use Rattle.meaning.specs.Calls.{Says}
use Rattle.meaning.specs.Forest.{Forest, terms, Context}
use Rattle.meaning.specs.Read.{take_t}
use Rattle.meaning.proofs.Laws.{drop_t}
use Rattle.tree.specs.Places.{TermsAt, ContextAt}
use Rattle.tree.specs.Helpers.{ChildPre, ChildPost}
use Rattle.expression.specs.Expression.{Expression, In}
use Rattle.expression.specs.Rows.{StartsAt}
use Rattle.letters.specs.declared.Tables.{Tables}
use Rattle.letters.specs.State.{StateOf, TablesOf}
use Rattle.letters.proofs.Decide.{decides}
use Rattle.constraint.specs.Obeys.{heads, path}
use Rattle.constraint.specs.Reading.{MorePre, ReadTo, ReadOn, PathPre, After}
use Rattle.constraint.proofs.Words.{none_heads, heads_row, heads_rest, drop_more, heads_more, PathLeft, path_begin, path_row, path_child, path_read, path_end}

-- what `begin` and `step` of `letters` ensure
abbrev pub Begun : (tables : Tables) (root next : ℕ) (end : Bool) → Type 0
Begun tables root next end =
    (es : List Expression) (e : Expression) → TablesOf es tables → StartsAt es e root → StateOf tables e [] next end

abbrev pub Stepped : (tables : Tables) (label before next : ℕ) (end : Bool) → Type 0
Stepped tables label before next end =
    (e : Expression) (word : List ℕ) (was : Bool) → StateOf tables e word before was → StateOf tables e (word ++ (label ∷ [])) next end

-- the state after the empty word, after one more letter, and what its end says
module _ {tables : Tables} {root : ℕ} where
  pub after_none : {next : ℕ} {end : Bool} → Begun tables root next end → After tables root [] next end
  after_none b = record { is = λ es e t s. b es e t s }

  pub after_more : {label before next : ℕ} {was end : Bool} {w : List ℕ} → After tables root w before was → Stepped tables label before next end
      → After tables root (w ++ (label ∷ [])) next end
  after_more {was = was} {w = w} x s = record { is = λ es e t i. s e w was (x.is es e t i) }

  after_is : {v w : List ℕ} {next : ℕ} {end : Bool} → v ≡ w → After tables root w next end → After tables root v next end
  after_is e x = rw e x

  pub after_decides : {es : List Expression} {e : Expression} {w : List ℕ} {next : ℕ} {end : Bool} → After tables root w next end → TablesOf es tables
      → StartsAt es e root → Says end (In e w)
  after_decides {es} {e} x t s = decides (x.is es e t s)

-- the heads of neighbours
module _ {L S : List ℕ} {tables : Tables} {root a : ℕ} where
  pub no_head : {next : ℕ} {end : Bool} → Begun tables root next end → ReadTo L S tables root a 0 a next end
  unfolding drop_t
  no_head b = record { is = λ e f x h. (x, after_is (none_heads f) (after_none b)) }

  pub one_head : {c row before next after : ℕ} {was end : Bool} → ReadTo L S tables root a c row before was → Stepped tables (get_or L row 0) before next end
      → after ≡ row + get_or S row 0 → ReadTo L S tables root a (suc c) after next end
  one_head {c} r s p =
      record {
        is = λ e f x h.
            let q = r.is e f x (omega arith) in
            (rw p (drop_more c f q.0 (omega arith)), after_is (heads_more c f q.0 (omega arith)) (after_more q.1 s));
      }

-- a reading goes on
module _ (L S : List ℕ) (tables : Tables) (start begun : ℕ) (was : Bool) (more : ℕ) where
  -- so many are read, and the others stand from the row on
  pub record Reading (count row next : ℕ) (end : Bool) : Type 0 where
    pub there : MorePre L S row (more - count)
    pub read : ReadOn L S tables start begun was count row next end

  pub reading_begins : MorePre L S start more → Reading 0 start begun was
  reading_begins pre =
      let all : more - 0 ≡ more = omega arith in
      record { there = rw all pre; read = record { on = λ root a c r. let z : c + 0 ≡ c = omega arith in rw z r } }

  module _ {count row next : ℕ} {end : Bool} (h : Reading count row next end) where
    pub reading_row : count < more → (row < length L) × (row < length S)
    reading_row z = let w = h.there.some in heads_row w.2 (omega (arith, w.3))

    pub reading_on : {after later : ℕ} {still : Bool} → count < more → Stepped tables (get_or L row 0) next later still → after ≡ row + get_or S row 0 → Reading (count + 1) after later still
    reading_on z s p =
        let w = h.there.some in
        let g = heads_rest w.2 (omega (arith, w.3)) in
        record {
          there = record { some = (w.0, g.0, rw p g.1, omega (arith, w.3, g.2)) };
          read =
              record {
                on = λ root a c r.
                    let y : c + (count + 1) ≡ suc (c + count) = omega arith in
                    rw y (one_head (h.read.on root a c r) s p);
              };
        }

    pub reading_done : count ≤ more → more ≤ count → ReadOn L S tables start begun was more row next end
    reading_done y z = let e : count ≡ more = omega arith in rw e at h.read

-- all heads from the first on
module _ {L S : List ℕ} {tables : Tables} {root a count : ℕ} where
  pub from_first : {begun row next : ℕ} {was end : Bool} → Begun tables root begun was → ReadOn L S tables a begun was count row next end
      → ReadTo L S tables root a count row next end
  from_first b r = let z : 0 + count ≡ count = omega arith in rw z at (r.on root a 0 (no_head b))

  pub all_heads : {row next : ℕ} {end : Bool} → ReadTo L S tables root a count row next end → (e : ℕ) (f : Forest) → TermsAt L S a e f → count ≤ terms f
      → After tables root (heads (take_t count f)) next end
  all_heads r e f x h = (r.is e f x h).1

module _ (L S : List ℕ) (tables : Tables) (root a : ℕ) where
  -- some of the labels on the path are read, down to the row
  pub record PathRead (b row next : ℕ) (end : Bool) : Type 0 where
    pub read : List ℕ
    pub state : After tables root read next end
    pub rest : (c : Context) → ContextAt L S a b c → PathLeft L S row b (path c) read

  module _ {b : ℕ} where
    pub no_label : {next : ℕ} {end : Bool} → Begun tables root next end → PathRead b a next end
    no_label g = record { read = []; state = after_none g; rest = λ c x. path_begin x }

    module _ {row next : ℕ} {end : Bool} (h : PathRead b row next end) (pre : PathPre L S root a b) where
      left : PathLeft L S row b (path pre.some.0) h.read
      left = h.rest _ pre.some.1

      pub label_row : (row < length L) × (row < length S) × (row ≤ b) × (b < length L)
      label_row = path_row left

      pub label_child : row ≢ b → ChildPre S row b
      label_child = path_child left

      pub one_label : {below later : ℕ} {still : Bool} → row ≢ b → Stepped tables (get_or L row 0) next later still → ChildPost S row b below → PathRead b below later still
      one_label n s post =
          record { read = h.read ++ (get_or L row 0 ∷ []); state = after_more h.state s; rest = λ c x. (path_read (h.rest c x) n post).0 }

      pub label_below : {below : ℕ} → row ≢ b → ChildPost S row b below → row < below
      label_below n post = (path_read left n post).1

    pub all_labels : {row next : ℕ} {end : Bool} → PathRead b row next end → row ≡ b → (c : Context) → ContextAt L S a b c → After tables root (path c) next end
    all_labels h e c x = after_is (path_end (h.rest c x) e) h.state
