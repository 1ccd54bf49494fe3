-- The loop that packs the pattern's lists into one.
use Prim.Native.Nat.{ℕ, ◌+◌, ◌-◌, ◌*◌, ◌<◌, ◌≤◌}
use mathlib.Core.Path.{◌≡◌, refl, sym, ap, ◌∙◌}
use mathlib.Core.Logic.{◌≢◌}
use mathlib.Core.List.{List}
use lib.ListN.{length, get_or}
use native.Mathlib.Omega.{arith}
use native.Mathlib.Decide.{dec_lt, ℕ_discrete}
use Rattle.meaning.specs.Pattern.{Pattern, Kind}
use Rattle.meaning.specs.Forest.{none, rows, ◌◂◌}
use Rattle.tree.specs.Rows.{sizes}
use Rattle.tree.specs.Shape.{Shape}
use Rattle.tree.proofs.Lists.{sizes_rows}
use Rattle.pattern.specs.Rows.{GoodPattern}
use Rattle.pattern.proofs.Joint.{good_shape, good_scan, lengths}
use Rattle.walk.specs.Packed.{Past, Holds, Packed, Bounds, PackPre, Put, HeldBefore, HolderPre, HolderPost}

root_whole : {Z : List ℕ} → Shape Z → get_or Z 0 0 ≡ length Z
unfolding sizes rows
root_whole t =
    let a = ap (λ (z : List ℕ). get_or z 0 0) t.1 in
    let b = ap length t.1 in
    omega (arith, a, b, sizes_rows (t.0 ◂ none))

-- a good pattern may be packed
pub pack_asked : {K N Z M : List ℕ} {P : Pattern} {Q : List Kind} → GoodPattern K N Z P Q → length M ≡ 1536 → PackPre K N Z M
pack_asked g m =
    let l = lengths (good_scan g) in
    record { names = l.0; sizes = l.1; few = g.few; whole = root_whole (good_shape g) ∙ l.1; room = omega (arith, g.few) }

-- ---- the row that holds another

-- one row holds a row
pub holds_once : {Z : List ℕ} {h g p : ℕ} → Holds Z h p → Holds Z g p → h ≡ g
holds_once {h = h} {g = g} a b = go (dec_lt h g) (dec_lt g h)
  where
    go : Dec (h < g) → Dec (g < h) → h ≡ g
    go (yes l) e = absurd (omega (arith, a.past.ended g l b.past.lower, b.inside))
    go (no l) (yes m) = absurd (omega (arith, b.past.ended h m a.past.lower, a.inside))
    go (no l) (no m) = omega arith

module _ {Z M : List ℕ} {p : ℕ} (pre : HolderPre Z M p) where
  -- the terms between h and p end before p
  pub climb_first : p ≢ 0 → Past Z (p - 1) p
  climb_first n = record { lower = omega arith; ended = λ r a b. absurd (omega arith) }

  module _ {h : ℕ} (w : Past Z h p) where
    pub climb_row : h < length Z
    climb_row = omega (arith, w.lower, pre.inside, pre.within)

    module _ (more : h + get_or Z h 0 ≤ p) where
      above : 0 < h
      above = go (ℕ_discrete h 0)
        where
          go : Dec (h ≡ 0) → 0 < h
          go (yes e) = absurd (omega (arith, rw e at more, pre.inside))
          go (no n) = omega arith

      pub climb_room : 6 * h + 3 < length M
      climb_room = omega (arith, w.lower, pre.room)

      pub climb_more : Past Z (get_or M (6 * h + 3) 0) p × (get_or M (6 * h + 3) 0 < h)
      climb_more =
          let g = pre.held.is h above w.lower in
          (record { lower = omega (arith, g.past.lower, w.lower); ended = λ r a b. go r a b (dec_lt r h) (dec_lt h r) }, g.past.lower)
        where
          go : (r : ℕ) → get_or M (6 * h + 3) 0 < r → r < p → Dec (r < h) → Dec (h < r) → r + get_or Z r 0 ≤ p
          go r a b (yes l) e = omega (arith, (pre.held.is h above w.lower).past.ended r a l, w.lower)
          go r a b (no l) (yes m) = w.ended r m b
          go r a b (no l) (no m) = let z : r ≡ h = omega arith in rw z more

    pub climb_ends : p < h + get_or Z h 0 → HolderPost Z p h
    climb_ends l = record { least = omega (arith, w.lower); holds = λ z. record { past = w; inside = l } }

-- ---- the rows one after another

-- the first rows are packed
pub record Packing (K N Z C M₀ M : List ℕ) (row : ℕ) : Type 0 where
  pub long : length M ≡ length M₀
  pub kinds : (p : ℕ) → p < row → get_or M (6 * p) 0 ≡ get_or K p 0
  pub names : (p : ℕ) → p < row → get_or M (6 * p + 1) 0 ≡ get_or N p 0
  pub sizes : (p : ℕ) → p < row → get_or M (6 * p + 2) 0 ≡ get_or Z p 0
  pub held : HeldBefore Z M row
  pub starts : (p : ℕ) → p < row → get_or M (6 * p + 4) 0 ≡ get_or C (get_or N p 0 + get_or N p 0) 0
  pub flags : (p : ℕ) → p < row → get_or M (6 * p + 5) 0 ≡ get_or C (get_or N p 0 + get_or N p 0 + 1) 0

pub packing_first : {K N Z C M : List ℕ} → Packing K N Z C M M 0
packing_first =
    record {
      long = refl;
      kinds = λ p h. absurd (omega arith);
      names = λ p h. absurd (omega arith);
      sizes = λ p h. absurd (omega arith);
      held = record { is = λ p a h. absurd (omega arith) };
      starts = λ p h. absurd (omega arith);
      flags = λ p h. absurd (omega arith);
    }

module _ {K N Z C M₀ M : List ℕ} {row : ℕ} (packing : Packing K N Z C M₀ M row) (p : PackPre K N Z M₀) where
  module _ (h : row < length K) where
    pub packing_holder : HolderPre Z M row
    packing_holder = record { inside = omega (arith, p.whole); within = omega (arith, p.whole, p.sizes); room = omega (arith, packing.long, p.room); held = packing.held }

    pub packing_room : 6 * row + 5 < length M
    packing_room = omega (arith, packing.long, p.room)

    module _ {g x start flag : ℕ} (holder : HolderPost Z row g) (named : x ≡ get_or N row 0) (started : start ≡ get_or C (x + x) 0) (flagged : flag ≡ get_or C (x + x + 1) 0)
        {M' : List ℕ} (put : Put M row (get_or K row 0) (get_or N row 0) (get_or Z row 0) g start flag M') where
      -- a number of a row, this one's or one before
      step : (k : ℕ) (f : ℕ → ℕ) → k < 6 → get_or M' (6 * row + k) 0 ≡ f row → ((q : ℕ) → q < row → get_or M (6 * q + k) 0 ≡ f q) → (q : ℕ) → q < row + 1 → get_or M' (6 * q + k) 0 ≡ f q
      step k f few here old q l = go (dec_lt q row)
        where
          go : Dec (q < row) → get_or M' (6 * q + k) 0 ≡ f q
          go (yes y) = put.before (6 * q + k) (omega arith) ∙ old q y
          go (no y) = let z : q ≡ row = omega arith in rw z here

      first_number : (i : ℕ) → 6 * i + 0 ≡ 6 * i
      first_number i = omega arith

      pub packing_more : Packing K N Z C M₀ M' (row + 1)
      packing_more =
          record {
            long = put.long ∙ packing.long;
            kinds = λ q l. rw (first_number q) at (step 0 (λ i. get_or K i 0) (omega arith) (rw (first_number row) put.kind) (λ i m. rw (first_number i) (packing.kinds i m)) q l);
            names = step 1 (λ i. get_or N i 0) (omega arith) put.name packing.names;
            sizes = step 2 (λ i. get_or Z i 0) (omega arith) put.size packing.sizes;
            held = record { is = held };
            starts = step 4 (λ i. get_or C (get_or N i 0 + get_or N i 0) 0) (omega arith) (put.start ∙ rw (sym named) started) packing.starts;
            flags = step 5 (λ i. get_or C (get_or N i 0 + get_or N i 0 + 1) 0) (omega arith) (put.flag ∙ rw (sym named) flagged) packing.flags;
          }
        where
          held : (q : ℕ) → 0 < q → q < row + 1 → Holds Z (get_or M' (6 * q + 3) 0) q
          held q a l = go (dec_lt q row)
            where
              go : Dec (q < row) → Holds Z (get_or M' (6 * q + 3) 0) q
              go (yes y) = rw (put.before (6 * q + 3) (omega arith)) (packing.held.is q a y)
              go (no y) = let z : q ≡ row = omega arith in rw (z, put.holder) (holder.holds (omega arith))

  pub packing_done : length K ≤ row → Packed K N Z M × Bounds K N C M
  packing_done h = (
    record {
      room = omega (arith, packing.long, p.room);
      kinds = λ q f. packing.kinds q (omega arith);
      names = λ q f. packing.names q (omega arith);
      sizes = λ q f. packing.sizes q (omega arith);
      holders = λ g q f w. holds_once (packing.held.is q (omega (arith, w.past.lower)) (omega arith)) w;
    },
    record { starts = λ q f. packing.starts q (omega arith); flags = λ q f. packing.flags q (omega arith) },
  )
