-- A context is written around what fills its hole.
use Prim.Native.Nat.{ℕ, ◌+◌, ◌-◌, ◌<◌, ◌≤◌}
use mathlib.Core.Path.{◌≡◌, ap, ◌∙◌, sym}
use mathlib.Core.List.{List, ◌++◌, append-nil}
use lib.ListN.{length, get_or}
use lib.Seq.{sets}
use native.Mathlib.Omega.{arith}
use Rattle.meaning.specs.Forest.{none, Term, ◌◂◌, rows, size, Context, plug}
use Rattle.tree.specs.Places.{ContextAt}
use Rattle.tree.proofs.Terms.{term_next, alone_at}
use Rattle.tree.proofs.Ways.{context_le}
use Rattle.tree.proofs.Cuts.{cut_at}
use Rattle.instance.specs.Places.{along, number, resized, Written}
use Rattle.instance.specs.Pieces.{ResizedPre, AroundPre, AroundPost}
use Rattle.instance.proofs.Writes.{sets_both, sets_before, along_length}
use Rattle.instance.proofs.Listing.{listing, the_label, the_size, labels_listing, sizes_listing, listing_length}
use Rattle.instance.proofs.Above.{row_within, row_nested, plug_size, context_ends, kept, changed, listing_plug}

-- what around asks, in numbers
pub record AroundFits (L S OL OS : List ℕ) (a b t m : ℕ) : Type 0 where
  pub labelled : a + get_or S a 0 ≤ length L
  pub sized : a + get_or S a 0 ≤ length S
  pub ends : b + get_or S b 0 ≤ a + get_or S a 0
  pub out_label : t + (b - a) + m + (a + get_or S a 0 - (b + get_or S b 0)) ≤ length OL
  pub out_size : t + (b - a) + m + (a + get_or S a 0 - (b + get_or S b 0)) ≤ length OS
  pub each : (u : ℕ) → a ≤ u → u < a + (b - a) → ResizedPre S b (get_or S b 0) m u

pub around_fits : {L S OL OS : List ℕ} {a b t m : ℕ} → AroundPre L S OL OS a b t m → AroundFits L S OL OS a b t m
around_fits {L} {S} {OL} {OS} {a} {b} {t} {m} p =
    let T = p.some.2 in
    let n = term_next T in
    let e = context_ends (cut_at b T p.low p.high).0 in
    let r = p.room (get_or S a 0 + m - get_or S b 0) (omega (arith, p.low)) in
    record {
      labelled = n.in_labels;
      sized = n.in_sizes;
      ends = e;
      out_label = omega (arith, r.labelled, p.low);
      out_size = omega (arith, r.sized, p.low);
      each = λ u f g.
          let h = row_within u (alone_at T) f (omega (arith, p.low, p.high)) in
          record {
            within = omega (arith, n.in_sizes);
            ends = omega (arith, n.in_sizes);
            holds = λ l. omega (arith, row_nested u b (alone_at T) f (omega (arith, p.low, p.high)) (omega (arith, p.low)) l);
            small = omega (arith, r.few, p.few, n.in_sizes);
          };
    }

-- three parts, the middle one written first and the left one last
glued : (X : List ℕ) (A B C : List ℕ) (t j n : ℕ) → t + length A ≡ j → j + length B ≡ n → sets (sets (sets X j B) n C) t A ≡ sets X t (A ++ (B ++ C))
glued X A B C t j n p q =
    ap (λ (l : List ℕ). sets l t A) (ap (λ (k : ℕ). sets (sets X j B) k C) (sym q) ∙ sym (sets_both X j B C)) ∙ sets_before X t j A (B ++ C) p

ended : (w : ℕ → ℕ → ℕ) (U : Term) (left right : List ℕ) → left ++ (listing w (U ◂ none) ++ (right ++ listing w none)) ≡ left ++ (listing w (U ◂ none) ++ right)
unfolding listing
ended w U left right = ap (λ (xs : List ℕ). left ++ (listing w (U ◂ none) ++ xs)) (append-nil right)

-- said once for labels and sizes
module _ (w : ℕ → ℕ → ℕ) {L S : List ℕ} {a b : ℕ} {c : Context} (U : Term) (X : List ℕ) (t : ℕ) (h : ContextAt L S a b c) where
  listing_around : sets (sets (sets X (t + (b - a)) (listing w (U ◂ none))) (t + (b - a) + size U) (along (kept w L S) (b + get_or S b 0) (a + get_or S a 0 - (b + get_or S b 0)))) t
      (along (changed w L S b (size U)) a (b - a)) ≡ sets X t (listing w (plug c U ◂ none))
  unfolding rows
  listing_around =
      let left : List ℕ = along (changed w L S b (size U)) a (b - a) in
      let right : List ℕ = along (kept w L S) (b + get_or S b 0) (a + get_or S a 0 - (b + get_or S b 0)) in
      let y : length left ≡ b - a = along_length (changed w L S b (size U)) a (b - a) in
      let z : length (listing w (U ◂ none)) ≡ size U = listing_length w (U ◂ none) ∙ omega arith in
      glued X left (listing w (U ◂ none)) right t (t + (b - a)) (t + (b - a) + size U) (omega arith) (omega arith)
      ∙ ap (sets X t) (sym (listing_plug w U none (b - a) (a + get_or S a 0 - (b + get_or S b 0)) h (omega (arith, context_le h)) (omega (arith, context_ends h)) ∙ ended w U left right))

pub around_is : {L S OL OS NL NS : List ℕ} {a b t m r : ℕ} → AroundPre L S OL OS a b t m
    → NL ≡ sets (sets OL (t + (b - a) + m) (along (number L) (b + get_or S b 0) (a + get_or S a 0 - (b + get_or S b 0)))) t (along (number L) a (b - a))
    → NS ≡ sets (sets OS (t + (b - a) + m) (along (number S) (b + get_or S b 0) (a + get_or S a 0 - (b + get_or S b 0)))) t (along (resized S b (get_or S b 0) m) a (b - a))
    → r ≡ t + (b - a) + m + (a + get_or S a 0 - (b + get_or S b 0)) → AroundPost L S OL OS a b t m r NL NS
around_is {L} {S} {OL} {OS} {NL} {NS} {a} {b} {t} {m} {r} p e f g = record { is = go }
  where
    go : (c : Context) (U : Term) (XL XS : List ℕ) → ContextAt L S a b c → size U ≡ m → Written XL XS OL OS (t + (b - a)) (U ◂ none)
        → (r ≡ t + size (plug c U)) × Written XL XS NL NS t (plug c U ◂ none)
    go c U XL XS h z v =
        let n : ℕ = a + get_or S a 0 - (b + get_or S b 0) in (
          omega (arith, plug_size U h, context_ends h, context_le h, p.high),
          record {
            labelled = (rw (sym z) at e)
                ∙ ap (λ (l : List ℕ). sets (sets l (t + (b - a) + size U) (along (number L) (b + get_or S b 0) n)) t (along (number L) a (b - a))) (v.labelled ∙ ap (sets XL (t + (b - a))) (labels_listing (U ◂ none)))
                ∙ listing_around the_label U XL t h ∙ ap (sets XL t) (sym (labels_listing (plug c U ◂ none)));
            sized = (rw (sym z) at f)
                ∙ ap (λ (l : List ℕ). sets (sets l (t + (b - a) + size U) (along (number S) (b + get_or S b 0) n)) t (along (resized S b (get_or S b 0) (size U)) a (b - a))) (v.sized ∙ ap (sets XS (t + (b - a))) (sizes_listing (U ◂ none)))
                ∙ listing_around the_size {L = L} U XS t h ∙ ap (sets XS t) (sym (sizes_listing (plug c U ◂ none)));
          },
        )
