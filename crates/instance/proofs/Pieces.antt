-- The values of variables are written row by row, and the row of a symbol or a function variable is written last.
use Prim.Native.Nat.{ℕ, ◌+◌, ◌-◌, ◌<◌, ◌≤◌}
use mathlib.Core.Path.{◌≡◌, ap, ◌∙◌, sym}
use mathlib.Core.List.{List}
use lib.ListN.{length, get_or, set}
use lib.Seq.{sets}
use native.Mathlib.Omega.{arith}
use Rattle.meaning.specs.Forest.{Forest, none, Term, ◌◂◌, rows, size, plug, hole_row}
use Rattle.meaning.specs.Pattern.{Kind, an_individual, a_sequence, a_context}
use Rattle.meaning.specs.Matcher.{at, as_term, as_forest, as_context}
use Rattle.tree.specs.Rows.{labels, sizes}
use Rattle.tree.specs.Places.{TermsAt}
use Rattle.tree.specs.Helpers.{PastPost}
use Rattle.tree.proofs.Terms.{terms_end, terms_le, terms_rows, term_next, term_size, alone_at}
use Rattle.pattern.specs.Places.{Variable}
use Rattle.instance.specs.Places.{along, number, Ground, meant, Written}
use Rattle.instance.specs.Pieces.{AroundPre, AroundPost, IndividualPre, IndividualPost, SequencePre, SequencePost, FillingPre, FillingPost, ContextPre, ContextPost, HeadIs, of_symbol, of_function_pair, HeadPre, HeadPost}
use Rattle.instance.proofs.Listing.{the_label, the_size, labels_listing, sizes_listing, listing_at}
use Rattle.instance.proofs.Above.{plug_size}
use Rattle.instance.proofs.Values.{its, individual_at, function_at, sequence_is, context_at}

-- rows that are a sequence's are copied
pub copied : {L S OL OS NL NS : List ℕ} {a e t : ℕ} {f : Forest} (k : ℕ) → TermsAt L S a e f → k ≡ rows f → NL ≡ sets OL t (along (number L) a k) → NS ≡ sets OS t (along (number S) a k)
    → Written OL OS NL NS t f
copied {L} {S} {OL} {OS} {NL} {NS} {a} {e} {t} {f} k h z p q =
    let x : along (number L) a k ≡ labels f = ap (along (number L) a) z ∙ listing_at the_label h ∙ sym (labels_listing f) in
    let y : along (number S) a k ≡ sizes f = ap (along (number S) a) z ∙ listing_at the_size {L = L} h ∙ sym (sizes_listing f) in
    record { labelled = p ∙ ap (sets OL t) x; sized = q ∙ ap (sets OS t) y }

-- the value of an individual variable
module _ {L S W OL OS : List ℕ} {x t : ℕ} (p : IndividualPre L S W OL OS x t) where
  pub individual_fits : (x + x + 1 < length W) × (get_or W (x + x) 0 < length S) × (get_or W (x + x) 0 + get_or S (get_or W (x + x) 0) 0 ≤ length L)
      × (get_or W (x + x) 0 + get_or S (get_or W (x + x) 0) 0 ≤ length S) × (t + get_or S (get_or W (x + x) 0) 0 ≤ length OL) × (t + get_or S (get_or W (x + x) 0) 0 ≤ length OS)
  individual_fits =
      let g = p.some.2 in
      let v = p.some.3 in
      let h = individual_at g v in
      let n = term_next h.here in
      let z = term_size h.here in
      let r = p.some.4 in
      ((its g v).within, h.within, n.in_labels, n.in_sizes, omega (arith, r.labelled), omega (arith, r.sized))

pub individual_made : {L S W OL OS NL NS : List ℕ} {x t r : ℕ} → r ≡ t + get_or S (get_or W (x + x) 0) 0
    → NL ≡ sets OL t (along (number L) (get_or W (x + x) 0) (get_or S (get_or W (x + x) 0) 0))
    → NS ≡ sets OS t (along (number S) (get_or W (x + x) 0) (get_or S (get_or W (x + x) 0) 0)) → IndividualPost L S W OL OS x t r NL NS
unfolding rows
individual_made {L} {S} {W} {OL} {OS} {NL} {NS} {x} {t} {r} e p q = record { is = go }
  where
    go : (Q : List Kind) (R : Forest) → Ground L S W Q R → Variable Q an_individual x
        → (r ≡ t + size (as_term (at (meant W Q R) x))) × Written OL OS NL NS t (as_term (at (meant W Q R) x) ◂ none)
    go Q R g v =
        let h = individual_at g v in
        let z = term_size h.here in
        (omega arith, copied (get_or S (get_or W (x + x) 0) 0) (alone_at h.here) (omega arith) p q)

-- the value of a sequence variable
module _ {L S W OL OS : List ℕ} {x t : ℕ} (p : SequencePre L S W OL OS x t) where
  pub sequence_fits : {r : ℕ} → PastPost S (get_or W (x + x) 0) (get_or W (x + x + 1) 0) r → (get_or W (x + x) 0 ≤ r) × (r ≤ length L) × (r ≤ length S)
      × (t + (r - get_or W (x + x) 0) ≤ length OL) × (t + (r - get_or W (x + x) 0) ≤ length OS)
  sequence_fits q =
      let h = sequence_is p.some.2 p.some.3 q in
      let e = terms_end h in
      let n = terms_rows h in
      let r = p.some.4 in
      (terms_le h, e.0, e.1, omega (arith, r.labelled), omega (arith, r.sized))

pub sequence_made : {L S W OL OS NL NS : List ℕ} {x t r m : ℕ} → PastPost S (get_or W (x + x) 0) (get_or W (x + x + 1) 0) m → r ≡ t + (m - get_or W (x + x) 0)
    → NL ≡ sets OL t (along (number L) (get_or W (x + x) 0) (m - get_or W (x + x) 0))
    → NS ≡ sets OS t (along (number S) (get_or W (x + x) 0) (m - get_or W (x + x) 0)) → SequencePost L S W OL OS x t r NL NS
sequence_made {L} {S} {W} {OL} {OS} {NL} {NS} {x} {t} {r} {m} h e p q = record { is = go }
  where
    go : (Q : List Kind) (R : Forest) → Ground L S W Q R → Variable Q a_sequence x
        → (r ≡ t + rows (as_forest (at (meant W Q R) x))) × Written OL OS NL NS t (as_forest (at (meant W Q R) x))
    go Q R g v =
        let f = sequence_is g v h in
        let n = terms_rows f in
        (omega arith, copied (m - get_or W (x + x) 0) f (omega arith) p q)

-- the row of a context's hole
pub filling_fits : {W : List ℕ} {x t : ℕ} → FillingPre W x t
    → (x + x + 1 < length W) × (get_or W (x + x) 0 ≤ get_or W (x + x + 1) 0) × (t + (get_or W (x + x + 1) 0 - get_or W (x + x) 0) < 18446744073709551616)
filling_fits p =
    let h = context_at p.some.4 p.some.5 in
    ((its p.some.4 p.some.5).within, h.low, omega (arith, h.row, p.some.6))

pub filling_is : {W : List ℕ} {x t r : ℕ} → r ≡ t + (get_or W (x + x + 1) 0 - get_or W (x + x) 0) → FillingPost W x t r
filling_is e = record { is = λ L S Q R g v. omega (arith, (context_at g v).row) }

-- a context variable's value around what fills its hole
module _ {L S W OL OS : List ℕ} {x t f e : ℕ} (p : ContextPre L S W OL OS x t f e) where
  pub context_reads : (x + x + 1 < length W) × (f ≤ e)
  context_reads = ((its p.some.3 p.some.4).within, omega (arith, p.some.6))

  pub context_fits : AroundPre L S OL OS (get_or W (x + x) 0) (get_or W (x + x + 1) 0) t (e - f)
  context_fits =
      let h = context_at p.some.3 p.some.4 in
      let U = p.some.2 in
      let n = plug_size U h.around in
      let r = p.some.7 in
      record {
        few = p.some.3.few;
        some = (h.label, h.args, h.here);
        low = h.low;
        high = h.high;
        room = λ s z. record { labelled = omega (arith, r.labelled, p.some.6); sized = omega (arith, r.sized, p.some.6); few = omega (arith, r.few, p.some.6) };
      }

  pub context_made : {r : ℕ} {NL NS : List ℕ} → AroundPost L S OL OS (get_or W (x + x) 0) (get_or W (x + x + 1) 0) t (e - f) r NL NS → ContextPost L S W OL OS x t f e r NL NS
  context_made {r} {NL} {NS} a = record { is = go }
    where
      go : (Q : List Kind) (R : Forest) (U : Term) (XL XS : List ℕ) → Ground L S W Q R → Variable Q a_context x → f ≡ t + hole_row (as_context (at (meant W Q R) x)) → e ≡ f + size U
          → Written XL XS OL OS f (U ◂ none)
          → (r ≡ t + size (plug (as_context (at (meant W Q R) x)) U)) × Written XL XS NL NS t (plug (as_context (at (meant W Q R) x)) U ◂ none)
      go Q R U XL XS g v i z w =
          let h = context_at g v in
          let y : f ≡ t + (get_or W (x + x + 1) 0 - get_or W (x + x) 0) = omega (arith, h.row) in
          a.is (as_context (at (meant W Q R) x)) U XL XS h.around (omega arith) (rw y at w)

-- the label of a symbol or a function variable
module _ {L K N W OL OS : List ℕ} {p t e : ℕ} where
  pub symbol_made : {NL NS : List ℕ} → get_or K p 0 ≡ 0 → NL ≡ set OL t (get_or N p 0) → NS ≡ set OS t (e - t) → HeadPost L K N W OL OS p t e NL NS
  symbol_made {NL} {NS} z i j = record { labelled = go; sized = j }
    where
      go : (S : List ℕ) (Q : List Kind) (R : Forest) (l : ℕ) → Ground L S W Q R → HeadIs K N Q (meant W Q R) p l → NL ≡ set OL t l
      go S Q R l g (of_symbol a b) = i ∙ ap (set OL t) b
      go S Q R l g (of_function_pair a v b) = absurd (omega arith)

  pub function_fits : HeadPre L K N W OL OS p t e → (get_or K p 0 ≡ 0 → ⊥) → (get_or N p 0 < 16) × (get_or N p 0 + get_or N p 0 + 1 < length W) × (get_or W (get_or N p 0 + get_or N p 0) 0 < length L)
  function_fits h n = go h.some.4 h.some.5
    where
      go : {S : List ℕ} {Q : List Kind} {R : Forest} {l : ℕ} → Ground L S W Q R → HeadIs K N Q (meant W Q R) p l
          → (get_or N p 0 < 16) × (get_or N p 0 + get_or N p 0 + 1 < length W) × (get_or W (get_or N p 0 + get_or N p 0) 0 < length L)
      go g (of_symbol a b) = absurd (n a)
      go g (of_function_pair a v b) = (v.few, (its g v).within, (function_at g v).0)

  pub function_made : {NL NS : List ℕ} → (get_or K p 0 ≡ 0 → ⊥) → NL ≡ set OL t (get_or L (get_or W (get_or N p 0 + get_or N p 0) 0) 0) → NS ≡ set OS t (e - t) → HeadPost L K N W OL OS p t e NL NS
  function_made {NL} {NS} n i j = record { labelled = go; sized = j }
    where
      go : (S : List ℕ) (Q : List Kind) (R : Forest) (l : ℕ) → Ground L S W Q R → HeadIs K N Q (meant W Q R) p l → NL ≡ set OL t l
      go S Q R l g (of_symbol a b) = absurd (n a)
      go S Q R l g (of_function_pair a v b) = i ∙ ap (set OL t) ((function_at g v).1 ∙ b)
