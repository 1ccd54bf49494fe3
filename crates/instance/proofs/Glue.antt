-- Terms and lists of arguments: from what their parts have written to what they have.
use Prim.Native.Nat.{ℕ, suc, ◌+◌, ◌<◌, ◌≤◌}
use mathlib.Core.Path.{◌≡◌, refl, ap, ap₂, ◌∙◌, sym}
use mathlib.Core.Logic.{◌≢◌}
use mathlib.Core.List.{List, ◌∷◌, ◌++◌}
use lib.ListN.{length, get_or, set}
use lib.Seq.{sets}
use native.Mathlib.Omega.{arith}
use Rattle.meaning.specs.Forest.{Forest, none, Term, term, ◌◂◌, rows, size, ◌⊕◌, Context, hole, node, plug, hole_row}
use Rattle.meaning.specs.Pattern.{Pattern, individual, context, Patterns, nil, cons, sequence, Kind, an_individual, a_sequence, a_context}
use Rattle.meaning.specs.Matcher.{Value, at, as_symbol, apply, apply_all}
use Rattle.meaning.proofs.Laws.{rows_of}
use Rattle.tree.specs.Rows.{labels, sizes}
use Rattle.tree.proofs.Lists.{labels_rows, sizes_rows}
use Rattle.pattern.specs.Places.{Variable, PatternAt, at_symbol, at_individual, at_function, at_context, PatternsAt, at_nil, at_cons, at_sequence}
use Rattle.instance.specs.Places.{Room, Written}
use Rattle.instance.specs.Pieces.{HeadIs, of_symbol, of_function_pair}
use Rattle.instance.proofs.Writes.{sets_both, sets_head}
use Rattle.instance.proofs.Listing.{the_label, the_size, labels_listing, sizes_listing, listing_both, listing_term}

-- two sequences, one behind the other
labels_both : (f g : Forest) → labels (f ⊕ g) ≡ labels f ++ labels g
labels_both f g = rw (labels_listing (f ⊕ g), labels_listing f, labels_listing g) (listing_both the_label f g)

sizes_both : (f g : Forest) → sizes (f ⊕ g) ≡ sizes f ++ sizes g
sizes_both f g = rw (sizes_listing (f ⊕ g), sizes_listing f, sizes_listing g) (listing_both the_size f g)

module _ {OL OS NL NS ML MS : List ℕ} {t : ℕ} where
  pub written_both : {e : ℕ} (f g : Forest) → Written OL OS NL NS t f → e ≡ t + rows f → Written NL NS ML MS e g → Written OL OS ML MS t (f ⊕ g)
  written_both {e} f g a z b =
      let x : e ≡ t + length (labels f) = omega (arith, labels_rows f) in
      let y : e ≡ t + length (sizes f) = omega (arith, sizes_rows f) in
      record {
        labelled = b.labelled ∙ ap₂ (λ (l : List ℕ) (i : ℕ). sets l i (labels g)) a.labelled x ∙ sym (ap (sets OL t) (labels_both f g) ∙ sets_both OL t (labels f) (labels g));
        sized = b.sized ∙ ap₂ (λ (l : List ℕ) (i : ℕ). sets l i (sizes g)) a.sized y ∙ sym (ap (sets OS t) (sizes_both f g) ∙ sets_both OS t (sizes f) (sizes g));
      }

  -- the row of a term in front of its arguments
  pub written_head : (l : ℕ) (us : Forest) → Written OL OS NL NS (t + 1) us → ML ≡ set NL t l → MS ≡ set NS t (suc (rows us)) → Written OL OS ML MS t (term l us ◂ none)
  written_head l us a p q =
      let x : labels (term l us ◂ none) ≡ l ∷ labels us = labels_listing (term l us ◂ none) ∙ listing_term the_label (term l us) ∙ ap (λ (xs : List ℕ). l ∷ xs) (sym (labels_listing us)) in
      let y : sizes (term l us ◂ none) ≡ suc (rows us) ∷ sizes us =
      sizes_listing (term l us ◂ none) ∙ listing_term the_size (term l us) ∙ ap (λ (xs : List ℕ). suc (rows us) ∷ xs) (sym (sizes_listing us))
      in
      record {
        labelled = p ∙ ap (λ (xs : List ℕ). set xs t l) a.labelled ∙ sets_head OL t (t + 1) l (labels us) refl ∙ ap (sets OL t) (sym x);
        sized = q ∙ ap (λ (xs : List ℕ). set xs t (suc (rows us))) a.sized ∙ sets_head OS t (t + 1) (suc (rows us)) (sizes us) refl ∙ ap (sets OS t) (sym y);
      }

pub written_none : {OL OS : List ℕ} {t : ℕ} → Written OL OS OL OS t none
unfolding labels sizes
written_none = record { labelled = refl; sized = refl }

-- lists as long as others have the room that those have
pub same_room : {OL OS NL NS : List ℕ} {t n : ℕ} → length NL ≡ length OL → length NS ≡ length OS → Room OL OS t n → Room NL NS t n
same_room a b r = record { labelled = omega (arith, r.labelled); sized = omega (arith, r.sized); few = r.few }

-- a part of what has room
pub part_room : {OL OS : List ℕ} {t n u m : ℕ} → Room OL OS t n → t ≤ u → u + m ≤ t + n → Room OL OS u m
part_room r p q = record { labelled = omega (arith, r.labelled); sized = omega (arith, r.sized); few = omega (arith, r.few) }

pub hole_room : (c : Context) (U : Term) → hole_row c + size U ≤ size (plug c U)
unfolding plug rows hole_row
hole_room hole U = omega arith
hole_room (node l left c right) U = omega (arith, hole_room c U, rows_of left (plug c U ◂ right))

-- a symbol or a function variable: its label in the instance, and its arguments
pub record Headed (K N Z : List ℕ) (Q : List Kind) (p : ℕ) (σ : List Value) (q : Pattern) : Type 0 where
  pub label : ℕ
  pub arguments : Patterns
  pub is : apply σ q ≡ term label (apply_all σ arguments)
  pub head : HeadIs K N Q σ p label
  pub placed : PatternsAt K N Z Q (p + 1) (p + get_or Z p 0) arguments

-- what stands at a pattern row, by its kind
module _ {K N Z : List ℕ} {Q : List Kind} {p : ℕ} where
  pub term_row : {q : Pattern} → PatternAt K N Z Q p q → (p < length K) × (p < length N) × (p < length Z) × (1 ≤ get_or Z p 0)
  term_row (at_symbol r a) = (r.in_kind, r.in_name, r.in_size, r.some)
  term_row (at_individual r v z) = (r.in_kind, r.in_name, r.in_size, r.some)
  term_row (at_function r v a) = (r.in_kind, r.in_name, r.in_size, r.some)
  term_row (at_context r v z a) = (r.in_kind, r.in_name, r.in_size, r.some)

  pub no_sequence : {q : Pattern} → PatternAt K N Z Q p q → get_or K p 0 ≡ 2 → ⊥
  no_sequence (at_symbol r a) e = omega (arith, r.kinded)
  no_sequence (at_individual r v z) e = omega (arith, r.kinded)
  no_sequence (at_function r v a) e = omega (arith, r.kinded)
  no_sequence (at_context r v z a) e = omega (arith, r.kinded)

  pub is_individual : {q : Pattern} → PatternAt K N Z Q p q → get_or K p 0 ≡ 1 → (q ≡ individual (get_or N p 0)) × Variable Q an_individual (get_or N p 0)
  is_individual (at_symbol r a) e = absurd (omega (arith, r.kinded))
  is_individual (at_individual r v z) e = (ap individual (sym r.named), rw r.named v)
  is_individual (at_function r v a) e = absurd (omega (arith, r.kinded))
  is_individual (at_context r v z a) e = absurd (omega (arith, r.kinded))

  pub is_context : {q : Pattern} → PatternAt K N Z Q p q → get_or K p 0 ≡ 4
      → (u : Pattern) × (q ≡ context (get_or N p 0) u) × Variable Q a_context (get_or N p 0) × (get_or Z p 0 ≡ suc (get_or Z (p + 1) 0)) × PatternAt K N Z Q (p + 1) u
  is_context (at_symbol r a) e = absurd (omega (arith, r.kinded))
  is_context (at_individual r v z) e = absurd (omega (arith, r.kinded))
  is_context (at_function r v a) e = absurd (omega (arith, r.kinded))
  is_context (at_context {q = u} r v z a) e = (u, ap (λ (x : ℕ). context x u) (sym r.named), rw r.named v, z, a)

  pub is_headed : {q : Pattern} (σ : List Value) → PatternAt K N Z Q p q → (get_or K p 0 ≡ 1 → ⊥) → (get_or K p 0 ≡ 4 → ⊥) → Headed K N Z Q p σ q
  unfolding apply
  is_headed σ (at_symbol {f = f} {ps = ps} r a) m n = record { label = f; arguments = ps; is = refl; head = of_symbol r.kinded r.named; placed = a }
  is_headed σ (at_individual r v z) m n = absurd (m r.kinded)
  is_headed σ (at_function {x = x} {ps = ps} r v a) m n =
      record {
        label = as_symbol (at σ x);
        arguments = ps;
        is = refl;
        head = of_function_pair r.kinded (rw r.named v) (rw r.named);
        placed = a;
      }
  is_headed σ (at_context r v z a) m n = absurd (n r.kinded)

  -- the first of a list of arguments
  module _ {e : ℕ} where
    pub list_row : {ps : Patterns} → PatternsAt K N Z Q p e ps → p ≢ e → (p < e) × (p < length K) × (p < length N) × (p < length Z)
    list_row (at_nil h l) n = absurd (n h)
    list_row (at_cons a l b) n = let r = term_row a in (omega arith, r.0, r.1, r.2)
    list_row (at_sequence r v z l b) n = (l, r.in_kind, r.in_name, r.in_size)

    pub is_nil : {ps : Patterns} → PatternsAt K N Z Q p e ps → p ≡ e → ps ≡ nil
    is_nil (at_nil h l) z = refl
    is_nil (at_cons a l b) z = absurd (omega (arith, (term_row a).3))
    is_nil (at_sequence r v y l b) z = absurd (omega arith)

    pub is_sequence : {ps : Patterns} → PatternsAt K N Z Q p e ps → p ≢ e → get_or K p 0 ≡ 2
        → (qs : Patterns) × (ps ≡ sequence (get_or N p 0) qs) × Variable Q a_sequence (get_or N p 0) × PatternsAt K N Z Q (p + 1) e qs
    is_sequence (at_nil h l) n z = absurd (n h)
    is_sequence (at_cons a l b) n z = absurd (no_sequence a z)
    is_sequence (at_sequence {ps = qs} r v y l b) n z = (qs, ap (λ (x : ℕ). sequence x qs) (sym r.named), rw r.named v, b)

    pub is_cons : {ps : Patterns} → PatternsAt K N Z Q p e ps → p ≢ e → (get_or K p 0 ≡ 2 → ⊥)
        → (q : Pattern) × (qs : Patterns) × (ps ≡ cons q qs) × PatternAt K N Z Q p q × (p + get_or Z p 0 ≤ e) × PatternsAt K N Z Q (p + get_or Z p 0) e qs
    is_cons (at_nil h l) n z = absurd (n h)
    is_cons (at_cons {q = q} {ps = qs} a l b) n z = (q, qs, refl, a, l, b)
    is_cons (at_sequence r v y l b) n z = absurd (z r.kinded)
