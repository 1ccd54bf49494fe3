-- The promises: the contract settles the answer and both lists, and for the record of a matcher the instance is the tree.
use Prim.Native.Nat.{ℕ, ◌<◌, ◌≤◌}
use mathlib.Core.Path.{◌≡◌, ap, ap₂, ◌∙◌, sym}
use mathlib.Core.Logic.{inl, inr}
use mathlib.Core.List.{List, ◌++◌}
use lib.ListN.{length, drop}
use native.Mathlib.Omega.{arith}
use native.Mathlib.Decide.{ℕ_discrete}
use Rattle.meaning.specs.Forest.{none, Term, ◌◂◌, rows, size}
use Rattle.meaning.specs.Pattern.{Pattern, Kind}
use Rattle.meaning.specs.Matcher.{Value}
use Rattle.meaning.specs.Record.{IsRecord}
use Rattle.meaning.specs.Calls.{accept}
use Rattle.meaning.proofs.OneCode.{one_refuse, one_accept}
use Rattle.meaning.proofs.Means.{matcher_means}
use Rattle.tree.specs.Rows.{labels, sizes, GoodTree}
use Rattle.tree.proofs.Unique.{good_lengths}
use Rattle.pattern.specs.Rows.{GoodPattern}
use Rattle.std.specs.Prelude.{Result, Ok, Err}
use Rattle.meaning.specs.declared.refusal.Refusal.{Refusal}
use Rattle.meaning.proofs.Refusals.{code_some, one_refusal}
use Rattle.instance.specs.Instance.{code_given, rows_given, InstanceLists, Instance, InstanceCodes, InstanceSettled}
use Rattle.instance.proofs.Whole.{one_instance}

-- one code
one_code : (l : InstanceLists) (m n a b : ℕ) → InstanceCodes l m n a → InstanceCodes l m n b → a ≡ b
one_code l m n a b =
    one_refuse 11 _ _ a b λ a b. one_refuse 12 _ _ a b λ a b. one_refuse 15 _ _ a b λ a b. one_refuse 16 _ _ a b λ a b. one_refuse 17 _ accept a b one_accept

-- the two numbers tell the answers apart, where an instance has rows
one_number : (r s : Result ℕ Refusal) → code_given r ≡ code_given s → rows_given r ≡ rows_given s → (code_given r ≡ 0 → 0 < rows_given r) → r ≡ s
one_number (Err a) (Err b) p q h = ap Err (one_refusal a b p)
one_number (Err a) (Ok n) p q h = absurd (code_some a p)
one_number (Ok m) (Err b) p q h = absurd (code_some b (sym p))
one_number (Ok m) (Ok n) p q h = ap Ok q

-- the answer and both lists afterwards are settled
pub one_making : (l : InstanceLists) (OL OS : List ℕ) (r s : Result ℕ Refusal) (NL NS XL XS : List ℕ) → InstanceSettled l OL OS r NL NS → InstanceSettled l OL OS s XL XS → (r ≡ s) × (NL ≡ XL) × (NS ≡ XS)
one_making l OL OS r s NL NS XL XS x y = go (ℕ_discrete (code_given r) 0)
  where
    same : code_given r ≡ code_given s
    same = one_code l (length OL) (length OS) (code_given r) (code_given s) x.coded y.coded

    go : Dec (code_given r ≡ 0) → (r ≡ s) × (NL ≡ XL) × (NS ≡ XS)
    go (yes e) =
        let m = x.accepted e in
        let n = y.accepted (sym same ∙ e) in
        let i = one_instance m.its n.its in (
          one_number r s same (m.answered ∙ ap size i ∙ sym n.answered) (λ _. omega (arith, m.answered)),
          m.labelled ∙ ap (λ (U : Term). labels (U ◂ none) ++ drop (size U) OL) i ∙ sym n.labelled,
          m.sized ∙ ap (λ (U : Term). sizes (U ◂ none) ++ drop (size U) OS) i ∙ sym n.sized,
        )
    go (no e) =
        let m = x.refused e in
        let n = y.refused (λ z. e (same ∙ z)) in
        (one_number r s same (m.0 ∙ sym n.0) (λ z. absurd (e z)), m.1 ∙ sym n.1, m.2 ∙ sym n.2)

module _ (Allowed : ℕ → Value → Type 0) (allowed? : (x : ℕ) (v : Value) → Dec (Allowed x v)) {l : InstanceLists} {T : Term} {P : Pattern} {Q : List Kind}
    (t : GoodTree l.label l.size T) (p : GoodPattern l.kind l.name l.pattern_size P Q) (m : IsRecord Allowed Q P T l.numbers) where
  -- for the record of a matcher the instance is the tree
  pub matcher_instance : Instance l T
  matcher_instance =
      let e = m.its in
      let g = p.numbered in
      record {
        tree = T;
        pattern = P;
        kinds = Q;
        values = m.matcher;
        good_tree = t;
        good_pattern = p;
        meant = rw e at (matcher_means Allowed allowed? g m.solves);
        is = sym m.solves.equal;
      }

-- a good record whose instance has few rows and fits is not refused
accepted_code : {l : InstanceLists} {U : Term} {m n : ℕ} → Instance l U → size U ≤ 2048 → size U ≤ m → size U ≤ n → (c : ℕ) → InstanceCodes l m n c → c ≡ 0
accepted_code i h a b c (inl (x, _)) = absurd (x (i.tree, i.good_tree))
accepted_code i h a b c (inr (_, inl (x, _))) = absurd (x (i.pattern, i.kinds, i.good_pattern))
accepted_code i h a b c (inr (_, inr (_, inl (x, _)))) = absurd (x (i.tree, i.pattern, i.kinds, i.values, i.good_tree, i.good_pattern, i.meant))
accepted_code {U = U} i h a b c (inr (_, inr (_, inr (_, inl (x, _))))) = absurd (x (U, i, h))
accepted_code {U = U} i h a b c (inr (_, inr (_, inr (_, inr (_, inl (x, _)))))) = absurd (x (U, i, a, b))
accepted_code i h a b c (inr (_, inr (_, inr (_, inr (_, inr (_, e)))))) = e

-- an instance is written where it fits
pub instance_made : (l : InstanceLists) (OL OS : List ℕ) (r : Result ℕ Refusal) (NL NS : List ℕ) (U : Term) → Instance l U → size U ≤ 2048 → size U ≤ length OL → size U ≤ length OS → InstanceSettled l OL OS r NL NS
    → (r ≡ Ok (size U)) × (NL ≡ labels (U ◂ none) ++ drop (size U) OL) × (NS ≡ sizes (U ◂ none) ++ drop (size U) OS)
instance_made l OL OS r NL NS U i h a b s =
    let e = accepted_code i h a b (code_given r) s.coded in
    let x = s.accepted e in
    let u = one_instance x.its i in (
      one_number r (Ok (size U)) e (x.answered ∙ ap size u) (λ _. omega (arith, x.answered)),
      x.labelled ∙ ap (λ (X : Term). labels (X ◂ none) ++ drop (size X) OL) u,
      x.sized ∙ ap (λ (X : Term). sizes (X ◂ none) ++ drop (size X) OS) u,
    )

-- for the record of a matcher that is the tree
pub matcher_made : (Allowed : ℕ → Value → Type 0) (allowed? : (x : ℕ) (v : Value) → Dec (Allowed x v)) (l : InstanceLists) (T : Term) (P : Pattern) (Q : List Kind) (OL OS : List ℕ) (r : Result ℕ Refusal) (NL NS : List ℕ)
    → GoodTree l.label l.size T → GoodPattern l.kind l.name l.pattern_size P Q → IsRecord Allowed Q P T l.numbers → InstanceSettled l OL OS r NL NS
    → length l.label ≤ length OL → length l.label ≤ length OS
    → (r ≡ Ok (length l.label)) × (NL ≡ l.label ++ drop (length l.label) OL) × (NS ≡ l.size ++ drop (length l.label) OS)
unfolding rows
matcher_made Allowed allowed? l T P Q OL OS r NL NS t p m s a b =
    let n = good_lengths t in
    let z : size T ≡ length l.label = omega (arith, n.0) in
    let x = instance_made l OL OS r NL NS T (matcher_instance Allowed allowed? t p m) (omega (arith, t.few)) (omega arith) (omega arith) s in
    (x.0 ∙ ap Ok z, x.1 ∙ ap₂ (λ (xs : List ℕ) (k : ℕ). xs ++ drop k OL) (sym t.labelled) z, x.2 ∙ ap₂ (λ (xs : List ℕ) (k : ℕ). xs ++ drop k OS) (sym t.sized) z)
