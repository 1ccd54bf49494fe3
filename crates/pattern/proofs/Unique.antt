-- The pattern of good lists is one, and so is the list of its variables' kinds.
use Prim.Native.Nat.{ℕ, zero, suc}
use mathlib.Core.Path.{◌≡◌, refl, ap, ap₂, ◌∙◌, sym}
use mathlib.Core.List.{List}
use Rattle.meaning.specs.Forest.{Forest, none, some, ◌◂◌, rows}
use Rattle.meaning.specs.Pattern.{Pattern, symbol, individual, function, context, Patterns, nil, cons, sequence, Kind}
use Rattle.meaning.proofs.OneKinds.{one_kinds}
use Rattle.tree.specs.Rows.{sizes}
use Rattle.tree.proofs.Unique.{one_forest}
use Rattle.pattern.specs.Rows.{tree_t, tree_f, the_kind, the_name, GoodPattern}
use Rattle.pattern.specs.Lists.{kind_tree, name_tree}

-- both trees of a pattern have the same rows
mutual
  unfolding tree_t rows

  alike_rows_t : (q : Pattern) → rows (tree_t the_kind q).args ≡ rows (tree_t the_name q).args
  alike_rows_t (symbol f ps) = alike_rows ps
  alike_rows_t (individual x) = refl
  alike_rows_t (function x ps) = alike_rows ps
  alike_rows_t (context x q) = rw (alike_rows_t q)

  alike_rows : (ps : Patterns) → rows (tree_f the_kind ps) ≡ rows (tree_f the_name ps)
  alike_rows nil = refl
  alike_rows (cons q ps) = rw (alike_rows_t q, alike_rows ps)
  alike_rows (sequence x ps) = rw (alike_rows ps)

mutual
  unfolding tree_t sizes rows

  alike_sizes_t : (q : Pattern) → sizes (tree_t the_kind q).args ≡ sizes (tree_t the_name q).args
  alike_sizes_t (symbol f ps) = alike_sizes ps
  alike_sizes_t (individual x) = refl
  alike_sizes_t (function x ps) = alike_sizes ps
  alike_sizes_t (context x q) = rw (alike_rows_t q, alike_sizes_t q)

  alike_sizes : (ps : Patterns) → sizes (tree_f the_kind ps) ≡ sizes (tree_f the_name ps)
  alike_sizes nil = refl
  alike_sizes (cons q ps) = rw (alike_rows_t q, alike_sizes_t q, alike_sizes ps)
  alike_sizes (sequence x ps) = rw (alike_sizes ps)

pub kind_sizes : (P : Pattern) → sizes (kind_tree P) ≡ sizes (name_tree P)
unfolding sizes
kind_sizes P = rw (alike_rows_t P, alike_sizes_t P)

-- the pattern whose kinds and names two trees have
first : Patterns → Pattern
first nil = individual 0
first (cons q ps) = q
first (sequence x ps) = individual 0

unfoldable place : ℕ → ℕ → Patterns → Patterns → Patterns
place zero x ps rest = cons (symbol x ps) rest
place (suc zero) x ps rest = cons (individual x) rest
place (suc (suc zero)) x ps rest = sequence x rest
place (suc (suc (suc zero))) x ps rest = cons (function x ps) rest
place (suc (suc (suc (suc k)))) x ps rest = cons (context x (first ps)) rest

unfoldable decode : Forest → Forest → Patterns
decode none g = nil
decode (some k us rest) none = nil
decode (some k us rest) (some x vs more) = place k x (decode us vs) (decode rest more)

mutual
  unfolding tree_t decode place first

  decoded_t : (q : Pattern) (f g : Forest) → decode (tree_t the_kind q ◂ f) (tree_t the_name q ◂ g) ≡ cons q (decode f g)
  decoded_t (symbol x ps) f g = rw (decoded ps)
  decoded_t (individual x) f g = refl
  decoded_t (function x ps) f g = rw (decoded ps)
  decoded_t (context x q) f g = rw (decoded_t q none none)

  decoded : (ps : Patterns) → decode (tree_f the_kind ps) (tree_f the_name ps) ≡ ps
  decoded nil = refl
  decoded (cons q ps) = decoded_t q (tree_f the_kind ps) (tree_f the_name ps) ∙ ap (cons q) (decoded ps)
  decoded (sequence x ps) = ap (sequence x) (decoded ps)

module _ {K N S : List ℕ} {P R : Pattern} {Q T : List Kind} (g : GoodPattern K N S P Q) (h : GoodPattern K N S R T) where
  pub one_pattern : P ≡ R
  unfolding tree_f
  one_pattern =
      let z : sizes (name_tree P) ≡ sizes (name_tree R) = sym g.sized ∙ h.sized in
      let n = one_forest (name_tree P) (name_tree R) (sym g.names ∙ h.names) z in
      let k = one_forest (kind_tree P) (kind_tree R) (sym g.kinds ∙ h.kinds) (kind_sizes P ∙ z ∙ sym (kind_sizes R)) in
      let e : cons P nil ≡ cons R nil = sym (decoded (cons P nil)) ∙ ap₂ decode k n ∙ decoded (cons R nil) in
      cc

  pub one_list : Q ≡ T
  one_list = one_kinds g.numbered (rw (sym one_pattern) at h.numbered)
