-- A pattern is good if and only if its sizes are a tree's, its rows keep the rules, and its root is no sequence variable.
use Prim.Native.Nat.{ℕ, suc, ◌<◌, ◌≤◌}
use mathlib.Core.Path.{◌≡◌, refl, ap, ◌∙◌, sym}
use mathlib.Core.List.{List, [], ◌++◌, append-nil}
use lib.ListN.{length, get_or}
use native.Mathlib.Omega.{arith}
use Rattle.meaning.specs.Forest.{none, Term, ◌◂◌}
use Rattle.meaning.specs.Pattern.{Pattern, Kind, a_sequence}
use Rattle.tree.specs.Rows.{labels, sizes, depth}
use Rattle.tree.specs.Shape.{Shape}
use Rattle.tree.proofs.Lists.{sizes_rows, relabelled}
use Rattle.pattern.specs.Rows.{code, tree_t, GoodPattern}
use Rattle.pattern.specs.Lists.{kind_rows}
use Rattle.pattern.specs.Scan.{Scan, end, symbol_row, variable_row}
use Rattle.pattern.proofs.Small.{names_below, below_small}
use Rattle.pattern.proofs.Build.{build, single}
use Rattle.pattern.proofs.Keeps.{no_sequence, keeps_t}

pub lengths : {Q : List Kind} {n : ℕ} {K N S : List ℕ} → Scan Q n K N S → (length N ≡ length K) × (length S ≡ length K)
lengths (end e) = (refl, refl)
lengths (symbol_row e h s) = let l = lengths s in (ap suc l.0, ap suc l.1)
lengths (variable_row v e z c s) = let l = lengths s in (ap suc l.0, ap suc l.1)

pub shape_some : {S : List ℕ} → Shape S → 0 < length S
unfolding sizes
shape_some t = omega (arith, ap length t.1)

module _ {K N S : List ℕ} {P : Pattern} {Q : List Kind} (g : GoodPattern K N S P Q) where
  pub good_shape : Shape S
  good_shape = (tree_t _ P, g.sized, g.shallow)

  pub good_scan : Scan Q 0 K N S
  unfolding labels sizes
  good_scan = rw (g.kinds, g.names, g.sized) (keeps_t Q P 0 [] [] [] g.numbered.numbered (below_small P g.names g.small) (end g.numbered.all))

  pub good_root : get_or K 0 0 ≡ code a_sequence → ⊥
  unfolding labels
  good_root e = no_sequence P (sym (ap (λ (k : List ℕ). get_or k 0 0) g.kinds) ∙ e)

ended : {Q : List Kind} {n : ℕ} {K : List ℕ} → Scan Q n K [] [] → (K ≡ []) × (n ≡ length Q)
ended (end e) = (refl, e)

module _ {K N S : List ℕ} {Q : List Kind} (root : get_or K 0 0 ≡ code a_sequence → ⊥) (few : length K ≤ 256) (bounded : length Q ≤ 16) (s : Scan Q 0 K N S) where
  of_tree : (U : Term) → labels (U ◂ none) ≡ N → sizes (U ◂ none) ≡ S → depth (U ◂ none) ≤ 64 → (P : Pattern) × GoodPattern K N S P Q
  of_tree U n z d =
      let m : N ≡ labels (U ◂ none) ++ [] = sym (append-nil (labels (U ◂ none)) ∙ n) in
      let y : S ≡ sizes (U ◂ none) ++ [] = sym (append-nil (sizes (U ◂ none)) ∙ z) in
      let b = single (build Q (U ◂ none) 0 K [] [] (rw (m, y) at s)) root in
      let e = ended b.rest in
      let named = sym (ap labels b.named ∙ n) in (
        b.pattern,
        record {
          kinds = b.kinds ∙ ap (λ (k : List ℕ). kind_rows b.pattern ++ k) e.0 ∙ append-nil (kind_rows b.pattern);
          names = named;
          sized = sym (ap sizes b.named ∙ z);
          few = few;
          shallow = rw b.named d;
          small = names_below b.pattern Q named b.good bounded b.small;
          numbered = record { numbered = b.good; all = e.1 };
          bounded = bounded;
        },
      )

  pub scanned_good : Shape S → (P : Pattern) × GoodPattern K N S P Q
  scanned_good t =
      let T = t.0 in
      let r = relabelled T N (omega (arith, (lengths s).0, (lengths s).1, sizes_rows (T ◂ none), ap length t.1)) in
      of_tree r.0 r.1 (r.2 ∙ sym t.1) (rw r.3 t.2)
