-- The rows of a good pattern keep the rules.
use Prim.Native.Nat.{ℕ, suc, ◌+◌}
use mathlib.Core.Path.{◌≡◌, refl}
use mathlib.Core.List.{List, ◌∷◌, ◌++◌, append_assoc, append-nil}
use native.Mathlib.Omega.{arith}
use Rattle.meaning.specs.Forest.{rows}
use Rattle.meaning.specs.Pattern.{Pattern, symbol, individual, function, context, Patterns, nil, cons, sequence, Kind, an_individual, a_sequence, a_function, a_context, Comes, after, after_t, after_f, GoodT, GoodF}
use Rattle.tree.specs.Rows.{labels, sizes}
use Rattle.pattern.specs.Rows.{code, tree_t, tree_f, the_kind, the_name}
use Rattle.pattern.proofs.Small.{SmallT, SmallF}
use Rattle.pattern.specs.Scan.{OneArgument, Scan, symbol_row, variable_row}

-- a term's row is of no sequence variable
pub no_sequence : (q : Pattern) → (tree_t the_kind q).label ≡ code a_sequence → ⊥
unfolding tree_t
no_sequence (symbol f ps) e = omega arith
no_sequence (individual x) e = omega arith
no_sequence (function x ps) e = omega arith
no_sequence (context x q) e = omega arith

module _ (Q : List Kind) where
  -- the rows of a pattern, and of its arguments, and those behind
  abbrev RowsT : Pattern → ℕ → List ℕ → List ℕ → List ℕ → Type 0
  RowsT q n K N S =
      let T = tree_t the_kind q in
      let U = tree_t the_name q in
      Scan Q n (T.label ∷ (labels T.args ++ K)) (U.label ∷ (labels U.args ++ N)) (suc (rows U.args) ∷ (sizes U.args ++ S))

  abbrev RowsF : Patterns → ℕ → List ℕ → List ℕ → List ℕ → Type 0
  RowsF ps n K N S = Scan Q n (labels (tree_f the_kind ps) ++ K) (labels (tree_f the_name ps) ++ N) (sizes (tree_f the_name ps) ++ S)

  over_term : (x : ℕ) (q : Pattern) (n : ℕ) (K N S : List ℕ) → Comes Q x a_context n → RowsT q (after x n) K N S → RowsT (context x q) n K N S
  unfolding tree_t labels sizes rows
  over_term x q n K N S c s =
      let T = tree_t the_kind q in
      let U = tree_t the_name q in
      let o : OneArgument (suc (suc (rows U.args + 0))) (T.label ∷ (labels T.args ++ K)) (suc (rows U.args) ∷ (sizes U.args ++ S)) =
      record { some = omega arith; one = omega arith; term = no_sequence q } in
      rw (append-nil (labels T.args), append-nil (labels U.args), append-nil (sizes U.args))
      (variable_row a_context refl o c s)

  before : (q : Pattern) (ps : Patterns) (n : ℕ) (K N S : List ℕ)
      → RowsT q n (labels (tree_f the_kind ps) ++ K) (labels (tree_f the_name ps) ++ N) (sizes (tree_f the_name ps) ++ S) → RowsF (cons q ps) n K N S
  unfolding tree_f labels sizes
  before q ps n K N S s =
      let T = tree_t the_kind q in
      let U = tree_t the_name q in
      let k = append_assoc (labels T.args) (labels (tree_f the_kind ps)) K in
      let m = append_assoc (labels U.args) (labels (tree_f the_name ps)) N in
      let z = append_assoc (sizes U.args) (sizes (tree_f the_name ps)) S in
      rw (k, m, z) s

  mutual
    unfolding tree_t labels sizes rows GoodT SmallT after_t

    pub keeps_t : (q : Pattern) (n : ℕ) (K N S : List ℕ) → GoodT Q q n → SmallT q → Scan Q (after_t q n) K N S → RowsT q n K N S
    keeps_t (symbol f ps) n K N S g h s = symbol_row refl h.0 (keeps_f ps n K N S g h.1 s)
    keeps_t (individual x) n K N S g h s = variable_row an_individual refl refl g s
    keeps_t (function x ps) n K N S g h s = variable_row a_function refl tt g.0 (keeps_f ps (after x n) K N S g.1 h s)
    keeps_t (context x q) n K N S g h s = over_term x q n K N S g.0 (keeps_t q (after x n) K N S g.1 h s)

    pub keeps_f : (ps : Patterns) (n : ℕ) (K N S : List ℕ) → GoodF Q ps n → SmallF ps → Scan Q (after_f ps n) K N S → RowsF ps n K N S
    keeps_f nil n K N S g h s = s
    keeps_f (cons q ps) n K N S g h s =
        let r = keeps_f ps (after_t q n) K N S g.1 h.1 s in
        before q ps n K N S (keeps_t q n (labels (tree_f the_kind ps) ++ K) (labels (tree_f the_name ps) ++ N) (sizes (tree_f the_name ps) ++ S) g.0 h.0 r)
    keeps_f (sequence x ps) n K N S g h s = variable_row a_sequence refl refl g.0 (keeps_f ps (after x n) K N S g.1 h s)
