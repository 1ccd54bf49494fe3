-- The symbols of a good pattern are below 65,536, as all its names are: its variables' numbers are below 16.
use Prim.Native.Nat.{ℕ, ◌<◌, ◌≤◌}
use mathlib.Core.Path.{◌≡◌, subst}
use mathlib.Core.List.{List}
use lib.ListN.{length}
use native.Mathlib.Omega.{arith}
use Rattle.meaning.specs.Forest.{Forest, none, ◌◂◌}
use Rattle.meaning.specs.Pattern.{Pattern, symbol, individual, function, context, Patterns, nil, cons, sequence, Kind, Comes, after, after_t, GoodT, GoodF}
use Rattle.meaning.proofs.Lists.{look_old, Each, each_at, at_each, each_append, each_parts}
use Rattle.tree.specs.Rows.{labels, Below}
use Rattle.pattern.specs.Rows.{tree_t, tree_f, the_name}
use Rattle.pattern.specs.Lists.{name_rows}

unfoldable mutual
  pub SmallT : Pattern → Type 0
  SmallT (symbol f ps) = (f < 65536) × SmallF ps
  SmallT (individual x) = Unit {0}
  SmallT (function x ps) = SmallF ps
  SmallT (context x q) = SmallT q

  pub SmallF : Patterns → Type 0
  SmallF nil = Unit {0}
  SmallF (cons q ps) = SmallT q × SmallF ps
  SmallF (sequence x ps) = SmallF ps

module _ (Q : List Kind) (few : length Q ≤ 16) where
  low : {x : ℕ} {k : Kind} {n : ℕ} → Comes Q x k n → x < 65536
  low {x} {k} c = omega (arith, look_old Q x k c.kept)

  mutual
    unfolding labels tree_t GoodT SmallT after_t

    each_t : (q : Pattern) (n : ℕ) → GoodT Q q n → SmallT q → (rest : Forest) → Each 65536 (labels rest) → Each 65536 (labels (tree_t the_name q ◂ rest))
    each_t (symbol f ps) n g s rest r = (s.0, each_append 65536 (labels (tree_f the_name ps)) (labels rest) (each_f ps n g s.1) r)
    each_t (individual x) n g s rest r = (low g, r)
    each_t (function x ps) n g s rest r = (low g.0, each_append 65536 (labels (tree_f the_name ps)) (labels rest) (each_f ps (after x n) g.1 s) r)
    each_t (context x q) n g s rest r = (low g.0, each_append 65536 (labels (tree_t the_name q ◂ none)) (labels rest) (each_t q (after x n) g.1 s none tt) r)

    each_f : (ps : Patterns) (n : ℕ) → GoodF Q ps n → SmallF ps → Each 65536 (labels (tree_f the_name ps))
    each_f nil n g s = tt
    each_f (cons q ps) n g s = each_t q n g.0 s.0 (tree_f the_name ps) (each_f ps (after_t q n) g.1 s.1)
    each_f (sequence x ps) n g s = (low g.0, each_f ps (after x n) g.1 s)

mutual
  unfolding labels tree_t SmallT

  small_t : (q : Pattern) (rest : Forest) → Each 65536 (labels (tree_t the_name q ◂ rest)) → SmallT q
  small_t (symbol f ps) rest e = (e.0, small_f ps (each_parts 65536 (labels (tree_f the_name ps)) (labels rest) e.1).0)
  small_t (individual x) rest e = tt
  small_t (function x ps) rest e = small_f ps (each_parts 65536 (labels (tree_f the_name ps)) (labels rest) e.1).0
  small_t (context x q) rest e = small_t q none (each_parts 65536 (labels (tree_t the_name q ◂ none)) (labels rest) e.1).0

  small_f : (ps : Patterns) → Each 65536 (labels (tree_f the_name ps)) → SmallF ps
  small_f nil e = tt
  small_f (cons q ps) e = (
    small_t q (tree_f the_name ps) e,
    small_f ps (each_parts 65536 (labels (tree_t the_name q).args) (labels (tree_f the_name ps)) e.1).1,
  )
  small_f (sequence x ps) e = small_f ps e.1

pub names_below : {N : List ℕ} (P : Pattern) (Q : List Kind) → N ≡ name_rows P → GoodT Q P 0 → length Q ≤ 16 → SmallT P → Below 65536 N
unfolding labels
names_below {N} P Q e g few s = record { each = rw e (each_at 65536 (name_rows P) (each_t Q few P 0 g s none tt)) }

pub below_small : {N : List ℕ} (P : Pattern) → N ≡ name_rows P → Below 65536 N → SmallT P
below_small {N} P e b = small_t P none (subst (λ (l : List ℕ). Each 65536 l) e (at_each 65536 N b.each))
