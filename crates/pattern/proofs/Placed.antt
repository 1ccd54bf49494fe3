-- The rows of a good pattern stand at their places.
use Prim.Native.Nat.{ℕ, ◌+◌, ◌<◌, ◌≤◌}
use mathlib.Core.Path.{◌≡◌, ◌∙◌, sym}
use mathlib.Core.List.{List}
use lib.ListN.{length, get_or}
use native.Mathlib.Omega.{arith}
use Rattle.meaning.specs.Forest.{Forest, some, rows}
use Rattle.meaning.specs.Pattern.{Pattern, symbol, individual, function, context, Patterns, nil, cons, sequence, Kind, Comes, after, after_t, GoodT, GoodF}
use Rattle.meaning.proofs.Lists.{look_old}
use Rattle.tree.specs.Places.{TermsAt, stop, step, TermAt}
use Rattle.tree.proofs.Terms.{terms_end}
use Rattle.tree.proofs.Lists.{all_at}
use Rattle.pattern.specs.Rows.{tree_t, tree_f, the_kind, the_name, GoodPattern}
use Rattle.pattern.specs.Lists.{kind_tree, name_tree}
use Rattle.pattern.specs.Places.{PatternRow, Variable, PatternAt, at_symbol, at_individual, at_function, at_context, PatternsAt, at_nil, at_cons, at_sequence}
use Rattle.pattern.proofs.Unique.{kind_sizes}

module _ {L S : List ℕ} {t l : ℕ} {us : Forest} (x : TermAt L S t l us) where
  term_args : TermsAt L S (t + 1) (t + get_or S t 0) us
  term_args = rw x.row.size x.inner

  term_in : (t < length L) × (t < length S)
  term_in = let h = terms_end x.inner in (omega (arith, h.0), omega (arith, h.1))

-- the first term of a sequence, and the rest
record Parts (L S : List ℕ) (t e l : ℕ) (us rest : Forest) : Type 0 where
  first : TermAt L S t l us
  within : t + get_or S t 0 ≤ e
  more : TermsAt L S (t + get_or S t 0) e rest

parts : {L S : List ℕ} {t e l : ℕ} {us rest : Forest} → TermsAt L S t e (some l us rest) → Parts L S t e l us rest
parts (step r i b k) = record { first = record { row = r; inner = i }; within = omega (arith, r.size); more = rw r.size k }

-- two trees of the same sizes: kinds and names
module _ {K N S : List ℕ} where
  row_at : {p k x : ℕ} {us vs : Forest} → TermAt K S p k us → TermAt N S p x vs → PatternRow K N S p k x
  row_at a b =
      record {
        in_kind = (term_in a).0;
        in_name = (term_in b).0;
        in_size = (term_in a).1;
        kinded = a.row.label;
        named = b.row.label;
        some = omega (arith, a.row.size);
      }

variable : {Q : List Kind} {x n : ℕ} {v : Kind} → length Q ≤ 16 → Comes Q x v n → Variable Q v x
variable {Q} {x} {n} {v} few c = record { few = omega (arith, look_old Q x v c.kept); kept = c.kept }

module _ {K N S : List ℕ} {Q : List Kind} (few : length Q ≤ 16) where
  mutual
    unfolding tree_t GoodT rows

    pub placed_t : (q : Pattern) (n p : ℕ) → TermAt K S p (tree_t the_kind q).label (tree_t the_kind q).args
        → TermAt N S p (tree_t the_name q).label (tree_t the_name q).args
        → GoodT Q q n → PatternAt K N S Q p q
    placed_t (symbol f ps) n p a b g = at_symbol (row_at a b) (placed_f ps n (p + 1) (p + get_or S p 0) (term_args a) (term_args b) g)
    placed_t (individual x) n p a b g = at_individual (row_at a b) (variable few g) a.row.size
    placed_t (function x ps) n p a b g =
        at_function (row_at a b) (variable few g.0) (placed_f ps (after x n) (p + 1) (p + get_or S p 0) (term_args a) (term_args b) g.1)
    placed_t (context x q) n p a b g =
        let c = parts (term_args a) in
        let d = parts (term_args b) in
        at_context (row_at a b) (variable few g.0) (omega (arith, a.row.size, c.first.row.size)) (placed_t q (after x n) (p + 1) c.first d.first g.1)

    pub placed_f : (ps : Patterns) (n p e : ℕ) → TermsAt K S p e (tree_f the_kind ps)
        → TermsAt N S p e (tree_f the_name ps) → GoodF Q ps n → PatternsAt K N S Q p e ps
    placed_f nil n p e (stop a b c) d g = at_nil a b
    placed_f (cons q ps) n p e a b g =
        let c = parts a in
        let d = parts b in
        at_cons (placed_t q n p c.first d.first g.0) c.within (placed_f ps (after_t q n) (p + get_or S p 0) e c.more d.more g.1)
    placed_f (sequence x ps) n p e a b g =
        let c = parts a in
        let d = parts b in
        let z : get_or S p 0 ≡ 1 = c.first.row.size in
        at_sequence {e = e} (row_at c.first d.first) (variable few g.0) z (omega (arith, c.within))
        (placed_f ps (after x n) (p + 1) e (rw z at c.more) (rw z at d.more) g.1)

pub good_placed : {K N S : List ℕ} {P : Pattern} {Q : List Kind} → GoodPattern K N S P Q → PatternAt K N S Q 0 P
good_placed {P = P} g =
    let a = parts (all_at (kind_tree P) g.kinds (g.sized ∙ sym (kind_sizes P))) in
    let b = parts (all_at (name_tree P) g.names g.sized) in
    placed_t g.bounded P 0 0 a.first b.first g.numbered.numbered
