-- The forest of good lists is one, and its rows stand at their places.
use Prim.Native.Nat.{ℕ, ◌≤◌}
use mathlib.Core.Path.{◌≡◌, refl, ap, ◌∙◌, sym}
use mathlib.Core.List.{List}
use lib.ListN.{length}
use native.Mathlib.Omega.{arith}
use Rattle.meaning.specs.Forest.{Forest, none, Term, term, ◌◂◌, rows}
use Rattle.tree.specs.Rows.{labels, sizes, Below, GoodTree, GoodRows}
use Rattle.tree.specs.Shape.{Shape}
use Rattle.tree.specs.Places.{TermsAt, step, TermAt}
use Rattle.tree.proofs.Compare.{one_sequence}
use Rattle.tree.proofs.Lists.{all_at, labels_rows, sizes_rows, relabelled}

-- labels and sizes tell sequences apart
pub one_forest : (f g : Forest) → labels f ≡ labels g → sizes f ≡ sizes g → f ≡ g
one_forest f g p q = one_sequence (all_at f refl refl) (all_at g p q)

the_term : (T U : Term) → T ◂ none ≡ U ◂ none → T ≡ U
the_term T U e =
    let p : T.label ≡ U.label = cc in
    let q : T.args ≡ U.args = cc in
    ap (λ (l : ℕ). term l T.args) p ∙ ap (λ (us : Forest). term U.label us) q

module _ {L S : List ℕ} {T : Term} (good : GoodTree L S T) where
  pub good_at : TermsAt L S 0 (length L) (T ◂ none)
  good_at = all_at (T ◂ none) good.labelled good.sized

  pub good_term : TermAt L S 0 T.label T.args
  good_term = go good_at
    where
      go : {e : ℕ} → TermsAt L S 0 e (T ◂ none) → TermAt L S 0 T.label T.args
      go (step r i b k) = record { row = r; inner = i }

  pub good_lengths : (length L ≡ rows (T ◂ none)) × (length S ≡ length L)
  good_lengths =
      let a = ap length good.labelled ∙ labels_rows (T ◂ none) in
      let b = ap length good.sized ∙ sizes_rows (T ◂ none) in
      (a, b ∙ sym a)

pub unique : {L S : List ℕ} {T U : Term} → GoodTree L S T → GoodTree L S U → T ≡ U
unique {T = T} {U = U} x y = the_term T U (one_sequence (good_at x) (good_at y))

-- what the check looks at is what good means
pub shape_good : {L S : List ℕ} → length L ≡ length S → length L ≤ 2048 → Below 65536 L → Shape S → GoodRows L S
shape_good {L} {S} same few small (T, sized, shallow) =
    let z : length L ≡ rows (T ◂ none) = same ∙ ap length sized ∙ sizes_rows (T ◂ none) in
    let w = relabelled T L z in
    (w.0, record { labelled = sym w.1; sized = sized ∙ sym w.2; few = few; shallow = omega (arith, w.3); small = small })

pub good_shape : {L S : List ℕ} → GoodRows L S → Shape S
good_shape (T, g) = (T, g.sized, g.shallow)
