-- What each return of the functions that judge one variable's numbers says.
use Prim.Native.Nat.{ℕ, ◌+◌, ◌<◌, ◌≤◌}
use mathlib.Core.Path.{◌≡◌}
use mathlib.Core.Bool.{false}
use mathlib.Core.List.{List}
use lib.ListN.{length, get_or}
use lib.Dec.{eqb, leb, ltb}
use native.Mathlib.Omega.{arith}
use borrow.Author.Tests.{eqb-true, eq-eqb, leb-true, le-leb, ltb-true, lt-ltb}
use Rattle.meaning.specs.Forest.{Forest, terms, size}
use Rattle.meaning.specs.Pattern.{an_individual, a_sequence, a_function, a_context}
use Rattle.meaning.specs.Read.{forest_from_row, head_term}
use Rattle.meaning.proofs.From.{from_past}
use Rattle.meaning.proofs.Laws.{terms_few}
use Rattle.tree.specs.Places.{TermsAt, stop, step}
use Rattle.tree.specs.Helpers.{CountPost, ListPost}
use Rattle.meaning.proofs.Answers.{says_no}
use Rattle.tree.proofs.Terms.{terms_rows}
use Rattle.tree.proofs.Cuts.{from_row}
use Rattle.record.specs.Pairs.{FitsPost}

-- a row beyond the tree
pub row_out : {S : List ℕ} {a b : ℕ} → length S ≤ a → FitsPost S an_individual a b false × FitsPost S a_function a b false
row_out h = (record { is = λ L R r. says_no (λ f. omega (arith, terms_rows r)) }, record { is = λ L R r. says_no (λ f. omega (arith, terms_rows r)) })

pub row_in : {S : List ℕ} {a : ℕ} (b : ℕ) → a < length S → FitsPost S an_individual a b (eqb b 0) × FitsPost S a_function a b (eqb b 0)
row_in b h = (
  record { is = λ L R r. (λ e. (omega (arith, terms_rows r), eqb-true b 0 e), λ f. eq-eqb b 0 f.1) },
  record { is = λ L R r. (λ e. (omega (arith, terms_rows r), eqb-true b 0 e), λ f. eq-eqb b 0 f.1) },
)

-- a sequence that starts beyond the tree, at its end, or in it
pub sequence_out : {S : List ℕ} {a b : ℕ} → length S < a → FitsPost S a_sequence a b false
sequence_out h = record { is = λ L R r. says_no (λ f. omega (arith, terms_rows r)) }

pub sequence_end : {S : List ℕ} {a : ℕ} (b : ℕ) → length S ≡ a → FitsPost S a_sequence a b (eqb b 0)
sequence_end {S} {a} b h =
    record {
      is = λ L R r.
          let none_left : terms (forest_from_row R a) ≡ 0 = omega (arith, terms_few (forest_from_row R a), from_past R a (omega (arith, terms_rows r))) in
          (λ e. (omega (arith, terms_rows r), omega (arith, eqb-true b 0 e)), λ f. eq-eqb b 0 (omega (arith, f.1)));
    }

pub sequence_in : {S : List ℕ} {a e n : ℕ} (b : ℕ) → a < length S → ListPost S a e → CountPost S a e n → FitsPost S a_sequence a b (leb b n)
sequence_in {S} {a} {e} {n} b h p q =
    record {
      is = λ L R r.
          let many : n ≡ terms (forest_from_row R a) = q.is L (forest_from_row R a) (p.is L R r) in
          (λ t. (omega (arith, terms_rows r), omega (arith, leb-true b n t)), λ f. le-leb b n (omega (arith, f.1)));
    }

-- a context beyond the tree, above its start, or in it
pub context_out : {S : List ℕ} {a b : ℕ} → length S ≤ a → FitsPost S a_context a b false
context_out h = record { is = λ L R r. says_no (λ f. omega (arith, terms_rows r, f.0)) }

pub context_above : {S : List ℕ} {a b : ℕ} → b < a → FitsPost S a_context a b false
context_above h = record { is = λ L R r. says_no (λ f. omega (arith, f.1)) }

head_size : {L S : List ℕ} {a e : ℕ} {f : Forest} → TermsAt L S a e f → a < e → size (head_term f) ≡ get_or S a 0
head_size (stop h i j) l = absurd (omega arith)
head_size (step r i b k) l = omega (arith, r.size)

pub context_in : {S : List ℕ} {a : ℕ} (b e : ℕ) → a < length S → a ≤ b → e ≡ a + get_or S a 0 → FitsPost S a_context a b (ltb b e)
context_in {S} {a} b e h l q =
    record {
      is = λ L R r.
          let w = (from_row a r h).0 in
          let z = head_size w.here w.later in
          (λ t. (omega (arith, terms_rows r), l, omega (arith, ltb-true b e t)), λ f. lt-ltb b e (omega (arith, f.2)));
    }
