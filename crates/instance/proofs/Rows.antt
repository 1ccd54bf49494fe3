-- What each return of the function that counts one pattern row's rows says.
use Prim.Native.Nat.{ℕ, ◌+◌, ◌-◌, ◌<◌, ◌≤◌}
use mathlib.Core.Path.{◌≡◌, refl, ap, ◌∙◌, sym, subst}
use mathlib.Core.List.{List}
use lib.ListN.{length, get_or}
use native.Mathlib.Omega.{arith}
use Rattle.meaning.specs.Forest.{none, Term, term}
use Rattle.meaning.specs.Pattern.{Kind, an_individual, a_sequence, a_function, a_context}
use Rattle.meaning.specs.Matcher.{Value, at, as_context}
use Rattle.tree.specs.Helpers.{PastPre, PastPost}
use Rattle.tree.proofs.Terms.{terms_end, terms_le, terms_rows, term_next}
use Rattle.pattern.specs.Rows.{code}
use Rattle.pattern.specs.Places.{Variable}
use Rattle.pattern.proofs.Listed.{one_code, code_some}
use Rattle.instance.specs.Places.{meant}
use Rattle.instance.specs.Counting.{row_addition, RowIs, a_symbol, a_variable, RowPre, RowPost}
use Rattle.instance.proofs.Values.{its, individual_at, sequence_pre, sequence_is, context_at}
use Rattle.instance.proofs.Above.{plug_size, context_ends}
use Rattle.instance.proofs.Sums.{plug_adds, adds_individual, adds_sequence, adds_function, adds_context}

-- a row of a variable's kind has a variable of that kind, and any other row but a symbol's a variable
pub of_kind : {K N : List ℕ} {Q : List Kind} {p : ℕ} (v : Kind) → RowIs K N Q p → get_or K p 0 ≡ code v → Variable Q v (get_or N p 0)
of_kind v (a_symbol z) e = absurd (code_some v (sym e ∙ z))
of_kind {K} {N} {Q} {p} v (a_variable w z h) e = subst (λ (k : Kind). Variable Q k (get_or N p 0)) (one_code w v (sym z ∙ e)) h

pub some_variable : {K N : List ℕ} {Q : List Kind} {p : ℕ} → RowIs K N Q p → (get_or K p 0 ≡ 0 → ⊥) → (v : Kind) × Variable Q v (get_or N p 0)
some_variable (a_symbol z) n = absurd (n z)
some_variable (a_variable v z h) n = (v, h)

last_kind : (v : Kind) (k : ℕ) → k ≡ code v → (k ≡ 1 → ⊥) → (k ≡ 2 → ⊥) → (k ≡ 3 → ⊥) → v ≡ a_context
last_kind an_individual k e a b c = absurd (a e)
last_kind a_sequence k e a b c = absurd (b e)
last_kind a_function k e a b c = absurd (c e)
last_kind a_context k e a b c = refl

at_kind : (σ : List Value) (x : ℕ) {j k : ℕ} → j ≡ k → row_addition σ j x ≡ row_addition σ k x
at_kind σ x e = ap (λ (k : ℕ). row_addition σ k x) e

module _ {S K N W : List ℕ} {p : ℕ} where
  pub adds_symbol : get_or K p 0 ≡ 0 → RowPost S K N W p 1
  adds_symbol e = record { few = omega arith; is = λ L Q R g i. rw e }

  pub adds_function_row : get_or K p 0 ≡ 3 → RowPost S K N W p 1
  adds_function_row e = record { few = omega arith; is = λ L Q R g i. sym (at_kind (meant W Q R) (get_or N p 0) e ∙ adds_function g (of_kind a_function i e)) }

  pub reads_variable : RowPre S K N W p → (get_or K p 0 ≡ 0 → ⊥) → (get_or N p 0 < 16) × (get_or N p 0 + get_or N p 0 + 1 < length W)
  reads_variable h n =
      let v = some_variable h.some.4 n in
      (v.1.few, (its h.some.3 v.1).within)

  -- an individual variable's row
  pub individual_row : RowPre S K N W p → get_or K p 0 ≡ 1 → get_or W (get_or N p 0 + get_or N p 0) 0 < length S
  individual_row h e = (individual_at h.some.3 (of_kind an_individual h.some.4 e)).within

  pub adds_individual_row : RowPre S K N W p → get_or K p 0 ≡ 1 → RowPost S K N W p (get_or S (get_or W (get_or N p 0 + get_or N p 0) 0) 0)
  adds_individual_row h e =
      let n = term_next (individual_at h.some.3 (of_kind an_individual h.some.4 e)).here in
      record {
        few = omega (arith, n.in_sizes, h.some.3.few);
        is = λ L Q R g i.
            let v = of_kind an_individual i e in
            (individual_at g v).here.row.size ∙ sym (at_kind (meant W Q R) (get_or N p 0) e ∙ adds_individual g v);
      }

  -- a sequence variable's row
  pub past_row : RowPre S K N W p → get_or K p 0 ≡ 2 → PastPre S (get_or W (get_or N p 0 + get_or N p 0) 0) (get_or W (get_or N p 0 + get_or N p 0 + 1) 0)
  past_row h e = sequence_pre h.some.3 (of_kind a_sequence h.some.4 e)

  module _ {m : ℕ} (h : RowPre S K N W p) (e : get_or K p 0 ≡ 2) (q : PastPost S (get_or W (get_or N p 0 + get_or N p 0) 0) (get_or W (get_or N p 0 + get_or N p 0 + 1) 0) m) where
    pub sequence_row : get_or W (get_or N p 0 + get_or N p 0) 0 ≤ m
    sequence_row = terms_le (sequence_is h.some.3 (of_kind a_sequence h.some.4 e) q)

    pub adds_sequence_row : RowPost S K N W p (m - get_or W (get_or N p 0 + get_or N p 0) 0)
    adds_sequence_row =
        let f = sequence_is h.some.3 (of_kind a_sequence h.some.4 e) q in
        record {
          few = omega (arith, (terms_end f).1, h.some.3.few);
          is = λ L Q R g i.
              let v = of_kind a_sequence i e in
              omega (arith, terms_rows (sequence_is g v q), at_kind (meant W Q R) (get_or N p 0) e, adds_sequence g v);
        }

  -- a context variable's row
  module _ (h : RowPre S K N W p) (z : get_or K p 0 ≡ 0 → ⊥) (a : get_or K p 0 ≡ 1 → ⊥) (b : get_or K p 0 ≡ 2 → ⊥) (c : get_or K p 0 ≡ 3 → ⊥) where
    its_kind : {Q : List Kind} → RowIs K N Q p → get_or K p 0 ≡ code a_context
    its_kind (a_symbol y) = absurd (z y)
    its_kind (a_variable v y x) = y ∙ ap code (last_kind v (get_or K p 0) y a b c)

    pub context_row : (get_or W (get_or N p 0 + get_or N p 0) 0 < length S) × (get_or W (get_or N p 0 + get_or N p 0 + 1) 0 < length S)
        × (get_or S (get_or W (get_or N p 0 + get_or N p 0 + 1) 0) 0 ≤ get_or S (get_or W (get_or N p 0 + get_or N p 0) 0) 0)
    context_row =
        let i = h.some.4 in
        let x = context_at h.some.3 (of_kind a_context i (its_kind i)) in
        let n = term_next x.here in
        (n.sized, omega (arith, n.in_sizes, x.high), omega (arith, context_ends x.around, x.low))

    pub adds_context_row : RowPost S K N W p (get_or S (get_or W (get_or N p 0 + get_or N p 0) 0) 0 - get_or S (get_or W (get_or N p 0 + get_or N p 0 + 1) 0) 0)
    adds_context_row =
        let i = h.some.4 in
        let x = context_at h.some.3 (of_kind a_context i (its_kind i)) in
        let n = term_next x.here in
        record {
          few = omega (arith, n.in_sizes, h.some.3.few);
          is = λ L Q R g j.
              let v = of_kind a_context j (its_kind j) in
              let y = context_at g v in
              let U : Term = term 0 none in
              omega (arith, plug_size U y.around, plug_adds (as_context (at (meant W Q R) (get_or N p 0))) U, at_kind (meant W Q R) (get_or N p 0) (its_kind j), adds_context g v);
        }
