-- What keeping the rules says of one row, and of the rows behind it.
use Prim.Native.Nat.{ℕ, ◌+◌, ◌<◌, ◌≤◌}
use mathlib.Core.Path.{◌≡◌, ap, ◌∙◌, sym}
use mathlib.Core.List.{List, [], ◌∷◌, ◌++◌}
use lib.ListN.{length, get_or}
use native.Mathlib.Omega.{arith}
use Rattle.meaning.specs.Pattern.{Kind, old, Comes, after}
use Rattle.meaning.specs.Reached.{Begins}
use Rattle.meaning.proofs.Lists.{look_old, look_end, look_less, pre_look, pre_more, pre_last}
use Rattle.pattern.specs.Rows.{code}
use Rattle.pattern.specs.Answer.{listed}
use Rattle.pattern.specs.Scan.{Sized, Scan, symbol_row, variable_row, RowSized, of_symbol, of_variable, Named, small_symbol, large_symbol, same_kind, other_kind, next, too_many, left_out}
use Rattle.pattern.specs.declared.Naming.TheVariants.{Bad, Known, New}
use Rattle.pattern.proofs.Listed.{one_code, code_some, listed_look, look_listed}

-- A are the kinds of the n variables that have appeared: below n a name has the kind that it had
module _ {Q : List Kind} (A : List Kind) {n x : ℕ} (v : Kind) (many : length A ≡ n) (b : Begins A Q) (h : x < n) where
  kind_kept : Comes Q x v n → get_or (listed A) x 0 ≡ code v
  kind_kept c = listed_look A x v (look_less A b.rest x v (omega arith) (rw b.is at c.kept))

  known_comes : get_or (listed A) x 0 ≡ code v → Comes Q x v n
  known_comes e = record { near = omega arith; kept = pre_look x v b (look_listed A x v (omega arith) e) }

-- one row: its kind k, name x and size s, and the rows behind it
module _ {Q : List Kind} {n k x s : ℕ} {K N S : List ℕ} where
  pub unsized : (RowSized k s K S → ⊥) → Scan Q n (k ∷ K) (x ∷ N) (s ∷ S) → ⊥
  unsized h (symbol_row e b r) = h (of_symbol e)
  unsized h (variable_row v e z c r) = h (of_variable v e z)

  module _ (A : List Kind) (many : length A ≡ n) where
    pub misnamed : Begins A Q → length Q ≤ 16 → Named (listed A) k x n Bad → Scan Q n (k ∷ K) (x ∷ N) (s ∷ S) → ⊥
    misnamed b few (large_symbol d l) (symbol_row e h r) = omega arith
    misnamed b few (large_symbol d l) (variable_row v e z c r) = code_some v (sym e ∙ d)
    misnamed b few (other_kind d l f) (symbol_row e h r) = d e
    misnamed b few (other_kind d l f) (variable_row v e z c r) = f (kind_kept A v many b l c ∙ sym e)
    misnamed b few (too_many d l f) (symbol_row e h r) = d e
    misnamed b few (too_many d l f) (variable_row v e z c r) = omega (arith, look_old Q x v c.kept)
    misnamed b few (left_out d l) (symbol_row e h r) = d e
    misnamed b few (left_out d l) (variable_row v e z c r) = omega (arith, c.near)

    pub known_forth : Named (listed A) k x n Known → Scan Q n (k ∷ K) (x ∷ N) (s ∷ S) → Scan Q n K N S
    known_forth (small_symbol d l) (symbol_row e h r) = r
    known_forth (small_symbol d l) (variable_row v e z c r) = absurd (code_some v (sym e ∙ d))
    known_forth (same_kind d l f) (symbol_row e h r) = absurd (d e)
    known_forth (same_kind d l f) (variable_row v e z c r) = let m : after x n ≡ n = omega arith in rw m at r

    pub known_back : Begins A Q → RowSized k s K S → Named (listed A) k x n Known → Scan Q n K N S → Scan Q n (k ∷ K) (x ∷ N) (s ∷ S)
    known_back b z (small_symbol d l) r = symbol_row d l r
    known_back b (of_symbol e) (same_kind d l f) r = absurd (d e)
    known_back b (of_variable v e z) (same_kind d l f) r =
        let m : n ≡ after x n = omega arith in
        variable_row v e z (known_comes A v many b l (f ∙ e)) (rw m at r)

    pub new_forth : (v : Kind) → k ≡ code v → Begins A Q → Named (listed A) k x n New → Scan Q n (k ∷ K) (x ∷ N) (s ∷ S)
        → Begins (A ++ (v ∷ [])) Q × Scan Q (n + 1) K N S
    new_forth v q b (next d l f) (symbol_row e h r) = absurd (d e)
    new_forth v q b (next d l f) (variable_row w e z c r) =
        let m : after x n ≡ n + 1 = omega arith in
        let o : w ≡ v = one_code w v (sym e ∙ q) in
        (pre_more x v b (look_end A x (omega arith)) (c.kept ∙ ap old o), rw m at r)

    pub new_back : (v : Kind) → k ≡ code v → Sized v s K S → Begins (A ++ (v ∷ [])) Q → Named (listed A) k x n New
        → Scan Q (n + 1) K N S → Scan Q n (k ∷ K) (x ∷ N) (s ∷ S)
    new_back v q z b (next d l f) r =
        let m : n + 1 ≡ after x n = omega arith in
        variable_row {n = n} {x = x} v q z (record { near = omega arith; kept = pre_last A x v b (look_end A x (omega arith)) }) (rw m at r)
