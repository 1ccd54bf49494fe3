-- Each turn of the scan: what is asked of the rows from here on.
use Prim.Native.Nat.{ℕ, ◌+◌, ◌<◌, ◌≤◌}
use mathlib.Core.Path.{◌≡◌, refl, sym}
use mathlib.Core.List.{List, [], ◌∷◌, ◌++◌}
use lib.ListN.{length, get_or, set, drop, length-append, drop_of_length-le}
use lib.Seq.{drop-cons}
use native.Mathlib.Omega.{arith}
use native.Mathlib.Numerals.{add-one}
use Rattle.meaning.specs.Pattern.{Kind}
use Rattle.meaning.specs.Reached.{Begins}
use Rattle.meaning.proofs.Lists.{pre_less, pre_refl}
use Rattle.pattern.specs.Answer.{listed}
use Rattle.pattern.specs.Scan.{Scan, end, of_symbol, of_variable, SizedAt, Named, next}
use Rattle.pattern.specs.declared.Naming.TheVariants.{Bad, Known, New}
use Rattle.pattern.proofs.Listed.{listed_length, listed_set}
use Rattle.pattern.proofs.OneRow.{unsized, misnamed, known_forth, known_back, new_forth, new_back}

-- the rows before i are passed and n variables have appeared: the whole keeps the rules if and only if the rest does
pub record Seen (K N S : List ℕ) (i n : ℕ) (kinds : List ℕ) : Type 0 where
  pub variables : List Kind
  pub many : length variables ≡ n
  pub few : n ≤ 16
  pub kept : kinds ≡ listed variables
  pub forth : (Q : List Kind) → Scan Q 0 K N S → Begins variables Q × Scan Q n (drop i K) (drop i N) (drop i S)
  pub back : (Q : List Kind) → Begins variables Q → Scan Q n (drop i K) (drop i N) (drop i S) → Scan Q 0 K N S

pub seen_room : {K N S : List ℕ} {i n : ℕ} {kinds : List ℕ} → Seen K N S i n kinds → length kinds ≡ 16
seen_room e = rw e.kept (listed_length e.variables (omega (arith, e.many, e.few)))

pub seen_none : (K N S : List ℕ) → Seen K N S 0 0 (listed [])
seen_none K N S =
    record {
      variables = [];
      many = refl;
      few = omega arith;
      kept = refl;
      forth = λ Q s. (record { rest = Q; is = refl }, s);
      back = λ Q b s. s;
    }

pub seen_all : {K N S : List ℕ} {i n : ℕ} {kinds : List ℕ} → Seen K N S i n kinds → length N ≡ length K → length S ≡ length K → length K ≤ i
    → (Q : List Kind) × (length Q ≤ 16) × Scan Q 0 K N S × (n ≡ length Q) × (kinds ≡ listed Q)
seen_all {K} {N} {S} {i} {n} e named sized k =
    let A = e.variables in
    let q : n ≡ length A = sym e.many in
    let m = drop_of_length-le N {i = i} (omega arith) in
    let z = drop_of_length-le S {i = i} (omega arith) in
    let r : Scan A n (drop i K) (drop i N) (drop i S) = rw (drop_of_length-le K k, m, z) (end q) in
    (A, omega (arith, e.few), e.back A pre_refl r, q, e.kept)

opened : (L : List ℕ) (i : ℕ) → i < length L → drop i L ≡ get_or L i 0 ∷ drop (i + 1) L
opened L i h = rw (add-one i) (drop-cons L i 0 h)

-- the row i: its kind, name and size
module _ {K N S : List ℕ} {i n : ℕ} {kinds : List ℕ} (e : Seen K N S i n kinds)
    (named : length N ≡ length K) (sized : length S ≡ length K) (inside : i < length K) where
  abbrev Here : List Kind → Type 0
  Here Q = Scan Q n (get_or K i 0 ∷ drop (i + 1) K) (get_or N i 0 ∷ drop (i + 1) N) (get_or S i 0 ∷ drop (i + 1) S)

  here : (Q : List Kind) → Scan Q 0 K N S → Begins e.variables Q × Here Q
  here Q s = let f = e.forth Q s in (f.0, rw (opened K i inside, opened N i (omega arith), opened S i (omega arith)) at f.1)

  back_here : (Q : List Kind) → Begins e.variables Q → Here Q → Scan Q 0 K N S
  back_here Q b s = e.back Q b (rw (opened K i inside, opened N i (omega arith), opened S i (omega arith)) s)

  pub seen_unsized : (SizedAt K S i → ⊥) → (Q : List Kind) → length Q ≤ 16 → Scan Q 0 K N S → ⊥
  seen_unsized h Q few s = unsized h (here Q s).1

  pub seen_misnamed : Named kinds (get_or K i 0) (get_or N i 0) n Bad → (Q : List Kind) → length Q ≤ 16 → Scan Q 0 K N S → ⊥
  seen_misnamed b Q few s = let f = here Q s in misnamed e.variables e.many f.0 few (rw e.kept at b) f.1

  pub seen_known : SizedAt K S i → Named kinds (get_or K i 0) (get_or N i 0) n Known → Seen K N S (i + 1) n kinds
  seen_known z b =
      let A = e.variables in
      let d = rw e.kept at b in
      record {
        variables = A;
        many = e.many;
        few = e.few;
        kept = e.kept;
        forth = λ Q s. let f = here Q s in (f.0, known_forth A e.many d f.1);
        back = λ Q p s. back_here Q p (known_back A e.many p z d s);
      }

  pub seen_new : SizedAt K S i → Named kinds (get_or K i 0) (get_or N i 0) n New → Seen K N S (i + 1) (n + 1) (set kinds n (get_or K i 0))
  seen_new (of_symbol q) (next d l f) = absurd (d q)
  seen_new (of_variable v q z) (next d l f) =
      let A = e.variables in
      let b : Named (listed A) (get_or K i 0) (get_or N i 0) n New = next d l f in
      record {
        variables = A ++ (v ∷ []);
        many = omega (arith, length-append A (v ∷ []), e.many);
        few = omega arith;
        kept = rw (e.kept, q, ← e.many) (listed_set A v (omega (arith, e.many)));
        forth = λ Q s. let f = here Q s in new_forth A e.many v q f.0 b f.1;
        back = λ Q p s. back_here Q (pre_less A v p) (new_back A e.many v q z p b s);
      }
