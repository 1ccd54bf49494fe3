-- Not needed to believe the promise: numbers that are written one after another, and what stands where, for the contracts of functions
-- that only this crate calls.
use Rattle.std.specs.Prelude.{ℕ, zero, suc, ◌+◌, ◌-◌, ◌≤◌, ◌≡◌, List, [], ◌∷◌, length, get_or}
use Rattle.std.proofs.lemmas.List.Edits.{sets}
use Rattle.std.proofs.Math.Decide.{dec_lt}
use Rattle.meaning.specs.Forest.{Forest}
use Rattle.meaning.specs.Pattern.{Kind}
use Rattle.meaning.specs.Matcher.{Value}
use Rattle.meaning.specs.Read.{read_off, GoodRecord}
use Rattle.tree.specs.Rows.{labels, sizes}
use Rattle.tree.specs.Places.{TermsAt}

-- what f gives for a, a + 1, .., k of them
unfoldable pub along : (ℕ → ℕ) → ℕ → ℕ → List ℕ
along f a zero = []
along f a (suc k) = f a ∷ along f (a + 1) k

abbrev pub number : List ℕ → ℕ → ℕ
number L u = get_or L u 0

-- the size of the row u where the term at the row b, of the size s, is replaced by one of m rows: rows above it grow
abbrev pub pick : {A : Type 0} → Dec A → ℕ → ℕ → ℕ
pick (yes h) a b = a
pick (no h) a b = b

unfoldable pub resized : List ℕ → ℕ → ℕ → ℕ → ℕ → ℕ
resized S b s m u = pick (dec_lt b (u + get_or S u 0)) (get_or S u 0 + m - s) (get_or S u 0)

-- the tree R of the rows, and a good record for it
pub record Ground (L S W : List ℕ) (Q : List Kind) (R : Forest) : Type 0 where
  pub tree : TermsAt L S 0 (length S) R
  pub few : length S ≤ 2048
  pub good : GoodRecord Q R W

-- the substitution that the record means
abbrev pub meant : List ℕ → List Kind → Forest → List Value
meant W Q R = read_off Q R W

-- n rows fit from t on, and no size is too large
pub record Room (OL OS : List ℕ) (t n : ℕ) : Type 0 where
  pub labelled : t + n ≤ length OL
  pub sized : t + n ≤ length OS
  pub few : n ≤ 2048

-- the sequence is written from t on
pub record Written (OL OS NL NS : List ℕ) (t : ℕ) (f : Forest) : Type 0 where
  pub labelled : NL ≡ sets OL t (labels f)
  pub sized : NS ≡ sets OS t (sizes f)
