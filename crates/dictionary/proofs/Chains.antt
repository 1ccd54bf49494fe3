-- A spelling is found by the chain of its bucket.
use mathlib.Core.Path.{◌≡◌, sym, ap, ◌∙◌}
use mathlib.Core.Bool.{Bool, true, false, true≢false}
use mathlib.Core.List.{List, []}
use Prim.Native.Nat.{ℕ, ◌+◌, ◌-◌, ◌*◌, ◌≤◌, ◌<◌}
use native.Mathlib.Omega.{arith}
use native.Mathlib.Decide.{ℕ_discrete}
use lib.ListN.{length, get_or}
use Rattle.meaning.specs.Calls.{Says}
use Rattle.dictionary.specs.Scan.{range}
use Rattle.dictionary.specs.Numbers.{place_of}
use Rattle.dictionary.specs.Index.{name_bucket, Link, Indexed, MayNumber}
use Rattle.dictionary.proofs.Numbers.{place_at, place_none}
use Rattle.dictionary.proofs.Buckets.{bucket_below}

-- q - 1 is the last place that may still hold w
pub record Sought (known : List (List ℕ)) (w : List ℕ) (q : ℕ) : Type 0 where
  pub below : q ≤ length known
  pub belongs : 0 < q → name_bucket (get_or known (q - 1) []) ≡ name_bucket w
  pub last : (i : ℕ) → i < length known → get_or known i [] ≡ w → i < q

pub sought_first : {known : List (List ℕ)} {w : List ℕ} {q : ℕ} → Link known (name_bucket w) (length known) q → Sought known w q
sought_first l = record { below = l.below; belongs = l.belongs; last = λ i p e. l.last i p (ap name_bucket e) }

pub sought_next : {known : List (List ℕ)} {w : List ℕ} {q r : ℕ} → Sought known w q → 0 < q → (get_or known (q - 1) [] ≡ w → ⊥) →
    Link known (name_bucket (get_or known (q - 1) [])) (q - 1) r → Sought known w r
sought_next {known} {w} {q} {r} s h n l = record {
  below = omega (arith, l.below, s.below);
  belongs = λ p. l.belongs p ∙ s.belongs h;
  last = λ i p e. l.last i (before i p e) (ap name_bucket e ∙ sym (s.belongs h));
}
  where
    before : (i : ℕ) → i < length known → get_or known i [] ≡ w → i < q - 1
    before i p e = elim (ℕ_discrete i (q - 1)) [
      | yes z ↦ absurd (n (ap (λ (k : ℕ). get_or known k []) (sym z) ∙ e))
      | no z ↦ omega (arith, s.last i p e)
    ]

pub sought_none : {known : List (List ℕ)} {w : List ℕ} {q : ℕ} → Sought known w q → q ≤ 0 → place_of known w ≡ length known
sought_none {known} {w} s h = place_none known w (λ i p e. omega (arith, s.last i p e))

pub sought_found : {dictionary document index : List ℕ} {names : ℕ} {known : List (List ℕ)} {w : List ℕ} (j : ℕ) →
    Indexed dictionary document names index known → j < length known → get_or known j [] ≡ w → place_of known w ≡ j
sought_found {known = known} {w = w} j x h e = place_at known w j h e (λ i p q. x.different i j p h (q ∙ sym e))

-- A WALK ALONG A CHAIN
module _ {dictionary document : List ℕ} {names : ℕ} {index : List ℕ} {count start end : ℕ} {known : List (List ℕ)}
    (m : MayNumber dictionary document names index count start end known) where
  pub seek_begins : {bucket next : ℕ} → bucket ≡ name_bucket (range document start end) → next ≡ get_or index bucket 0 → Sought known (range document start end) next
  seek_begins is_bucket is_next = sought_first (rw (is_next, is_bucket) (m.indexed.head (name_bucket (range document start end)) (bucket_below (range document start end))))

  pub seek_place : {next : ℕ} → Sought known (range document start end) next → 0 < next → next - 1 < count
  seek_place s h = omega (arith, s.below, m.counted)

  pub seek_falls : (next : ℕ) {then : ℕ} → next - 1 < count → then ≡ get_or index (2050 + 3 * (next - 1)) 0 → then ≤ next - 1
  seek_falls next h is = omega (arith, (m.indexed.before (next - 1) (omega (arith, m.counted))).below)

  pub seek_found : (place : ℕ) (r : Bool) → place < count → Says r (get_or known place [] ≡ range document start end) → r ≡ true → place ≡ place_of known (range document start end)
  seek_found place r h says t = sym (sought_found place m.indexed (omega (arith, m.counted)) (says.0 t))

  pub seek_next : {next then : ℕ} (r : Bool) → Sought known (range document start end) next → 0 < next → Says r (get_or known (next - 1) [] ≡ range document start end) → r ≡ false →
      then ≡ get_or index (2050 + 3 * (next - 1)) 0 → Sought known (range document start end) then
  seek_next {next} r s h says f is =
      sought_next s h (λ e. true≢false (sym (says.1 e) ∙ f)) (rw is (m.indexed.before (next - 1) (omega (arith, s.below, m.counted))))

  pub seek_ends : {next : ℕ} → Sought known (range document start end) next → next ≤ 0 → count ≡ place_of known (range document start end)
  seek_ends s h = sym (sought_none s h ∙ m.counted)
