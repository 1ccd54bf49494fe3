-- What a lister needs to know of the walk: how many choices there can be, their ranges, the width of a record.
use Prim.Native.Nat.{ℕ, ◌+◌, ◌<◌, ◌≤◌}
use mathlib.Core.Path.{◌≡◌, refl, ap, ◌∙◌}
use mathlib.Core.Path.{sym as flip}
use mathlib.Core.List.{List, [], ◌∷◌, ◌++◌}
use lib.ListN.{length}
use native.Mathlib.Omega.{arith}
use Rattle.meaning.specs.Forest.{Forest, Term, ◌◂◌, rows, plug, hole_row, Context, hole, node}
use Rattle.meaning.proofs.Laws.{terms_few, rows_of}
use Rattle.meaning.specs.Pattern.{Pattern, Patterns, Kind, an_individual, a_sequence, a_function, a_context, old, look, after, after_t, GoodT, GoodF, Numbered}
use Rattle.meaning.specs.Matcher.{Value, of_individual, of_sequence, of_function, of_context, kind, kinds}
use Rattle.meaning.specs.Record.{Entry, second, numbers, record_of}
use Rattle.meaning.specs.Read.{values}
use Rattle.meaning.specs.Order.{choices}
use Rattle.meaning.proofs.Walk.{need, ok, walk}
use Rattle.meaning.specs.Reached.{Begins, UntilT, in_symbol, in_function, in_context, here_context, UntilF, in_first, in_rest, in_sequence, here_sequence}
use Rattle.meaning.proofs.Lists.{look_new, look_end, next_is}
use Rattle.meaning.proofs.Steps.{kinds_length, values_length, picked}
use Rattle.meaning.proofs.Theorems.{sound}
use Rattle.meaning.proofs.Asked.{asked_reached}

-- the number of choice variables
abbrev pub weight : Kind → ℕ
weight an_individual = 0
weight a_sequence = 1
weight a_function = 0
weight a_context = 1

abbrev pub count : List Kind → ℕ
count [] = 0
count (k ∷ Q) = weight k + count Q

pub choices_few : (Q : List Kind) (r : List ℕ) → length (choices Q r) ≤ count Q
choices_few [] r = omega arith
choices_few (k ∷ Q) [] = omega arith
choices_few (k ∷ Q) (a ∷ []) = omega arith
choices_few (an_individual ∷ Q) (a ∷ b ∷ r) = omega (arith, choices_few Q r)
choices_few (a_sequence ∷ Q) (a ∷ b ∷ r) = omega (arith, choices_few Q r)
choices_few (a_function ∷ Q) (a ∷ b ∷ r) = omega (arith, choices_few Q r)
choices_few (a_context ∷ Q) (a ∷ b ∷ r) = omega (arith, choices_few Q r)

pub picked_many : (B : List Entry) → length (picked B) ≡ count (kinds (values B))
picked_many [] = refl
picked_many (e ∷ B) = go e.value (picked_many B)
  where
    go : (v : Value) → length (picked B) ≡ count (kinds (values B))
        → length (choices (kind v ∷ kinds (values B)) (e.row ∷ second v e.row ∷ numbers B)) ≡ weight (kind v) + count (kinds (values B))
    go (of_individual l us) h = omega arith
    go (of_sequence f) h = omega arith
    go (of_function l) h = omega arith
    go (of_context c) h = omega arith

pub numbers_double : (B : List Entry) → length (numbers B) ≡ length B + length B
numbers_double [] = refl
numbers_double (e ∷ B) = omega (arith, numbers_double B)

count_more : (Q R : List Kind) → count (Q ++ R) ≡ count Q + count R
count_more [] R = omega arith
count_more (k ∷ Q) R = omega (arith, count_more Q R)

hole_fits : (c : Context) (T : Term) → hole_row c + rows T.args ≤ rows (plug c T).args
unfolding hole_row plug rows
hole_fits hole T = omega arith
hole_fits (node l left c right) T = omega (arith, hole_fits c T, rows_of left (plug c T ◂ right))

-- the variable that is asked for has a choice
pub record Next (Q : List Kind) (σ : List Value) : Type 0 where
  pub its : Kind
  pub stands : look Q (length σ) ≡ old its
  pub choice : weight its ≡ 1

count_next : {Q : List Kind} {σ : List Value} → Begins (kinds σ) Q → Next Q σ → count (kinds σ) < count Q
count_next {Q} {σ} p n =
    let e : look (kinds σ ++ p.rest) (length σ) ≡ old n.its = ap (λ (l : List Kind). look l (length σ)) (flip p.is) ∙ n.stands in
    let m = next_is (kinds σ) p.rest (length σ) n.its (look_end (kinds σ) (length σ) (flip (kinds_length σ))) e in
    let c = ap count p.is ∙ count_more (kinds σ) p.rest ∙ ap (λ (l : List Kind). count (kinds σ) + count l) m.1 in
    omega (arith, n.choice)

module _ (Q : List Kind) (σ : List Value) where
  mutual
    unfolding GoodT after_t

    next_t : {q : Pattern} {T : Term} {t lo hi : ℕ} → UntilT σ q T t lo hi → (n : ℕ) → GoodT Q q n → Next Q σ
    next_t (in_symbol e u) n g = next_f u n g
    next_t (in_function {x = x} e u) n g = next_f u (after x n) g.1
    next_t (in_context {x = x} c U e p u) n g = next_t u (after x n) g.1
    next_t (here_context {x = x} e a b) n g = record { its = a_context; stands = rw (← (look_new σ x e)) g.0.kept; choice = refl }

    next_f : {ps : Patterns} {us : Forest} {t lo hi : ℕ} → UntilF σ ps us t lo hi → (n : ℕ) → GoodF Q ps n → Next Q σ
    next_f (in_first u) n g = next_t u n g.0
    next_f (in_rest {q = q} b e u) n g = next_f u (after_t q n) g.1
    next_f (in_sequence {x = x} f rest e p u) n g = next_f u (after x n) g.1
    next_f (here_sequence {x = x} e a b) n g = record { its = a_sequence; stands = rw (← (look_new σ x e)) g.0.kept; choice = refl }

mutual
  unfolding rows

  small_t : {σ : List Value} {q : Pattern} {T : Term} {t lo hi : ℕ} → UntilT σ q T t lo hi → (lo ≤ hi) × (hi ≤ t + rows T.args)
  small_t (in_symbol e u) = omega (arith, small_f u (omega arith))
  small_t (in_function e u) = omega (arith, small_f u (omega arith))
  small_t (in_context c U e p u) = let h = small_t u in let k = hole_fits c U in rw (← p) (omega arith)
  small_t (here_context e a b) = omega arith

  small_f : {σ : List Value} {ps : Patterns} {us : Forest} {t lo hi : ℕ} → UntilF σ ps us t lo hi → 1 ≤ t → (lo ≤ hi) × (hi + 1 ≤ t + rows us)
  small_f (in_first u) z = omega (arith, small_t u)
  small_f (in_rest b e u) z = omega (arith, small_f u (omega arith))
  small_f (in_sequence f rest e p u) z = let h = small_f u (omega arith) in let k = rows_of f rest in rw (← p) (omega arith)
  small_f (here_sequence {us = us} e a b) z = omega (arith, terms_few us)

module _ (Allowed : ℕ → Value → Type 0) (allowed? : (x : ℕ) (v : Value) → Dec (Allowed x v)) where
  -- the variable that is asked for is a sequence or context variable
  pub asked_next : {Q : List Kind} {P : Pattern} (T : Term) (cs : List ℕ) {B : List Entry} {s lo hi : ℕ} → Numbered P Q → walk Allowed allowed? P T cs ≡ need B s lo hi → Next Q (values B)
  asked_next {Q} T cs {B} g e = next_t Q (values B) (asked_reached Allowed allowed? {T = T} {cs = cs} g e).0.matched 0 g.numbered

  pub tame_need : {Q : List Kind} {P : Pattern} (T : Term) (cs : List ℕ) {B : List Entry} {s lo hi : ℕ} → Numbered P Q → walk Allowed allowed? P T cs ≡ need B s lo hi
      → (length cs < count Q) × (lo ≤ hi) × (hi ≤ rows T.args)
  tame_need {Q} {P} T cs {B} g e =
      let r = asked_reached Allowed allowed? {T = T} {cs = cs} g e in
      let n = asked_next T cs g e in
      let s = small_t r.0.matched in
      let c = count_next r.0.right n in
      let d = choices_few (kinds (values B)) (record_of P (values B)) in
      let f = ap length r.1 in
      (omega arith, s.0, omega (arith, s.1))

  pub tame_ok : {Q : List Kind} {P : Pattern} (T : Term) (cs : List ℕ) {B : List Entry} {left : List ℕ} → Numbered P Q → walk Allowed allowed? P T cs ≡ ok B left
      → (length cs ≡ count Q) × (length (numbers B) ≡ length Q + length Q)
  tame_ok {Q} {P} T cs {B} g e =
      let r = sound Allowed allowed? {T = T} {cs = cs} g e in
      let k = r.solves.right in
      let l = ap length k in
      let m = kinds_length (values B) in
      (ap length r.chose ∙ rw (← k) (picked_many B), omega (arith, numbers_double B, values_length B))
