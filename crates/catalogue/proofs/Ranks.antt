-- The order of records is by their second numbers, and that is the order of their choices.
use Prim.Native.Nat.{ℕ}
use mathlib.Core.Path.{◌≡◌, refl, ap, ◌∙◌}
use mathlib.Core.Logic.{inl, inr}
use mathlib.Core.List.{List, [], ◌∷◌}
use lib.ListN.{length}
use native.Mathlib.Omega.{arith}
use Rattle.meaning.specs.Forest.{Term}
use Rattle.meaning.specs.Pattern.{Pattern, Kind, an_individual, a_sequence, a_function, a_context, Numbered}
use Rattle.meaning.specs.Matcher.{Value, of_individual, of_sequence, of_function, of_context, kind, kinds, Solves}
use Rattle.meaning.specs.Record.{Entry, second, numbers, record_of}
use Rattle.meaning.specs.Read.{values, firsts}
use Rattle.meaning.specs.Order.{seconds, choices, ◌⊏◌}
use Rattle.meaning.proofs.Steps.{picked}
use Rattle.meaning.proofs.Tame.{count, picked_many}
use Rattle.meaning.proofs.Theorems.{complete}

abbrev spread : List Kind → List ℕ → List ℕ
spread [] v = []
spread (an_individual ∷ Q) v = 0 ∷ spread Q v
spread (a_function ∷ Q) v = 0 ∷ spread Q v
spread (a_sequence ∷ Q) [] = 0 ∷ spread Q []
spread (a_sequence ∷ Q) (x ∷ v) = x ∷ spread Q v
spread (a_context ∷ Q) [] = 0 ∷ spread Q []
spread (a_context ∷ Q) (x ∷ v) = x ∷ spread Q v

seconds_spread : (B : List Entry) → seconds (numbers B) ≡ spread (kinds (values B)) (picked B)
seconds_spread [] = refl
seconds_spread (e ∷ B) = go e.value (seconds_spread B)
  where
    go : (v : Value) → seconds (numbers B) ≡ spread (kinds (values B)) (picked B)
        → second v e.row ∷ seconds (numbers B) ≡ spread (kind v ∷ kinds (values B)) (choices (kind v ∷ kinds (values B)) (e.row ∷ second v e.row ∷ numbers B))
    go (of_individual l us) h = rw h
    go (of_sequence f) h = rw h
    go (of_function l) h = rw h
    go (of_context c) h = rw h

spread_order : (Q : List Kind) (u v : List ℕ) → length u ≡ count Q → length v ≡ count Q → u ⊏ v → spread Q u ⊏ spread Q v
spread_order [] u [] d e h = h
spread_order [] u (y ∷ v) d e h = absurd (omega arith)
spread_order (an_individual ∷ Q) u v d e h = inr (refl, spread_order Q u v (omega arith) (omega arith) h)
spread_order (a_function ∷ Q) u v d e h = inr (refl, spread_order Q u v (omega arith) (omega arith) h)
spread_order (a_sequence ∷ Q) u [] d e h = absurd h
spread_order (a_sequence ∷ Q) [] (y ∷ v) d e h = absurd (omega arith)
spread_order (a_sequence ∷ Q) (x ∷ u) (y ∷ v) d e (inl h) = inl h
spread_order (a_sequence ∷ Q) (x ∷ u) (y ∷ v) d e (inr h) = inr (h.0, spread_order Q u v (omega arith) (omega arith) h.1)
spread_order (a_context ∷ Q) u [] d e h = absurd h
spread_order (a_context ∷ Q) [] (y ∷ v) d e h = absurd (omega arith)
spread_order (a_context ∷ Q) (x ∷ u) (y ∷ v) d e (inl h) = inl h
spread_order (a_context ∷ Q) (x ∷ u) (y ∷ v) d e (inr h) = inr (h.0, spread_order Q u v (omega arith) (omega arith) h.1)

module _ (Allowed : ℕ → Value → Type 0) (allowed? : (x : ℕ) (v : Value) → Dec (Allowed x v)) where
  kinds_firsts : {Q : List Kind} {P : Pattern} {T : Term} {σ : List Value} → Numbered P Q → Solves Allowed Q σ P T → kinds (values (firsts P σ)) ≡ Q
  kinds_firsts g s = ap kinds (complete Allowed allowed? g s).1 ∙ s.right

  pub order : {Q : List Kind} {P : Pattern} {T : Term} {σ τ : List Value} → Numbered P Q → Solves Allowed Q σ P T → Solves Allowed Q τ P T
      → choices Q (record_of P σ) ⊏ choices Q (record_of P τ) → seconds (record_of P σ) ⊏ seconds (record_of P τ)
  order {Q} {P} {T} {σ} {τ} g s u h =
      let a = kinds_firsts g s in
      let b = kinds_firsts g u in
      let d : length (choices Q (record_of P σ)) ≡ count Q = rw (← a) (picked_many (firsts P σ)) in
      let e : length (choices Q (record_of P τ)) ≡ count Q = rw (← b) (picked_many (firsts P τ)) in
      let x : seconds (record_of P σ) ≡ spread Q (choices Q (record_of P σ)) = rw (← a) (seconds_spread (firsts P σ)) in
      let y : seconds (record_of P τ) ≡ spread Q (choices Q (record_of P τ)) = rw (← b) (seconds_spread (firsts P τ)) in
      rw (x, y) (spread_order Q (choices Q (record_of P σ)) (choices Q (record_of P τ)) d e h)
