-- No two records of a list mean the same substitution.
use Prim.Native.Nat.{ℕ, zero, suc, ◌<◌}
use mathlib.Core.Path.{◌≡◌, refl, ap, ◌∙◌, sym}
use mathlib.Core.Logic.{inl, inr}
use mathlib.Core.List.{List, [], ◌∷◌, ◌++◌}
use lib.ListN.{length, get_or, get_or-append, length-append}
use native.Mathlib.Omega.{arith}
use Rattle.meaning.specs.Forest.{none, Term, ◌◂◌}
use Rattle.meaning.specs.Pattern.{Pattern, Kind, Numbered}
use Rattle.meaning.specs.Matcher.{Value}
use Rattle.meaning.specs.Record.{record_of, IsRecord}
use Rattle.meaning.specs.Read.{read_off}
use Rattle.meaning.specs.Order.{seconds, ◌⊏◌, Mem, Ascending}
use Rattle.meaning.proofs.Round.{round}
use Rattle.catalogue.specs.Answer.{Room, Result}
use Rattle.catalogue.specs.Listing.{Meant}
use Rattle.catalogue.proofs.Ascent.{⊏-irrefl}
use Rattle.catalogue.proofs.Facts.{leading}

mem_at : {A : Type 0} (d : A) (l : List A) (i : ℕ) → i < length l → Mem (get_or l i d) l
mem_at d [] i h = absurd (omega arith)
mem_at d (a ∷ l) zero h = inl refl
mem_at d (a ∷ l) (suc i) h = inr (mem_at d l i (omega arith))

ascending_at : {A : Type 0} (R : A → A → Type 0) (d : A) (l : List A) (i j : ℕ) → Ascending R l → i < j → j < length l → R (get_or l i d) (get_or l j d)
ascending_at R d [] i j a h k = absurd (omega arith)
ascending_at R d (x ∷ l) i zero a h k = absurd (omega arith)
ascending_at R d (x ∷ l) zero (suc j) a h k = a.0 (get_or l j d) (mem_at d l j (omega arith))
ascending_at R d (x ∷ l) (suc i) (suc j) a h k = ascending_at R d l i j a.1 (omega arith) (omega arith)

module _ (Allowed : ℕ → Value → Type 0) (allowed? : (x : ℕ) (v : Value) → Dec (Allowed x v)) {Q : List Kind} {P : Pattern} {T : Term} (g : Numbered P Q) where
  -- a record is that of the substitution that it means
  means : {r : List ℕ} → IsRecord Allowed Q P T r → r ≡ record_of P (read_off Q (T ◂ none) r)
  means {r} a =
      let e = round Allowed allowed? g a.solves in
      sym a.its ∙ ap (record_of P) (sym e ∙ ap (λ (s : List ℕ). read_off Q (T ◂ none) s) a.its)

  pub different : {budget : ℕ} {room : Room} {x : Result} → Meant Allowed Q P T budget room x → (i j : ℕ) → i < j → j < length x.records
      → read_off Q (T ◂ none) (get_or x.records i []) ≡ read_off Q (T ◂ none) (get_or x.records j []) → ⊥
  different {x = x} m i j h k e =
      let b = leading m in
      let n : length m.solutions ≡ length (x.records ++ b.rest) = ap length b.is in
      let long : j < length m.solutions = omega (arith, n, length-append x.records b.rest) in
      let at : (p : ℕ) → p < length x.records → get_or m.solutions p [] ≡ get_or x.records p [] = λ p l. rw b.is (get_or-append x.records b.rest [] p l) in
      let s = m.solutions_are in
      let before = ascending_at (λ r s. seconds r ⊏ seconds s) [] m.solutions i j s.ordered h long in
      let a = (s.all (get_or m.solutions i [])).0 (mem_at [] m.solutions i (omega arith)) in
      let c = (s.all (get_or m.solutions j [])).0 (mem_at [] m.solutions j long) in
      let same : get_or m.solutions i [] ≡ get_or m.solutions j [] =
      means a ∙ ap (record_of P) (ap (λ (r : List ℕ). read_off Q (T ◂ none) r) (at i (omega arith)) ∙ e ∙ ap (λ (r : List ℕ). read_off Q (T ◂ none) r) (sym (at j k))) ∙ sym (means c) in
      ⊏-irrefl (seconds (get_or m.solutions j [])) (rw same at before)
