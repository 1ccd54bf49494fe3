-- A document has one reading, a refusal one place.
use mathlib.Core.Path.{◌≡◌, refl, sym, ◌∙◌}
use mathlib.Core.Bool.{Bool, true, false}
use mathlib.Core.List.{List, []}
use Prim.Native.Nat.{ℕ, suc, ◌<◌, ◌≤◌}
use native.Mathlib.Omega.{arith}
use lib.Dec.{ltb}
use lib.ListN.{take, drop, take-append-drop}
use lib.Seq.{take-take}
use borrow.Author.Tests.{ltb-true, ltb-false}
use Rattle.grammar.specs.Grammar.{Bytes, Content, Document, Opening, OutsideAt}
use Rattle.grammar.specs.Machine.{in_run, runs, initial}
use Rattle.grammar.proofs.Theory.{accepts, lives, begins, live_step, runs_append}

pub one_reading : {w : List ℕ} {f g : Content} {t u : Bytes} → Document w f t → Document w g u → (f ≡ g) × (t ≡ u)
one_reading {w} {f} {g} {t} {u} d e =
    let p : in_run [] f t ≡ in_run [] g u = sym (accepts d) ∙ accepts e in
    (cc, cc)

-- what begins a document, its beginnings begin too
begins_take : (w : List ℕ) (p q : ℕ) → p ≤ q → Opening (take q w) → Opening (take p w)
begins_take w p q h v =
    begins (take p w)
    (live_step (runs initial (take p w)) (drop p (take q w))
    (rw (← (runs_append initial (take p w) (drop p (take q w))), ← (take-take p q w h), take-append-drop p (take q w)) (lives (take q w) v)))

before_not : (w : List ℕ) (p q : ℕ) → OutsideAt w p → OutsideAt w q → p < q → ⊥
before_not w p q a b h = a.there (omega (arith, b.within)) (begins_take w (suc p) q h b.before)

pub one_place : (w : List ℕ) (p q : ℕ) → OutsideAt w p → OutsideAt w q → p ≡ q
one_place w p q a b = go (ltb p q) (ltb q p) refl refl
  where
    go : (t u : Bool) → ltb p q ≡ t → ltb q p ≡ u → p ≡ q
    go true u e f = absurd (before_not w p q a b (ltb-true p q e))
    go false true e f = absurd (before_not w q p b a (ltb-true q p f))
    go false false e f = omega (arith, ltb-false p q e, ltb-false q p f)
