-- Laws of lists: entries and their numbers, and two lists that agree up to a place.
use Prim.Native.Nat.{ℕ, zero, suc, ◌+◌, ◌<◌}
use mathlib.Core.Path.{◌≡◌, refl, ◌∙◌, sym}
use mathlib.Core.List.{List, [], ◌∷◌, ◌++◌}
use lib.ListN.{length, get_or, take, length-take}
use lib.Seq.{ext_get_or, get_or-take}
use native.Mathlib.Omega.{arith}
use Rattle.meaning.specs.Pattern.{old, look}
use Rattle.meaning.specs.Matcher.{Value, kind, kinds}
use Rattle.meaning.specs.Record.{Entry, entry, second, numbers}
use Rattle.meaning.specs.Read.{values}
use Rattle.meaning.proofs.Lists.{look_old}

pub kinds_look : (l : List Value) (x : ℕ) (v : Value) → look l x ≡ old v → look (kinds l) x ≡ old (kind v)
kinds_look [] x v h = absurd (omega (arith, look_old [] x v h))
kinds_look (w ∷ l) zero v h = let z : w ≡ v = cc in rw z
kinds_look (w ∷ l) (suc x) v h = kinds_look l x v h

-- entries
pub values_look : (B : List Entry) (x : ℕ) (v : Value) → look (values B) x ≡ old v → (e : Entry) × (look B x ≡ old e) × (e.value ≡ v)
values_look [] x v h = absurd (omega (arith, look_old [] x v h))
values_look (e ∷ B) zero v h = (e, refl, cc)
values_look (e ∷ B) (suc x) v h = values_look B x v h

pub numbers_more : (B : List Entry) (v : Value) (t : ℕ) → numbers (B ++ (entry v t ∷ [])) ≡ numbers B ++ (t ∷ second v t ∷ [])
numbers_more [] v t = refl
numbers_more (e ∷ B) v t = rw (numbers_more B v t)

pub numbers_at : (B : List Entry) (x : ℕ) (e : Entry) → look B x ≡ old e → (get_or (numbers B) (x + x) 0 ≡ e.row) × (get_or (numbers B) (x + x + 1) 0 ≡ second e.value e.row)
numbers_at [] x e h = absurd (omega (arith, look_old [] x e h))
numbers_at (d ∷ B) zero e h = let z : d ≡ e = cc in rw z (refl, refl)
numbers_at (d ∷ B) (suc x) e h =
    let n = numbers_at B x e h in
    let a : suc x + suc x ≡ suc (suc (x + x)) = omega arith in
    let b : suc (suc (x + x)) + 1 ≡ suc (suc (x + x + 1)) = omega arith in
    rw (a, b) n

-- lists that agree up to a place
module _ (X Y : List ℕ) (long : length X ≡ length Y) where
  pub same_before : (m : ℕ) → ((i : ℕ) → i < m → get_or X i 0 ≡ get_or Y i 0) → take m X ≡ take m Y
  same_before m h =
      ext_get_or 0 (take m X) (take m Y) (simp (length-take, long))
      λ i f. let g : i < m = omega (arith, length-take m X) in get_or-take m X i 0 g ∙ h i g ∙ sym (get_or-take m Y i 0 g)
