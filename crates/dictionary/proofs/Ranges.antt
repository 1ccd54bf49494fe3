-- Laws of the bytes from a start up to an end.
use mathlib.Core.Path.{◌≡◌, sym, ap, ◌∙◌}
use mathlib.Core.Bool.{Bool}
use mathlib.Core.List.{List}
use Prim.Native.Nat.{ℕ, ◌+◌, ◌-◌, ◌≤◌, ◌<◌}
use native.Mathlib.Omega.{arith}
use lib.ListN.{length, get_or, drop, length-take, length-drop}
use lib.Seq.{get_or-take, get_or-drop, ext_get_or}
use Rattle.meaning.specs.Calls.{Says}
use Rattle.words.specs.Words.{Again}
use Rattle.dictionary.specs.Scan.{range}

pub range_length : (d : List ℕ) (i e : ℕ) → e ≤ length d → length (range d i e) ≡ e - i
range_length d i e h = simp (length-take, length-drop) (omega arith)

-- ITS BYTES
pub range_at : (d : List ℕ) (i e k : ℕ) → k < e - i → get_or (range d i e) k 0 ≡ get_or d (i + k) 0
range_at d i e k h = get_or-take (e - i) (drop i d) k 0 h ∙ get_or-drop i d k 0

pub range_stands : (d : List ℕ) (i e : ℕ) → Again d i (range d i e) 0 (e - i)
range_stands d i e = record { each = λ k h. ap (λ (m : ℕ). get_or (range d i e) m 0) (omega arith) ∙ range_at d i e k h }

-- two ranges are equal where the one stands again
pub says_range : {left right : List ℕ} {at start end : ℕ} {r : Bool} → at + (end - start) ≤ length left → end ≤ length right →
    Says r (Again left at right start (end - start)) → Says r (range left at (at + (end - start)) ≡ range right start end)
says_range {left} {right} {at} {start} {end} p q s = (λ e. there (s.0 e), λ e. s.1 (record { each = λ k h. back e k h }))
  where
    size : at + (end - start) - at ≡ end - start
    size = omega arith

    there : Again left at right start (end - start) → range left at (at + (end - start)) ≡ range right start end
    there h =
        ext_get_or 0 (range left at (at + (end - start))) (range right start end)
        (range_length left at (at + (end - start)) p ∙ size ∙ sym (range_length right start end q))
        (λ k l.
        let m : k < end - start = omega (arith, l, range_length left at (at + (end - start)) p, size) in
        range_at left at (at + (end - start)) k (omega (arith, m, size)) ∙ sym (h.each k m) ∙ sym (range_at right start end k m))

    back : range left at (at + (end - start)) ≡ range right start end → (k : ℕ) → k < end - start → get_or right (start + k) 0 ≡ get_or left (at + k) 0
    back e k h =
        sym (range_at right start end k h) ∙ ap (λ (l : List ℕ). get_or l k 0) (sym e) ∙ range_at left at (at + (end - start)) k (omega (arith, h, size))
