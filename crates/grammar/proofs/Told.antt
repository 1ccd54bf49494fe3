-- A row's sort can be told from the document: the byte before an element's spelling is <, the one before a text is >.
use mathlib.Core.Path.{◌≡◌, refl, ap, ◌∙◌}
use mathlib.Core.Bool.{Bool, true, false, cond, true≢false}
use mathlib.Core.List.{List, [], ◌∷◌}
use Prim.Native.Nat.{ℕ, suc, ◌+◌, ◌-◌, ◌<◌}
use native.Mathlib.Omega.{arith}
use lib.ListN.{length, get_or}
use lib.Seq.{get_or-append_seam}
use Rattle.grammar.specs.Grammar.{Bytes, ◌⊲◌, Content, nothing, empty_element, element, print, Document}
use Rattle.grammar.specs.Tokens.{Level, outer, inner, Run, WellFormed}
use Rattle.grammar.specs.Rows.{inked, #, width, of_element, of_text, Row, row, leaf_row, rows_from, rows_of}
use Rattle.grammar.specs.Told.{Tells}
use Rattle.grammar.proofs.InWords.{root_formed}
use Rattle.grammar.proofs.Trees.{white_run}
use Rattle.grammar.proofs.Rows.{All, Stands, behind_byte, behind_bytes, behind_content}

abbrev pub Preceded : List ℕ → Row → Type 0
Preceded w x = Tells w x.start x.sort

-- the byte before a is a >
record Ended (w : List ℕ) (a : ℕ) : Type 0 where
  some : 0 < a
  is : get_or w (a - 1) 0 ≡ 62

byte_there : {w : List ℕ} {a : ℕ} (b : ℕ) (v : List ℕ) → Stands w a (b ∷ v) → get_or w a 0 ≡ b
byte_there {w} {a} b v h = rw (← h.long) (ap (λ (l : List ℕ). get_or l (length h.before) 0) h.is ∙ get_or-append_seam h.before b v 0)

one_back : (w : List ℕ) (a c b : ℕ) → c ≡ a + 1 → get_or w a 0 ≡ b → get_or w (c - 1) 0 ≡ b
one_back w a c b e h = let z : c - 1 ≡ a = omega (arith, e) in rw z h

ended_at : {w : List ℕ} {a c : ℕ} (v : List ℕ) → Stands w a (62 ∷ v) → c ≡ a + 1 → Ended w c
ended_at {w} {a} {c} v h e = record { some = omega (arith, e); is = one_back w a c 62 e (byte_there 62 v h) }

module _ (w : List ℕ) where
  -- a run's row, where the run stands behind a > or is outside
  leaf_told : (l : Level) (k a : ℕ) (t : Bytes) (R : List Row) → Run l t → (l ≡ inner → Ended w a) → All (Preceded w) R → All (Preceded w) (leaf_row k a t R)
  leaf_told outer k a t R r e h = rw (white_run t r) h
  leaf_told inner k a t R r e h = go (inked t)
    where
      go : (y : Bool) → All (Preceded w) (cond y (row of_text k a t ∷ R) R)
      go true = (record { some = (e refl).some; is = (e refl).is }, h)
      go false = h

  named_told : (k a : ℕ) (n : Bytes) (v : List ℕ) → Stands w a (60 ∷ v) → Preceded w (row of_element k (a + 1) n)
  named_told k a n v s = record { some = omega arith; is = one_back w a (a + 1) 60 refl (byte_there 60 v s) }

  -- content ends with a > or is nothing
  content_ended : (l : Level) (a : ℕ) (f : Content) (v : List ℕ) → Stands w a (print f v) → (l ≡ inner → Ended w a) → l ≡ inner → Ended w (a + width f)
  unfolding width
  content_ended l a nothing v s e q = let z : a + 0 ≡ a = omega arith in rw z (e q)
  content_ended l a (empty_element f t n g) v s e q =
      let s₁ = behind_byte 60 _ (behind_bytes t _ (behind_content f _ s)) in
      ended_at v (behind_byte 47 _ (behind_bytes g _ (behind_bytes n _ s₁))) (omega arith)
  content_ended l a (element f t n g i u j) v s e q =
      let s₁ = behind_byte 60 _ (behind_bytes t _ (behind_content f _ s)) in
      let s₂ = behind_byte 62 _ (behind_bytes g _ (behind_bytes n _ s₁)) in
      let s₃ = behind_byte 47 _ (behind_byte 60 _ (behind_bytes u _ (behind_content i _ s₂))) in
      ended_at v (behind_bytes j _ (behind_bytes n _ s₃)) (omega arith)

  told_on : (l : Level) (k a : ℕ) (f : Content) (v : List ℕ) (R : List Row) → WellFormed l f → Stands w a (print f v) → (l ≡ inner → Ended w a) → All (Preceded w) R →
      All (Preceded w) (rows_from k a f R)
  unfolding rows_from
  told_on l k a nothing v R g s e h = h
  told_on l k a (empty_element f t n g) v R good s e h =
      let s₁ = behind_content f _ s in
      told_on l k a f _ _ good.0 s e (leaf_told l k (a + width f) t _ good.1 (content_ended l a f _ s e) (named_told k (a + width f + # t) n _ (behind_bytes t _ s₁), h))
  told_on l k a (element f t n g i u j) v R good s e h =
      let s₁ = behind_content f _ s in
      let s₂ = behind_bytes t _ s₁ in
      let s₃ = behind_bytes g _ (behind_bytes n _ (behind_byte 60 _ s₂)) in
      let inside : inner ≡ inner → Ended w (a + width f + # t + 1 + # n + # g + 1) = λ q. ended_at _ s₃ refl in
      told_on l k a f _ _ good.0.0 s e
      (leaf_told l k (a + width f) t _ good.0.1 (content_ended l a f _ s e) (
        named_told k (a + width f + # t) n _ s₂,
        told_on inner (suc k) _ i _ _ good.1 (behind_byte 62 _ s₃) inside (leaf_told inner (suc k) _ u R good.2 (content_ended inner _ i _ (behind_byte 62 _ s₃) inside) h),
      ))

pub rows_told : {w : List ℕ} {f : Content} {t : Bytes} → Document w f t → All (Preceded w) (rows_of f)
rows_told {w} {f} {t} d = told_on w outer 1 0 f (t ⊲ []) [] (root_formed f d.root) (record { before = []; is = d.printed; long = refl }) (λ q. absurd (apart q)) tt
  where
    apart : outer ≡ inner → ⊥
    apart q = true≢false (ap is_outer q)
      where
        is_outer : Level → Bool
        is_outer outer = true
        is_outer inner = false
