-- The verdict is unique, and so is the answer that it is about: a code, a place and a number of rows are those of one answer.
use mathlib.Core.Path.{◌≡◌, refl, sym, ◌∙◌}
use mathlib.Core.Bool.{cond}
use mathlib.Core.List.{List}
use Prim.Native.Nat.{ℕ, ◌≤◌, ◌<◌}
use native.Mathlib.Omega.{arith}
use lib.Dec.{eqb, ltb}
use lib.ListN.{length}
use borrow.Author.Tests.{lt-ltb, le-ltb}
use Rattle.std.specs.Prelude.{Result, Ok, Err}
use Rattle.meaning.specs.Forest.{rows}
use Rattle.tree.specs.Rows.{depth}
use Rattle.grammar.specs.Grammar.{Bytes, Content, Document, OutsideAt}
use Rattle.grammar.specs.Rows.{shape}
use Rattle.grammar.proofs.Unique.{one_reading, one_place}
use Rattle.judge.specs.Answer as Told
use Rattle.judge.specs.Verdict.{Verdict, long, outside, deep, many, read}
use Rattle.judge.specs.declared.refusal.Refusal.{Refusal}
use Rattle.judge.specs.declared.refusal.Refusal.TheVariants.{BadDictionary, TooLong, Outside, TooDeep, TooMany, NoRoom}

abbrev Answer : ℕ → ℕ → ℕ → ℕ → ℕ → ℕ → Type 0
Answer c p n c' p' n' = (c ≡ c') × (p ≡ p') × (n ≡ n')

over : {w : List ℕ} {c p n : ℕ} → Verdict w c p n → 32768 < length w → Answer c p n 2 0 0
over (long h) k = (refl, refl, refl)
over (outside h o) k = absurd (omega arith)
over (deep h d e) k = absurd (omega arith)
over (many h d e m) k = absurd (omega arith)
over (read h d e m) k = absurd (omega arith)

refused : {w : List ℕ} {c p n q : ℕ} → Verdict w c p n → length w ≤ 32768 → OutsideAt w q → Answer c p n 3 q 0
refused (long h) k o = absurd (omega arith)
refused {w} {c} {p} {n} {q} (outside h o) k o' = (refl, one_place w p q o o', refl)
refused (deep {f} {t} h d e) k o = absurd (o.early f t d)
refused (many {f} {t} h d e m) k o = absurd (o.early f t d)
refused (read {f} {t} h d e m) k o = absurd (o.early f t d)

-- the answer for a document so deep and of so many rows
code_of : ℕ → ℕ → ℕ
code_of d m = cond (ltb 64 d) 4 (cond (ltb 2048 m) 5 0)

rows_of : ℕ → ℕ → ℕ
rows_of d m = cond (ltb 64 d) 0 (cond (ltb 2048 m) 0 m)

whole : {w : List ℕ} {g : Content} {u : Bytes} {c p n : ℕ} → Verdict w c p n → length w ≤ 32768 → Document w g u →
    Answer c p n (code_of (depth (shape g)) (rows (shape g))) 0 (rows_of (depth (shape g)) (rows (shape g)))
unfolding code_of rows_of
whole (long h) k d = absurd (omega arith)
whole {w} {g} {u} (outside h o) k d = absurd (o.early g u d)
whole {w} {g} (deep {f} h d e) k d' =
    let z : g ≡ f = (one_reading d' d).0 in
    rw (z, lt-ltb 64 (depth (shape f)) e) (refl, refl, refl)
whole {w} {g} (many {f} h d e m) k d' =
    let z : g ≡ f = (one_reading d' d).0 in
    rw (z, le-ltb 64 (depth (shape f)) e, lt-ltb 2048 (rows (shape f)) m) (refl, refl, refl)
whole {w} {g} (read {f} h d e m) k d' =
    let z : g ≡ f = (one_reading d' d).0 in
    rw (z, le-ltb 64 (depth (shape f)) e, le-ltb 2048 (rows (shape f)) m) (refl, refl, refl)

same : {c p n c' p' n' a b e : ℕ} → Answer c p n a b e → Answer c' p' n' a b e → Answer c p n c' p' n'
same x y = (x.0 ∙ sym y.0, x.1 ∙ sym y.1, x.2 ∙ sym y.2)

pub one_verdict : {w : List ℕ} {c p n c' p' n' : ℕ} → Verdict w c p n → Verdict w c' p' n' → (c ≡ c') × (p ≡ p') × (n ≡ n')
one_verdict {w} (long h) v = same (over {w = w} (long h) h) (over v h)
one_verdict (outside h o) v = same (refused (outside h o) h o) (refused v h o)
one_verdict (deep h d e) v = same (whole (deep h d e) h d) (whole v h d)
one_verdict (many h d e m) v = same (whole (many h d e m) h d) (whole v h d)
one_verdict (read h d e m) v = same (whole (read h d e m) h d) (whole v h d)

-- the answer of a code, a place and a number of rows
abbrev of_numbers : ℕ → ℕ → ℕ → Result ℕ Refusal
of_numbers code place rows =
    cond (eqb code 0) (Ok rows)
    (cond (eqb code 1) (Err BadDictionary)
    (cond (eqb code 2) (Err TooLong)
    (cond (eqb code 3) (Err (Outside place))
    (cond (eqb code 4) (Err TooDeep)
    (cond (eqb code 5) (Err TooMany) (Err NoRoom))))))

of_its_numbers : (r : Result ℕ Refusal) → of_numbers (Told.code_of r) (Told.place_of r) (Told.rows_of r) ≡ r
of_its_numbers (Ok n) = refl
of_its_numbers (Err BadDictionary) = refl
of_its_numbers (Err TooLong) = refl
of_its_numbers (Err (Outside p)) = refl
of_its_numbers (Err TooDeep) = refl
of_its_numbers (Err TooMany) = refl
of_its_numbers (Err NoRoom) = refl

-- no two answers have the same numbers
pub one_told : (r s : Result ℕ Refusal) → Told.code_of r ≡ Told.code_of s → Told.place_of r ≡ Told.place_of s → Told.rows_of r ≡ Told.rows_of s → r ≡ s
one_told r s c p n = sym (of_its_numbers r) ∙ (λ i. of_numbers (c i) (p i) (n i)) ∙ of_its_numbers s

pub one_judged : {w : List ℕ} {r s : Result ℕ Refusal} → Verdict w (Told.code_of r) (Told.place_of r) (Told.rows_of r) → Verdict w (Told.code_of s) (Told.place_of s) (Told.rows_of s) → r ≡ s
one_judged {r = r} {s = s} a b = let o = one_verdict a b in one_told r s o.0 o.1 o.2
