-- 01, "Numbers and order of checks", codes 2 to 5: "document over 32,768 bytes"; "not in the subset"; "a row deeper than 64 (root is 1;
-- dropped text is no row)"; "over 2,048 rows". "The lowest that applies is given; the subset rule of 3 knows no limits on depth or
-- rows." "All other numbers in a refusal are 0."
use Rattle.std.specs.Prelude.{List, ℕ, ◌≤◌, ◌<◌, length}
use Rattle.meaning.specs.Forest.{rows}
use Rattle.tree.specs.Rows.{depth}
use Rattle.grammar.specs.Grammar.{Bytes, Content, Document, OutsideAt}
use Rattle.grammar.specs.Rows.{shape}

-- the code, the place and the rows for the document w, its dictionary being good and room being no matter
pub data Verdict (w : List ℕ) : ℕ → ℕ → ℕ → Type 0 where
  long : 32768 < length w → Verdict w 2 0 0
  outside : {p : ℕ} → length w ≤ 32768 → OutsideAt w p → Verdict w 3 p 0
  deep : {f : Content} {t : Bytes} → length w ≤ 32768 → Document w f t → 64 < depth (shape f) → Verdict w 4 0 0
  many : {f : Content} {t : Bytes} → length w ≤ 32768 → Document w f t → depth (shape f) ≤ 64 → 2048 < rows (shape f) → Verdict w 5 0 0
  read : {f : Content} {t : Bytes} → length w ≤ 32768 → Document w f t → depth (shape f) ≤ 64 → rows (shape f) ≤ 2048 →
      Verdict w 0 0 (rows (shape f))
